use Rattle.std.proofs.Common.{Ok, Err}
use Rattle.irl_desk.specs.Serving.{serving_of}
use Rattle.irl_lock.specs.Sharing.{opening_of}
use Rattle.irl_lock.proofs.Leaving.{closes_by, goes_on}
use Rattle.irl_lock.proofs.shared.Shared.close.Goals as goal

pub resume-desk-requires : goal.resume-desk-requires
resume-desk-requires g c =
    let known = c.join-token.result.me.0.known in
    let left = c.take_out-arrays in
    record {
      arrays = left.ensures.enters.arrays;
      sound = goes_on (opening_of c.args.self) known left.result.0.items left.result.1 left.ensures;
    }

pub returns-in-Ok : goal.returns-in-Ok
returns-in-Ok g c =
    let left = c.take_out-arrays in
    let join = c.join-token in
    closes_by (opening_of c.args.self) join.result.me.0.known left.result.0.items left.result.1 c.args.passes.items (Ok c.close-closed.result.1) c.close-closed.result.0
    (serving_of c.resume-desk.result) left.ensures join.ensures.shares c.requires.free c.resume-desk.ensures c.in-Ok.is c.close-closed.ensures

pub returns-in-Err : goal.returns-in-Err
returns-in-Err g c =
    let left = c.take_out-arrays in
    let join = c.join-token in
    closes_by (opening_of c.args.self) join.result.me.0.known left.result.0.items left.result.1 c.args.passes.items (Err (c.in-Err.fault, c.close-closed.result.1)) c.close-closed.result.0
    (serving_of c.resume-desk.result) left.ensures join.ensures.shares c.requires.free c.resume-desk.ensures c.in-Err.is c.close-closed.ensures
