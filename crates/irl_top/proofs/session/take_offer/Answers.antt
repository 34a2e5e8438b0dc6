use Rattle.std.proofs.Common.{refl, ap}
use Rattle.irl_top.specs.Session.{place_of}
use Rattle.irl_top.proofs.Stepping.{push_steps}
use Rattle.irl_top.proofs.session.take_offer.Goals as goal

pub returns-clause-steps : goal.returns-clause-steps
returns-clause-steps g c =
    let at = place_of g.O.Sink.written g.O.Sink.faults in
    let p0 = at c.args.intake.now c.args.output.now c.args.printed.now in
    let p1 = at c.advance_and_print.new.intake c.advance_and_print.new.output c.advance_and_print.new.printed in
    let p2 = at c.push.new.self c.advance_and_print.new.output c.advance_and_print.new.printed in
    let same = c.push.ensures.same in
    push_steps c.args.kind c.args.offer tt p0 p1 p2 (g.met.S.Store.is_consistent c.advance_and_print.new.intake.yard.store) (ap (λ (y : _). y.parts.urls) same)
    (ap (λ (y : _). (g.S.Store.told y.store).faults) same) refl refl c.in_ok-advance_and_print.ensures.steps c.push.ensures.stays c.push.ensures.fed
