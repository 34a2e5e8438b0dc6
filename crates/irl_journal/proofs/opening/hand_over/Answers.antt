use Rattle.std.proofs.Common.{◌∷◌, [], ◌++◌, refl, rules}
use Rattle.irl_journal.proofs.Reading.{takes-record, hands-over}
use Rattle.irl_journal.proofs.opening.hand_over.Goals as goal

pub loop-payload-preserved : goal.loop-payload-preserved
loop-payload-preserved g c =
    let so_far = c.loop-payload.invariant in
    let payload = c.in-Some.payload.now in (
      so_far.0 ++ payload ∷ [],
      takes-record g.V.Visit.takes c.args.visitor.now c.loop-payload.visitor _ c.args.at _ c.args.bytes.now c.loop-payload.rest.now payload _ so_far.0 so_far.1 c.in-Some.ensures.found.0
          c.in-Some.ensures.found.1 c.in-Some.ensures.found.2 refl (c.in_ok-take.ensures.taken (search rules)),
    )

pub returns-clause-records : goal.returns-clause-records
returns-clause-records g c =
    let so_far = c.loop-payload.invariant in
    hands-over g.V.Visit.takes c.args.visitor.now c.loop-payload.visitor c.args.at _ _ c.args.bytes.now c.loop-payload.rest.now so_far.0 so_far.1 (c.in_default.ensures.none) refl
    c.begins_closed.ensures.closed c.begins_closed.ensures.open
