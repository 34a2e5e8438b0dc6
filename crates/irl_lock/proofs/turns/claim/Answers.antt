use Rattle.std.proofs.Common.{rules, ◌∷◌, ◌∙◌}
use Rattle.irl_lock.specs.Plays.{with_turns}
use Rattle.irl_lock.proofs.ClaimSteps.{claims, lies_in}
use Rattle.irl_lock.proofs.turns.claim.Goals as goal

pub compare_exchange-found-requires : goal.compare_exchange-found-requires
compare_exchange-found-requires g c = (search rules, search rules, claims _ _ _ _ _ _ (search rules) (search rules) (search rules))

pub exchange-taken-requires : goal.exchange-taken-requires
exchange-taken-requires g c =
    let e = c.compare_exchange-found.ensures in
    let won = e.2.0 c.if-found-eq0.true in
    let was = c.loop.token.me in (
      e.0 ∙ c.loop.invariant.0 ∙ c.requires.own.own_is,
      lies_in c.args.t won.0 (with_turns ((c.args.t, won.0) ∷ was.0.turns) was.0) was.1 c.compare_exchange-found.new.seat.me won.1,
    )
