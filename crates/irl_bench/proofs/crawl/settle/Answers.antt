use Rattle.std.proofs.Common.{◌∙◌, ℕ, List, map, refl, sym, ap}
use Rattle.irl_events.specs.Legal.{are_distinct}
use Rattle.irl_offer.specs.declared.outcome.Outcome.{Outcome}
use Rattle.irl_bench.proofs.Settling.{may_settle}
use Rattle.irl_bench.proofs.crawl.settle.Goals as goal

pub settle-requires-clause-settles : goal.settle-requires-clause-settles
settle-requires-clause-settles g c =
    let can = c.if-not-can_settle.ensures in
    may_settle c.args.yard.now.parts.urls c.args.yard.now.parts.rest c.args.done.now (can.some refl) (can.limit refl) (can.front refl) (can.links refl)
    (ap (λ (l : List (ℕ × Outcome)). are_distinct (map (λ (d : ℕ × Outcome). d.0) l)) (sym (c.deref.ensures.value ∙ c.in_ok-outcomes.ensures)) ∙ sym c.in_ok-differ.ensures ∙ c.if-not-differ.false)
