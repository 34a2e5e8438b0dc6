use Rattle.std.proofs.Common.{◌∙◌, List, ℕ, ap, subst, sym}
use Rattle.irl_offer.specs.declared.outcome.Outcome.{Outcome}
use Rattle.irl_events.specs.Legal.{are_distinct}
use Rattle.irl_fate.specs.declared.fate.Fate.{Fate}
use Rattle.irl_fate.specs.Kept.{numbers_in, AreSorted}
use Rattle.irl_fate.proofs.Applying.{settles_by}
use Rattle.irl_fate.proofs.Entries.{rising_sorted}
use Rattle.irl_fate.proofs.Marking.{numbers_done}
use Rattle.irl_fate.proofs.fates.Fates.keeps_settle.Goals as goal

pub settles_front-requires-clause-sorted : goal.settles_front-requires-clause-sorted
settles_front-requires-clause-sorted c =
    subst (λ (t : List (ℕ × Fate)). AreSorted (numbers_in t)) (sym c.deref.ensures.value)
    (rising_sorted 0 c.self.inside.read (numbers_in c.self.inside.fates.items) c.self.invariant.rising)

pub returns-in_ok-differ-in-Settle : goal.returns-in_ok-differ-in-Settle
returns-in_ok-differ-in-Settle c =
    settles_by c.self.inside c.args.self.now c.args.event.now _ _ c.self.invariant c.self.view_is c.in-Settle.is c.settles_front.result c.in_ok-differ-in-Settle.differ _ _ _ _
    c.deref.ensures.value c.deref-in-Settle.ensures.value c.items-in-Settle.ensures c.items-in-Settle-2.ensures
    (c.in_ok-differ-in-Settle.ensures ∙ ap (λ (t : List (ℕ × Outcome)). are_distinct (numbers_done t)) c.items.ensures)
    c.settles_front.ensures
