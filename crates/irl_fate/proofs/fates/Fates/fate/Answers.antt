use Rattle.std.proofs.Common.{◌∙◌, ℕ, List, ap, subst, sym}
use Rattle.irl_events.specs.Events.{Progress}
use Rattle.irl_fate.specs.declared.fate.Fate.{Fate}
use Rattle.irl_fate.specs.Fates.{fate_of}
use Rattle.irl_fate.specs.Kept.{fate_in, numbers_in, AreSorted}
use Rattle.irl_fate.proofs.Agreeing.{stands_where}
use Rattle.irl_fate.proofs.Entries.{rising_sorted}
use Rattle.irl_fate.proofs.fates.Fates.fate.Goals as goal

pub fate_at-requires : goal.fate_at-requires
fate_at-requires c =
    subst (λ (t : List (ℕ × Fate)). AreSorted (numbers_in t)) (sym c.deref.ensures.value)
    (rising_sorted 0 c.self.inside.read (numbers_in c.self.inside.fates.items) c.self.invariant.rising)

pub returns : goal.returns
returns c =
    c.fate_at.ensures ∙ ap (λ (t : List (ℕ × Fate)). fate_in t c.args.number) c.deref.ensures.value
    ∙ stands_where c.self.invariant.agree c.args.number ∙ ap (λ (x : Progress). fate_of x c.args.number) c.self.view_is
