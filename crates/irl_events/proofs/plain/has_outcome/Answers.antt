use Rattle.std.proofs.Common.{◌≡◌, ◌∙◌, ℕ, List, [], ◌∷◌, map, nat_eq, refl, ap, rules, tests}
use Rattle.std.specs.Prelude.{◌||◌, Bool}
use Rattle.std.specs.List.{list_any}
use Rattle.std.proofs.lemmas.Iterator.{YieldsList-from_slice}
use Rattle.std.proofs.lemmas.Iterator.Search.{any_from_yields_List}
use Rattle.irl_offer.specs.declared.outcome.Outcome.{Outcome}
use Rattle.irl_events.specs.Events.{has_number}
use Rattle.irl_events.proofs.plain.has_outcome.Goals as goal

any_number : (done : List (ℕ × Outcome)) (n : ℕ) → list_any (λ d. nat_eq d.0 n) done ≡ has_number (map (λ d. d.0) done) n
any_number [] n = refl
any_number (d ∷ done) n = ap (λ (b : Bool). nat_eq d.0 n || b) (any_number done n)

pub returns : goal.returns
returns c =
    any_from_yields_List (λ (d : ℕ × Outcome). nat_eq d.0 c.args.number) _ _ c.any.result c.any.ensures.ran (YieldsList-from_slice c.args.done.now cc) (λ x b q k. search (rules, tests))
    ∙ any_number c.args.done.now c.args.number
