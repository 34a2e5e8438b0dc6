-- The first numbers of a front.
use Rattle.std.proofs.Common.{◌≡◌, ◌∙◌, Bool, true, false, ℕ, zero, suc, ◌<◌, ◌≤◌, List, [], ◌∷◌, length, get_or, refl, sym, ap, subst, arith}
use Rattle.std.proofs.lemmas.Bool.{eq-eqb}
use Rattle.std.proofs.lemmas.List.{get_or-take, length-take}
use Rattle.irl_events.specs.Events.{has_number}
use Rattle.irl_fate.specs.Fronts.{AreFirst}
use Rattle.irl_fate.specs.Standing.{count, one_if}
use Rattle.irl_fate.proofs.Counting.{absent_count}

counted : (xs : List ℕ) (i d : ℕ) → i < length xs → 1 ≤ count (get_or xs i d) xs
counted [] i d lt = absurd (omega (arith, lt))
counted (x ∷ xs) zero d lt = omega (arith, ap one_if (eq-eqb x x refl))
counted (x ∷ xs) (suc i) d lt = let rest = counted xs i d (omega (arith, lt)) in omega (arith, rest)

has_counted : (xs : List ℕ) (n : ℕ) → 1 ≤ count n xs → has_number xs n ≡ true
has_counted xs n some = by (has_number xs n) refl
  where
    by : (b : Bool) → has_number xs n ≡ b → b ≡ true
    by true e = refl
    by false e = absurd (omega (arith, some, absent_count xs n e))

pub first_front : (front : List ℕ) (most : ℕ) (numbers : List ℕ) (i d : ℕ) → AreFirst front most numbers → i < length numbers → has_number front (get_or numbers i d) ≡ true
first_front front most numbers i d are lt =
    let long = ap length are.first ∙ length-take most are.all in
    let here : get_or numbers i d ≡ get_or are.all i d = ap (λ (ns : List ℕ). get_or ns i d) are.first ∙ get_or-take most are.all i d (omega (arith, lt, long)) in
    let n : ℕ = get_or are.all i d in
    let some : 1 ≤ count n are.all = counted are.all i d (omega (arith, lt, long)) in
    subst (λ (m : ℕ). has_number front m ≡ true) (sym here) (has_counted front n (omega (arith, some, are.same n)))
