-- The test for a match, octet by octet.
use Rattle.std.proofs.Common.{◌≡◌, ◌≢◌, ◌⊎◌, ℕ, ◌-◌, ◌<◌, ◌≤◌, Bool, true, false, ◌&&◌, eqb, List, [], ◌∷◌, length, get_or, take, drop, refl, eq-eqb, arith}
use Rattle.std.proofs.lemmas.List.{take_all}
use Rattle.std.proofs.lemmas.Bool.Decides.{nat_tests}
use Rattle.irl_robots.specs.Matching.{matches, is_empty, one_then, some_end}

-- a pattern that has ended matches whatever follows
pub matches-at_empty : (p t : List ℕ) → length p < 1 → matches p t ≡ true
unfolding matches
matches-at_empty [] t short = refl
matches-at_empty (c ∷ cs) t short = absurd (omega (arith, short))

-- `$` as the last octet matches the end
pub matches-at_end : (p t : List ℕ) → 1 ≤ length p → length p < 2 → get_or p 0 0 ≡ 36 → matches p t ≡ is_empty t
unfolding matches
matches-at_end [] t long short is = absurd (omega (arith, long))
matches-at_end (c ∷ []) t long short is = rw is refl
matches-at_end (c ∷ d ∷ cs) t long short is = absurd (omega (arith, short))

-- `*` matches each end
pub matches-star : (cs t : List ℕ) → matches (42 ∷ cs) t ≡ some_end (matches cs) t
unfolding matches
matches-star cs t = refl

-- the octet is neither `*` nor a `$` at the end
abbrev pub IsLiteralAt : ℕ → List ℕ → Type 0
IsLiteralAt c cs = (eqb c 42 ≡ false) × ((eqb c 36 && is_empty cs) ≡ false)

-- any other octet matches itself
pub matches-one : (c : ℕ) (cs t : List ℕ) → IsLiteralAt c cs → matches (c ∷ cs) t ≡ one_then c (matches cs) t
unfolding matches
matches-one c cs t h = rw (h.0, h.1) refl

literal-at : (c : ℕ) (cs : List ℕ) → c ≢ 42 → (c ≢ 36) ⊎ (2 ≤ length (c ∷ cs)) → IsLiteralAt c cs
literal-at c [] star last = (grind (arith, nat_tests), grind (arith, nat_tests))
literal-at c (d ∷ cs) star last = (grind (arith, nat_tests), grind (arith, nat_tests))

pub matches-at_octet : (p t : List ℕ) → 1 ≤ length p → get_or p 0 0 ≢ 42 → (get_or p 0 0 ≢ 36) ⊎ (2 ≤ length p) → matches p t ≡ one_then (get_or p 0 0) (matches (take (length p - 1) (drop 1 p))) t
matches-at_octet [] t long star last = absurd (omega (arith, long))
matches-at_octet (c ∷ cs) t long star last = rw (take_all (length (c ∷ cs) - 1) cs (omega arith)) (matches-one c cs t (literal-at c cs star last))

-- an octet that is met, and one that isn't
pub one_then-met : (c o : ℕ) (passes : List ℕ → Bool) (t rest : List ℕ) → t ≡ o ∷ rest → o ≡ c → one_then c passes t ≡ passes rest
one_then-met c o passes t rest is met = rw (is, met, eq-eqb c c refl) refl

pub one_then-unmet : (c o : ℕ) (passes : List ℕ → Bool) (t rest : List ℕ) → t ≡ o ∷ rest → o ≢ c → one_then c passes t ≡ false
one_then-unmet c o passes t rest is unmet =
    let differs : eqb c o ≡ false = grind (arith, nat_tests) in rw (is, differs) refl

pub one_then-past : (c : ℕ) (passes : List ℕ → Bool) (t : List ℕ) → t ≡ [] → one_then c passes t ≡ false
one_then-past c passes t is = rw is refl

-- a list as a match on a slice reads it
pub first-and-rest : (p : List ℕ) → 1 ≤ length p → p ≡ get_or p 0 0 ∷ take (length p - 1) (drop 1 p)
first-and-rest [] long = absurd (omega (arith, long))
first-and-rest (c ∷ cs) long = rw (take_all (length (c ∷ cs) - 1) cs (omega arith)) refl
