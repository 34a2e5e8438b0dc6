-- The form of a path, unit by unit.
use Rattle.std.proofs.Common.{◌≡◌, ℕ, ◌-◌, ◌≤◌, true, false, List, [], ◌∷◌, ◌++◌, length, get_or, take, drop, refl, sym, arith}
use Rattle.std.proofs.lemmas.List.{append-nil, take_all}
use Rattle.irl_robots.specs.Normal.{is_triplet, begins_triplet, normal, normal_octet, normal_triplet}

-- a path that begins with no triplet begins with an octet that stands alone
pub normal-lone : (c : ℕ) (cs : List ℕ) → begins_triplet (c ∷ cs) ≡ false → normal (c ∷ cs) ≡ normal_octet c ++ normal cs
unfolding normal
normal-lone c [] none = sym (append-nil (normal_octet c))
normal-lone c (d ∷ []) none = refl
normal-lone c (d ∷ e ∷ cs) none = rw none refl

-- a path that begins with one
pub normal-triplet : (c d e : ℕ) (cs : List ℕ) → is_triplet c d e ≡ true → normal (c ∷ d ∷ e ∷ cs) ≡ normal_triplet d e ++ normal cs
unfolding normal
normal-triplet c d e cs whole = rw whole refl

pub normal-nil : normal [] ≡ []
unfolding normal
normal-nil = refl

-- the same, as a match on a slice reads it
pub normal-at_lone : (xs : List ℕ) → 1 ≤ length xs → begins_triplet xs ≡ false → normal xs ≡ normal_octet (get_or xs 0 0) ++ normal (take (length xs - 1) (drop 1 xs))
normal-at_lone [] few none = absurd (omega (arith, few))
normal-at_lone (c ∷ cs) few none = rw (take_all (length (c ∷ cs) - 1) cs (omega arith)) (normal-lone c cs none)

pub normal-at_triplet : (xs : List ℕ) → 3 ≤ length xs → is_triplet (get_or xs 0 0) (get_or xs 1 0) (get_or xs 2 0) ≡ true
    → normal xs ≡ normal_triplet (get_or xs 1 0) (get_or xs 2 0) ++ normal (take (length xs - 3) (drop 3 xs))
normal-at_triplet [] few whole = absurd (omega (arith, few))
normal-at_triplet (c ∷ []) few whole = absurd (omega (arith, few))
normal-at_triplet (c ∷ d ∷ []) few whole = absurd (omega (arith, few))
normal-at_triplet (c ∷ d ∷ e ∷ cs) few whole = rw (take_all (length (c ∷ d ∷ e ∷ cs) - 3) cs (omega arith)) (normal-triplet c d e cs whole)
