-- Numbers in their ranges, as settings.
use Rattle.std.proofs.Common.{◌≡◌, ℕ, ◌≤◌, List, [], ◌∷◌, length, refl, arith}
use Rattle.std.proofs.lemmas.Bool.Decides.{nat_tests}
use Rattle.std.specs.Prelude.{slice_index, Option, None, Some, IfSome}
use Rattle.irl_offer.specs.Buckets.{IsBucketCount}
use Rattle.irl_head.specs.Numbers.{AreInRange, IsBadNumber}

-- a number of buckets is at most 64
pub count_small : (n : ℕ) → IsBucketCount n → n ≤ 64
count_small n is = grind (arith, nat_tests)

-- eleven numbers, one by one
pub eleven : (xs : List ℕ) → length xs ≡ 11
    → slice_index xs 0 ∷ slice_index xs 1 ∷ slice_index xs 2 ∷ slice_index xs 3 ∷ slice_index xs 4 ∷ slice_index xs 5 ∷ slice_index xs 6 ∷ slice_index xs 7 ∷ slice_index xs 8 ∷ slice_index xs 9
    ∷ slice_index xs 10 ∷ [] ≡ xs
eleven [] long = absurd (omega arith)
eleven (a ∷ []) long = absurd (omega arith)
eleven (a ∷ b ∷ []) long = absurd (omega arith)
eleven (a ∷ b ∷ c ∷ []) long = absurd (omega arith)
eleven (a ∷ b ∷ c ∷ d ∷ []) long = absurd (omega arith)
eleven (a ∷ b ∷ c ∷ d ∷ e ∷ []) long = absurd (omega arith)
eleven (a ∷ b ∷ c ∷ d ∷ e ∷ f ∷ []) long = absurd (omega arith)
eleven (a ∷ b ∷ c ∷ d ∷ e ∷ f ∷ g ∷ []) long = absurd (omega arith)
eleven (a ∷ b ∷ c ∷ d ∷ e ∷ f ∷ g ∷ h ∷ []) long = absurd (omega arith)
eleven (a ∷ b ∷ c ∷ d ∷ e ∷ f ∷ g ∷ h ∷ i ∷ []) long = absurd (omega arith)
eleven (a ∷ b ∷ c ∷ d ∷ e ∷ f ∷ g ∷ h ∷ i ∷ j ∷ []) long = absurd (omega arith)
eleven (a ∷ b ∷ c ∷ d ∷ e ∷ f ∷ g ∷ h ∷ i ∷ j ∷ k ∷ []) long = refl
eleven (a ∷ b ∷ c ∷ d ∷ e ∷ f ∷ g ∷ h ∷ i ∷ j ∷ k ∷ l ∷ xs) long = absurd (omega arith)

-- numbers in their ranges have no bad one
pub never_bad : (numbers : List ℕ) (first : Option ℕ) → IfSome first (IsBadNumber numbers) → AreInRange numbers → first ≡ None
never_bad numbers None is within = refl
never_bad numbers (Some n) is within = absurd (is.bad (within n is.within.0 is.within.1))
