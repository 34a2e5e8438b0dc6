-- The settings as numbers in their ranges.
use Rattle.std.specs.Prelude.{◌≡◌, ℕ, ◌-◌, ◌<◌, ◌≤◌, List, slice_index}
use Rattle.irl_head.specs.Head.{number_in, IsInRange}

-- each of the numbers, setting 1 first, lies in its range
abbrev pub AreInRange : List ℕ → Type 0
AreInRange numbers = (n : ℕ) → 1 ≤ n → n ≤ 11 → IsInRange (slice_index numbers 8) n (slice_index numbers (n - 1))

-- number n, from 1, is the first of them that doesn't
pub record IsBadNumber (numbers : List ℕ) (n : ℕ) : Type 0 where
  pub within : (1 ≤ n) × (n ≤ 11)
  pub bad : IsInRange (slice_index numbers 8) n (slice_index numbers (n - 1)) → ⊥
  pub before : (m : ℕ) → 1 ≤ m → m < n → IsInRange (slice_index numbers 8) m (slice_index numbers (m - 1))

-- these are the numbers that stand where a head has its settings
abbrev pub AreNumbersIn : List ℕ → List ℕ → Type 0
AreNumbersIn payload numbers = (n : ℕ) → 1 ≤ n → n ≤ 11 → slice_index numbers (n - 1) ≡ number_in payload n
