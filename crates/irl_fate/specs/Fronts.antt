-- The front in rising order.
use Rattle.std.specs.Prelude.{◌≡◌, ℕ, List, take}
use Rattle.irl_fate.specs.Kept.{AreSorted}
use Rattle.irl_fate.specs.Standing.{count}

-- numbers are the first so many of those of a front, in rising order
pub record AreFirst (front : List ℕ) (most : ℕ) (numbers : List ℕ) : Type 0 where
  -- all of the front
  pub all : List ℕ
  pub same : (n : ℕ) → count n all ≡ count n front
  pub rising : AreSorted all
  pub first : numbers ≡ take most all
