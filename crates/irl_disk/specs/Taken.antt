-- How many bytes the reads of each file have given, where a store tells it.
use Rattle.std.specs.Prelude.{◌≡◌, ◌≢◌, ℕ, ◌+◌, ◌^◌, ◌<◌, Option, None, Some}

-- n bytes more of one file were read
pub record CountsBytes (f n : ℕ) (old new : ℕ → ℕ) : Type 0 where
  pub here : new f ≡ old f + n
  pub bound : new f < 2 ^ 64
  pub others : (g : ℕ) → g ≢ f → new g ≡ old g

-- the same of what is told
abbrev pub Takes : ℕ → ℕ → Option (ℕ → ℕ) → Option (ℕ → ℕ) → Type 0
Takes f n None new = new ≡ None
Takes f n (Some old) new = (counts : ℕ → ℕ) × (new ≡ Some counts) × CountsBytes f n old counts

-- only bytes of these files were read
abbrev pub TakesAmong : (ℕ → Type 0) → Option (ℕ → ℕ) → Option (ℕ → ℕ) → Type 0
TakesAmong among None new = new ≡ None
TakesAmong among (Some old) new = (counts : ℕ → ℕ) × (new ≡ Some counts) × ((f : ℕ) → (among f → ⊥) → counts f ≡ old f)

-- only this file's bytes were read
abbrev pub TakesOnly : ℕ → Option (ℕ → ℕ) → Option (ℕ → ℕ) → Type 0
TakesOnly f old new = TakesAmong (λ g. g ≡ f) old new

-- n bytes of this file were read, and any of others
abbrev pub TakesOf : ℕ → ℕ → Option (ℕ → ℕ) → Option (ℕ → ℕ) → Type 0
TakesOf f n None new = new ≡ None
TakesOf f n (Some old) new = (counts : ℕ → ℕ) × (new ≡ Some counts) × (counts f ≡ old f + n)
