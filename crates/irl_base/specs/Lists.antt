-- Lists of lists, as vectors of vectors keep them.
use Rattle.std.specs.Prelude.{◌≡◌, ℕ, List, [], ◌∷◌, ◌++◌, length, map, slice_index_or, slice_set, Vec}

-- vectors as lists
abbrev pub items_of : {X A : Type 0} → List (Vec X A) → List (List X)
items_of vectors = map (λ vector. vector.items) vectors

-- the list of this number, empty where there is none
abbrev pub list_at : {X : Type 0} → List (List X) → ℕ → List X
list_at lists at = slice_index_or lists at []

-- one more item behind the others of a list
abbrev pub with_one : {X : Type 0} → List (List X) → ℕ → X → List (List X)
with_one lists at item = slice_set lists at (list_at lists at ++ item ∷ [])

-- each list begins with what it was
pub record Grown {X : Type 0} (old new : List (List X)) : Type 0 where
  pub count : length new ≡ length old
  pub begins : (k : ℕ) → (more : List X) × (list_at new k ≡ list_at old k ++ more)
