-- Memory that was taken before it is needed.
use Rattle.std.specs.Prelude.{◌≡◌, ℕ, ◌+◌, ◌<◌, ◌≤◌, List, [], length, slice_index, slice_index_or, Vec, vec_len, vec_capacity}

-- an empty vector that may take all that a list of so many items gets behind these
pub record IsRoom {X A : Type 0} (len : ℕ) (more room : Vec X A) : Type 0 where
  pub none : room.items ≡ []
  pub fits : 0 < vec_len more → len + vec_len more ≤ vec_capacity room

-- for each list there is one
pub record HaveRoom {X A : Type 0} (lengths : List ℕ) (more rooms : List (Vec X A)) : Type 0 where
  pub lengths_are : length lengths ≡ 65
  pub more_are : length more ≡ 65
  pub rooms_are : length rooms ≡ 65
  pub each : (k : ℕ) (d e : Vec X A) → k < 65 → IsRoom (slice_index lengths k) (slice_index_or more k d)
      (slice_index_or rooms k e)
