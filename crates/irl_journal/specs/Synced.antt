-- Bytes that are written and synced.
use Rattle.std.specs.Prelude.{◌≡◌, ℕ, ◌+◌, ◌^◌, ◌<◌, List, length, Result, OnOk, IsErr}
use Rattle.std.specs.Option.{ForSome}
use Rattle.irl_disk.specs.Disk.{Files, Changes, ChangesFile, Holds}
use Rattle.irl_disk.specs.Effects.{OnlyChanges}
use Rattle.irl_disk.specs.Images.{Told}

-- a stop now leaves of this file what a read gives
abbrev pub IsDurable : ℕ → Told → Type 0
IsDurable f now = ForSome now.files (λ files. (image : Files) → now.images image → image f ≡ files f)

-- These bytes are written at a place of a file and synced, by the answer. A stop at any moment leaves the file changed
-- by a step.
pub record WritesSynced {A E : Type 0} (result : Result A E) (f at : ℕ) (bytes : List ℕ) (step : List ℕ → List ℕ
    → Type 0) (before after : Told) : Type 0 where
  pub within : OnOk result (at + length bytes < 2 ^ 64)
  pub holds : OnOk result (Changes f (Holds at bytes) before.files after.files)
  pub durable : OnOk result (IsDurable f after)
  pub changes : OnlyChanges (ChangesFile f step) (IsErr result) before after
