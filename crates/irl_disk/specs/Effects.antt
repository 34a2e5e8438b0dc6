-- What a call does to a store, besides what it answers: the words by which the calls above are stated.
use Rattle.std.specs.Prelude.{◌≡◌, ℕ}
use Rattle.irl_base.specs.Faults.{HasCause}
use Rattle.irl_disk.specs.Disk.{Files, TellsBy}
use Rattle.irl_disk.specs.Images.{Told, LeavesBy, LeavesSame}
use Rattle.irl_disk.specs.Taken.{TakesAmong}

-- A call that changes nothing and reads only these files, where `failed` says that it answered a fault of the store.
pub record OnlyReads (among : ℕ → Type 0) (failed : Type 0) (old new : Told) : Type 0 where
  pub same : new.files ≡ old.files
  -- a stop at any moment leaves what one left before
  pub stops : LeavesSame old new
  pub taken : TakesAmong among old.taken new.taken
  -- it answers the fault only where the store's count of faults rose
  pub cause : HasCause failed old.faults new.faults

-- A call that changes files by a step, and reads no byte.
pub record OnlyChanges (step : Files → Files → Type 0) (failed : Type 0) (old new : Told) : Type 0 where
  pub told : TellsBy step old.files new.files
  -- a stop at any moment leaves what one left before, after this step
  pub stops : LeavesBy step old new
  pub taken : new.taken ≡ old.taken
  pub cause : HasCause failed old.faults new.faults

-- A call that reads these files and changes files by a step.
pub record ReadsAndChanges (among : ℕ → Type 0) (step : Files → Files
    → Type 0) (failed : Type 0) (old new : Told) : Type 0 where
  pub told : TellsBy step old.files new.files
  pub stops : LeavesBy step old new
  pub taken : TakesAmong among old.taken new.taken
  pub cause : HasCause failed old.faults new.faults
