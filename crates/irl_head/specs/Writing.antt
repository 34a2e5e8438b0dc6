-- Writing the head's record.
use Rattle.std.specs.Prelude.{◌≡◌, ◌≢◌, ◌⊎◌, ℕ, List, [], ◌∷◌, Result, OnOk, IfErr, IsErrOf}
use Rattle.std.specs.Option.{ForSome}
use Rattle.irl_disk.specs.Disk.{Files, ChangesFile}
use Rattle.irl_disk.specs.Effects.{ReadsAndChanges}
use Rattle.irl_disk.specs.Images.{Told, LeavesSame}
use Rattle.irl_journal.specs.Format.{HasRecords, StandsFor}
use Rattle.irl_head.specs.declared.open_fault.OpenFault.{OpenFault}
use Rattle.irl_head.specs.declared.open_fault.OpenFault.TheVariants.{NotOurs, Damaged, OtherSettings, BadSettings, Failed}
use Rattle.irl_head.specs.StoreFiles.{head_file}

-- a journal without a record has none, or this one
abbrev pub GainsFirst : List ℕ → List ℕ → List ℕ → Type 0
GainsFirst payload old new = StandsFor old [] → StandsFor new [] ⊎ HasRecords new (payload ∷ [])

-- Writing the first record of a head that has none, by the answer: what the call leaves of the store.
pub record WritesHead (payload : List ℕ) (result : Result Unit OpenFault) (old new : Told) : Type 0 where
  -- from then on each stop leaves it
  pub kept : OnOk result ((image : Files) → new.images image → HasRecords (image head_file) (payload ∷ []))
  -- what is told of the head, and what a stop at any moment leaves of it, has no record or this one; every other file
  -- stays
  pub changes : ReadsAndChanges (λ f. f ≡ head_file) (ChangesFile head_file (GainsFirst payload))
      (IsErrOf result Failed) old new
  -- it is refused as none but a store that failed, or want of memory
  pub not_ours : (at : ℕ) → IsErrOf result (NotOurs at) → ⊥
  pub damaged : (f at : ℕ) → IsErrOf result (Damaged f at) → ForSome old.files (λ _. ⊥)
  pub other : (n kept wanted : ℕ) → IsErrOf result (OtherSettings n kept wanted) → ⊥
  pub bad : (n : ℕ) → IsErrOf result (BadSettings n) → ⊥
  -- only a failed call changes what there is
  pub same : IfErr result (λ fault. fault ≢ Failed → new.files ≡ old.files)
  pub same_stops : IfErr result (λ fault. fault ≢ Failed → LeavesSame old new)
