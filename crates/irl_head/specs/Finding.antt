-- Looking for the head: what the visitor of its journal keeps, and what is answered then.
use Rattle.std.specs.Prelude.{◌≡◌, ℕ, List, [], ◌∷◌, Option, None, Some, Result, Ok, Err, IfOk, IfSome, IsSome, IsErrOf}
use Rattle.std.specs.Option.{ForSome}
use Rattle.irl_offer.specs.Settings.{AreValid}
use Rattle.irl_offer.specs.declared.settings.Settings.{Settings}
use Rattle.irl_disk.specs.Disk.{ChangesFile}
use Rattle.irl_disk.specs.Effects.{ReadsAndChanges}
use Rattle.irl_disk.specs.Images.{Told}
use Rattle.irl_journal.specs.Format.{StandsFor, IsBrokenAt}
use Rattle.irl_journal.specs.Visiting.{IsOpened}
use Rattle.irl_journal.specs.declared.fault.JournalFault.{JournalFault}
use Rattle.irl_journal.specs.declared.fault.JournalFault.TheVariants.{Failed as JournalFailed, Memory as JournalMemory, Damaged as JournalDamaged}
use Rattle.irl_head.specs.declared.open_fault.OpenFault.{OpenFault}
use Rattle.irl_head.specs.declared.open_fault.OpenFault.TheVariants.{NotOurs, Damaged, OtherSettings, BadSettings, Failed, Memory}
use Rattle.irl_head.specs.StoreFiles.{head_file}
use Rattle.irl_head.specs.Head.{head_bytes, IsNoHeadAt}
use Rattle.irl_head.specs.Opening.{KeepsHead, IsNotOursAt}

-- what a payload is read as: settings, or the place of what makes it none
pub record IsReadAs (payload : List ℕ) (read : Result Settings ℕ) : Type 0 where
  pub found : IfOk read (λ settings. AreValid settings × (payload ≡ head_bytes settings))
  pub none : (at : ℕ) → IsErrOf read at → IsNoHeadAt payload at

-- What was found in the head becomes this by one record more: the first is read, and a second makes the store of
-- another make.
pub record Finds (old : Option (Result Settings ℕ)) (payload : List ℕ) (new : Option (Result Settings ℕ)) : Type 0 where
  pub some : IsSome new
  pub first : old ≡ None → IfSome new (IsReadAs payload)
  pub second : (settings : Settings) → old ≡ Some (Ok settings) → new ≡ Some (Err 105)
  pub none : (at : ℕ) → old ≡ Some (Err at) → new ≡ Some (Err at)

-- what the head's journal was refused with, after what was found in it
abbrev pub fault_in_head : Option (Result Settings ℕ) → JournalFault → OpenFault
fault_in_head found JournalFailed = Failed
fault_in_head found JournalMemory = Memory
fault_in_head None (JournalDamaged at) = Damaged head_file at
fault_in_head (Some (Ok settings)) (JournalDamaged at) = NotOurs at
fault_in_head (Some (Err place)) (JournalDamaged at) = NotOurs place

-- what was found in a head's journal that was read whole says
abbrev pub found_in_head : Option (Result Settings ℕ) → Result (Option Settings) OpenFault
found_in_head None = Ok None
found_in_head (Some (Ok settings)) = Ok (Some settings)
found_in_head (Some (Err at)) = Err (NotOurs at)

-- Looking for the settings of the head, by the answer: what is told says it, and what the call leaves of the store.
pub record FindsHead (result : Result (Option Settings) OpenFault) (old new : Told) : Type 0 where
  -- the head has these settings, which lie in their ranges, and from then on each stop leaves it;
  pub valid : IfOk result (λ found. IfSome found AreValid)
  pub made : IfOk result (λ found. IfSome found (λ settings. ForSome old.files (λ files.
      StandsFor (files head_file) (head_bytes settings ∷ []))))
  pub kept : IfOk result (λ found. IfSome found (KeepsHead new.images))
  -- or it has no record
  pub blank : IfOk result (λ found. found ≡ None → ForSome old.files (λ files. StandsFor (files head_file) []))
  -- it is refused as another's only where it is, and as damaged only where its first record is broken
  pub not_ours : (at : ℕ) → IsErrOf result (NotOurs at) → ForSome old.files (λ files. IsNotOursAt files at)
  pub damaged : (f at : ℕ) → IsErrOf result (Damaged f at)
      → ForSome old.files (λ files. (f ≡ head_file) × (at ≡ 0) × IsBrokenAt (files head_file) 0)
  -- nothing that was asked is looked at
  pub other : (n kept wanted : ℕ) → IsErrOf result (OtherSettings n kept wanted) → ⊥
  pub bad : (n : ℕ) → IsErrOf result (BadSettings n) → ⊥
  -- what is told stays, and a stop leaves each file as it was, but for the head's gate
  pub same : new.files ≡ old.files
  pub changes : ReadsAndChanges (λ f. f ≡ head_file) (ChangesFile head_file IsOpened) (IsErrOf result Failed) old new
