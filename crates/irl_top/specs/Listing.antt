-- What is printed of an open store. It is cited by private contracts alone.
use Rattle.std.specs.Prelude.{◌≡◌, ◌⊎◌, ℕ, ◌≤◌, List, Result, OnOk, IfErr, IsErrOf, take}
use Rattle.std.specs.Option.{ForSome}
use Rattle.std.specs.Io.KnownBytes.{Appends}
use Rattle.irl_base.specs.Faults.{HasCause}
use Rattle.irl_offer.specs.declared.receipt.Judged.{Judged}
use Rattle.irl_model.specs.Book.{IsPrefixOf, judged as judged_of, uniques_from}
use Rattle.irl_events.specs.State.{State}
use Rattle.irl_disk.specs.Disk.{Files}
use Rattle.irl_disk.specs.Effects.{OnlyReads}
use Rattle.irl_disk.specs.Images.{Told}
use Rattle.irl_bay.specs.JudgedSpoilt.{IsJudgedFile, IsJudgedSpoiltAt}
use Rattle.irl_yard.specs.Holding.{HoldsState}
use Rattle.irl_yard.specs.declared.parts.Parts.{Parts}
use Rattle.irl_top.specs.Shown.{url_lines}
use Rattle.irl_top.specs.Stream.{Stream}
use Rattle.irl_top.specs.declared.ending.Ending.{Ending}
use Rattle.irl_top.specs.declared.ending.Ending.TheVariants.{Damaged, DiskFault, NoMemory, OutputFault}

-- ---- endings
-- what writing is refused with, and what reading and writing are
abbrev pub IsWriteEnding : Ending → Type 0
IsWriteEnding ending = (ending ≡ OutputFault) ⊎ (ending ≡ NoMemory)

abbrev pub IsPrintEnding : Ending → Type 0
IsPrintEnding ending = (ending ≡ DiskFault) ⊎ ((f at : ℕ) × (ending ≡ Damaged f at)) ⊎ IsWriteEnding ending

-- ---- what is written
-- of what was to be written a prefix was, and all of it where it wasn't refused
abbrev pub IsWritten : Result (Unit {0}) Ending → List ℕ → List ℕ → Type 0
IsWritten result text whole = IsPrefixOf text whole × OnOk result (text ≡ whole)

-- A text of the state that an open store holds was printed: `has` says which text is a state's.
pub record Prints (has : State → List ℕ → Type 0) (result : Result (Unit {0}) Ending) (parts : Parts)
    (before after : Told) (old new : Stream) : Type 0 where
  pub text : List ℕ
  pub written : Appends old.bytes new.bytes text
  pub is : ForSome before.files (λ _. (state : State) → HoldsState before.images parts state → (whole : List ℕ)
      × has state whole × IsWritten result text whole)
  -- only judged offers are read, and damage is named only where one is, and never where a state is held
  pub reads : OnlyReads (IsJudgedFile parts.urls) (IsErrOf result DiskFault) before after
  pub spoilt : (f at : ℕ) → IsErrOf result (Damaged f at)
      → ForSome before.files (λ files. IsJudgedSpoiltAt parts.urls files f at)
  pub whole : (f at : ℕ) → IsErrOf result (Damaged f at) → ForSome before.files (λ _. (state : State)
      → HoldsState before.images parts state → ⊥)
  pub kinds : IfErr result IsPrintEnding
  pub output : HasCause (IsErrOf result OutputFault) old.faults new.faults

-- Some judged offers of the state that an open store holds were printed, the first of which has this number.
pub record PrintsPart (result : Result (Unit {0}) Ending) (images : Files → Type 0) (parts : Parts) (first : ℕ)
    (judged : List Judged) (old new : Stream) : Type 0 where
  pub text : List ℕ
  pub written : Appends old.bytes new.bytes text
  pub is : (state : State) → HoldsState images parts state
      → IsWritten result text (url_lines parts.urls.settings state (uniques_from first judged))
  pub kinds : IfErr result IsWriteEnding
  pub output : HasCause (IsErrOf result OutputFault) old.faults new.faults

-- So many judged offers of the state that an open store held were printed, and it holds that state.
pub record PrintsFirst (number : ℕ) (was now : Parts) (before after : Told) (old new : Stream) : Type 0 where
  pub text : List ℕ
  pub written : Appends old.bytes new.bytes text
  pub is : ForSome before.files (λ _. (state : State) → HoldsState before.images was state
      → text ≡ url_lines was.urls.settings state (uniques_from 0 (take number (judged_of state.urls))))
  pub within : number ≤ was.urls.last.judged
  pub holds : (state : State) → HoldsState before.images was state → HoldsState after.images now state
  pub urls : now.urls ≡ was.urls
  pub reads : OnlyReads (IsJudgedFile was.urls) ⊥ before after
  pub output : old.faults ≤ new.faults
