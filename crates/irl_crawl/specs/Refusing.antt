-- Why a crawl over an open store is refused, whatever its files stand for: by what it keeps of them in memory, and by
-- what is told of them then.
use Rattle.std.specs.Prelude.{◌≡◌, ◌⊎◌, ◌*◌, ◌<◌, ℕ, List, Some, Result, IsErrOf}
use Rattle.std.specs.FinMap.{get}
use Rattle.std.specs.Option.{ForSome}
use Rattle.irl_base.specs.declared.fault.Fault.{Fault}
use Rattle.irl_base.specs.declared.fault.Fault.TheVariants.{Damaged}
use Rattle.irl_bay.specs.Drum.{Drum, judged_front}
use Rattle.irl_bay.specs.JudgedSpoilt.{IsJudgedSpoiltAt}
use Rattle.irl_bay.specs.Spoilt.{IsSpoiltAt}
use Rattle.irl_disk.specs.Disk.{Files}
use Rattle.irl_disk.specs.Images.{Told}
use Rattle.irl_head.specs.StoreFiles.{crawl_file}
use Rattle.irl_ledger.specs.declared.ledger.Ledger.{Ledger}
use Rattle.irl_log.specs.Noting.{NoteStandsAt}
use Rattle.irl_offer.specs.declared.note.Note.{Note}
use Rattle.irl_yard.specs.declared.parts.Parts.{Parts}
use Rattle.irl_yard.specs.declared.parts.Rest.TheVariants.{Crawl}

-- ---- damage
-- a file of an open bay has at this place what the layout doesn't allow there
abbrev pub IsSpoiltIn : Drum → Files → ℕ → ℕ → Type 0
IsSpoiltIn drum files f at = IsSpoiltAt drum files f at ⊎ IsJudgedSpoiltAt drum files f at

-- the entry of a judged URL stands there, whose text may be that of no page
pub record IsEntryAt (urls : Drum) (f at : ℕ) : Type 0 where
  pub file : f ≡ (judged_front urls).file
  -- its place in the judged order
  pub i : ℕ
  pub within : i < urls.last.judged
  pub place : at ≡ 48 * i

-- in the log no record of a note stands where the last one on a host has to
pub record LacksNoteAt (ledger : Ledger) (files : Files) (f at : ℕ) : Type 0 where
  pub file : f ≡ crawl_file
  pub host : List ℕ
  pub known : get ledger.notes host ≡ Some at
  pub none : (note : Note) → NoteStandsAt ledger.log (files crawl_file) at note → ⊥

-- what an open store of a crawl names as damage: of its URLs, of its pairs or of its log
abbrev pub IsBrokenAt : Parts → Files → ℕ → ℕ → Type 0
IsBrokenAt parts files f at = IsSpoiltIn parts.urls files f at ⊎ IsEntryAt parts.urls f at
    ⊎ ((ledger : Ledger) × (parts.rest ≡ Crawl ledger)
    × (IsSpoiltIn ledger.pairs files f at ⊎ LacksNoteAt ledger files f at))

-- ---- an answer
-- damage is named only where it is then
pub record RefusesAsFound {A : Type 0} (result : Result A Fault) (now : Parts) (after : Told) : Type 0 where
  pub spoilt : (f at : ℕ) → IsErrOf result (Damaged f at) → ForSome after.files (λ files. IsBrokenAt now files f at)
