-- Reading again how many offers were judged at each cut, which an open bay doesn't keep.
use Rattle.std.specs.Prelude.{◌≡◌, ◌≢◌, ◌⊎◌, ℕ, ◌+◌, ◌<◌, List, ◌∷◌, ◌++◌, map, length, slice_index, Result, IfOk, IsErrOf}
use Rattle.std.specs.List.{AllByRecursion}
use Rattle.std.specs.Option.{ForSome}
use Rattle.irl_base.specs.declared.fault.Fault.{Fault}
use Rattle.irl_base.specs.declared.fault.Fault.TheVariants.{Damaged, Failed, Full}
use Rattle.irl_model.specs.Book.{Book, with_cuts, judged}
use Rattle.irl_disk.specs.Disk.{Files}
use Rattle.irl_disk.specs.Effects.{OnlyReads}
use Rattle.irl_disk.specs.Images.{Told}
use Rattle.irl_journal.specs.Format.{records_text, body_text, open_gate}
use Rattle.irl_layout.specs.Commits.{Commit, IsCommit, commit_bytes}
use Rattle.irl_bay.specs.Drum.{Drum}
use Rattle.irl_bay.specs.Holding.{Holds}
use Rattle.irl_bay.specs.Pending.{IsCutShort, IsClosed}

-- for each cut of a book, how many offers were judged when it had only the cuts up to this one
pub record AreJudgedAt (book : Book) (numbers : List ℕ) : Type 0 where
  pub count : length numbers ≡ length book.cuts
  pub each : (i : ℕ) → i < length book.cuts → slice_index numbers i ≡ length (judged (with_cuts (i + 1) book))

-- a whole open record that is no commit
pub record HasNoCommit (buckets : ℕ) (bytes : List ℕ) : Type 0 where
  pub payload : List ℕ
  pub rest : List ℕ
  pub bytes_are : bytes ≡ open_gate ∷ body_text payload ++ rest
  pub none : (commit : Commit) → IsCommit buckets commit → payload ≡ commit_bytes commit → ⊥

-- Behind commits, the manifest has at this place no whole record, one that is no commit, or a closed gate that isn't
-- its end.
pub record IsSpoiltManifest (drum : Drum) (files : Files) (at : ℕ) : Type 0 where
  pub commits : List Commit
  pub behind : List ℕ
  pub form : AllByRecursion (IsCommit drum.settings.buckets) commits
  pub bytes : files drum.manifest.file ≡ records_text (map commit_bytes commits) ++ behind
  pub place : at ≡ length (records_text (map commit_bytes commits))
  pub why : IsCutShort behind ⊎ HasNoCommit drum.settings.buckets behind ⊎ (IsClosed behind × (at ≢ drum.manifest.end))

-- A manifest that is read again, by the answer: `gives` says what is found of a book.
pub record ReadsManifest {A : Type 0} (result : Result A Fault) (gives : A → Book → Type 0) (drum : Drum)
    (before after : Told) : Type 0 where
  pub value : IfOk result (λ found. ForSome before.files (λ _. (book : Book) → Holds before.images drum book
      → gives found book))
  -- damage is named only where it is, and never over files that stand for a book
  pub spoilt : (f at : ℕ) → IsErrOf result (Damaged f at) → (f ≡ drum.manifest.file)
      × ForSome before.files (λ files. IsSpoiltManifest drum files at)
  pub whole : (f at : ℕ) → IsErrOf result (Damaged f at) → ForSome before.files (λ _. (book : Book)
      → Holds before.images drum book → ⊥)
  pub full : (n : ℕ) → IsErrOf result (Full n) → ⊥
  pub reads : OnlyReads (λ f. f ≡ drum.manifest.file) (IsErrOf result Failed) before after
