-- Judging every pending offer, and reading what is judged: what these calls leave of the bay and of the store. Each
-- layer that hands a call on says it by these records.
use Rattle.std.specs.Prelude.{◌≡◌, ◌⊎◌, ℕ, ◌-◌, ◌*◌, ◌<◌, List, [], Result, IfOk, OnOk, OnErr, IsErrOf}
use Rattle.std.specs.Option.{ForSome}
use Rattle.irl_base.specs.declared.fault.Fault.{Fault}
use Rattle.irl_base.specs.declared.fault.Fault.TheVariants.{Damaged, Failed, Full, Memory}
use Rattle.irl_model.specs.Book.{Book, merged}
use Rattle.irl_disk.specs.Disk.{ChangesOnly}
use Rattle.irl_disk.specs.Effects.{OnlyReads, ReadsAndChanges}
use Rattle.irl_disk.specs.Images.{Told, Leaves, LeavesBy}
use Rattle.irl_disk.specs.Taken.{TakesOf}
use Rattle.irl_journal.specs.Appending.{IsOpen}
use Rattle.irl_layout.specs.BayFiles.{IsFileOf}
use Rattle.irl_layout.specs.Commits.{HasLiveRecords, live_side}
use Rattle.irl_bay.specs.Drum.{Drum, KeepsCounts, CountsMerge, bucket_at, cache_front}
use Rattle.irl_bay.specs.Holding.{Holds, Becomes}
use Rattle.irl_bay.specs.JudgedSpoilt.{IsJudgedSpoiltAt, IsJudgedFile}
use Rattle.irl_bay.specs.Merging.{AreEmpty, IsMergeFile, Writes}
use Rattle.irl_bay.specs.Spoilt.{IsSpoiltAt}

-- ---- judging
-- What Ok leaves.
pub record Merges (result : Result ℕ Fault) (old new : Drum) (before after : Told) : Type 0 where
  -- the bay has the book with one cut more, at the length of each list, and from then on each stop leaves it
  pub holds : OnOk result (ForSome before.files (λ _. (book : Book) → Holds before.images old book
      → Holds after.images new (merged book)))
  pub counts : OnOk result (CountsMerge old new)
  -- it gives the number of cuts
  pub value : IfOk result (λ cuts. cuts ≡ new.cuts)
  -- the live journals are empty
  pub emptied : OnOk result ((b : ℕ) → b < old.settings.buckets → IsOpen after.images (bucket_at new b).journal [])
  -- the files that are live from then on were cut: what is told of them has nothing of two merges ago
  pub cut : OnOk result (ForSome after.files (AreEmpty old.base (1 - live_side old.last) old.settings.buckets))
  -- each key of the live cache side is read once
  pub read : OnOk result (TakesOf (cache_front old).file (16 * old.last.entries) before.taken after.taken)

-- The bay and its book stay, so that the merge may be asked again. Whatever the files stand for, they keep what is
-- committed.
pub record KeepsBook (old new : Drum) (before after : Told) : Type 0 where
  pub same : new ≡ old
  pub holds : (book : Book) → Holds before.images old book → Holds after.images new book
  pub writes : Writes old before after

-- What a refusal leaves, and why there is one.
pub record MergeRefused (result : Result ℕ Fault) (old new : Drum) (before after : Told) : Type 0 where
  pub counts : OnErr result (KeepsCounts old new)
  pub memory : IsErrOf result Memory → KeepsBook old new before after
  pub damaged : (f at : ℕ) → IsErrOf result (Damaged f at) → KeepsBook old new before after
  -- damage is named only where it is, and never over files that stand for a book
  pub spoilt : (f at : ℕ) → IsErrOf result (Damaged f at) → ForSome before.files (λ files. IsSpoiltAt old files f at)
  pub whole : (f at : ℕ) → IsErrOf result (Damaged f at) → ForSome before.files (λ _. (book : Book)
      → Holds before.images old book → ⊥)
  pub full : (n : ℕ) → IsErrOf result (Full n) → ⊥

-- What a stop at any moment leaves, and which files change and are read, where `failed` says that a fault of the store
-- was answered.
pub record MergeMayLeave (failed : Type 0) (old : Drum) (before after : Told) : Type 0 where
  -- files that stand for the book, with the cut or without, and no other file changes
  pub stops : (book : Book) → Holds before.images old book
      → LeavesBy (Becomes (IsMergeFile old) old.base old.settings book (merged book)) before after
  -- each live journal as it was, or empty
  pub records : (book : Book) (b : ℕ) (payloads : List (List ℕ)) → Holds before.images old book
      → b < old.settings.buckets → IsOpen before.images (bucket_at old b).journal payloads
      → Leaves before after (λ image. HasLiveRecords old.base old.settings.buckets b payloads image
      ⊎ HasLiveRecords old.base old.settings.buckets b [] image)
  -- Whatever the files stand for, only the manifest, the cache side that isn't live, the judged offers, their texts,
  -- and the buckets' files on the side that isn't live change.
  pub others : ReadsAndChanges (IsFileOf old.base old.settings.buckets) (ChangesOnly (IsMergeFile old)) failed before
      after

-- ---- reading what is judged
-- Judged offers that are read, by the answer: `gives` says what is found of a book.
pub record ReadsJudged {A : Type 0} (result : Result A Fault) (gives : A → Book → Type 0) (drum : Drum)
    (before after : Told) : Type 0 where
  -- it is what the book says
  pub value : IfOk result (λ found. ForSome before.files (λ _. (book : Book) → Holds before.images drum book
      → gives found book))
  -- damage is named only where it is, and never over files that stand for a book
  pub spoilt : (f at : ℕ) → IsErrOf result (Damaged f at)
      → ForSome before.files (λ files. IsJudgedSpoiltAt drum files f at)
  pub whole : (f at : ℕ) → IsErrOf result (Damaged f at) → ForSome before.files (λ _. (book : Book)
      → Holds before.images drum book → ⊥)
  pub full : (n : ℕ) → IsErrOf result (Full n) → ⊥
  pub reads : OnlyReads (IsJudgedFile drum) (IsErrOf result Failed) before after
