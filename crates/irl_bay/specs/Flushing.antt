-- Putting an array's offers behind those of a bucket: what it asks, and what it leaves of the bay, of the array and of
-- the store. Each layer that hands the call on says it by these records.
use Rattle.std.specs.Prelude.{◌≡◌, ◌⊎◌, ℕ, ◌+◌, ◌<◌, ◌≤◌, List, [], ◌∷◌, ◌++◌, length, Result, OnOk, OnErr, IsErrOf}
use Rattle.std.specs.List.{AllByRecursion}
use Rattle.irl_array.specs.Waiting.{Waiting}
use Rattle.irl_base.specs.declared.fault.Fault.{Fault}
use Rattle.irl_base.specs.declared.fault.Fault.TheVariants.{Damaged, Full, Memory}
use Rattle.irl_offer.specs.Buckets.{bucket_of}
use Rattle.irl_offer.specs.Tuple.{Tuple}
use Rattle.irl_model.specs.Book.{Book, flushed}
use Rattle.irl_disk.specs.Disk.{ChangesOnly}
use Rattle.irl_disk.specs.Effects.{OnlyChanges}
use Rattle.irl_disk.specs.Images.{Told, Leaves, LeavesBy}
use Rattle.irl_journal.specs.Appending.{Tail, IsOpen}
use Rattle.irl_journal.specs.Format.{HasRecords}
use Rattle.irl_layout.specs.BayFiles.{file_of, IsBucketFile}
use Rattle.irl_layout.specs.declared.files.BayFile.TheVariants.{Journal}
use Rattle.irl_layout.specs.Commits.{live_side}
use Rattle.irl_layout.specs.Runs.{run_bytes}
use Rattle.irl_bay.specs.Drum.{Drum, KeepsCounts, CountsFlush, bucket_at, durable_at, pending_at}
use Rattle.irl_bay.specs.Holding.{Holds, Becomes}

-- ---- a bucket's journal
-- its journal has one record more, of all these offers
abbrev pub Gains : List Tuple → Tail → Tail → Told → Told → Type 0
Gains news old new before after = (payloads : List (List ℕ)) → IsOpen before.images old payloads
    → IsOpen after.images new (payloads ++ run_bytes news ∷ [])

-- a stop at any moment leaves the file of its journal as it was, or with that record
abbrev pub MayGain : List Tuple → ℕ → Tail → Told → Told → Type 0
MayGain news f old before after = (payloads : List (List ℕ)) → IsOpen before.images old payloads → Leaves before after
    (λ image. HasRecords (image f) payloads ⊎ HasRecords (image f) (payloads ++ run_bytes news ∷ []))

-- ---- a bay
-- What a flush asks: some offers of a bucket that no merge is due for, at most as many as an array holds.
pub record MayFlush (b : ℕ) (news : List Tuple) (drum : Drum) : Type 0 where
  pub bucket : b < drum.settings.buckets
  pub some : 1 ≤ length news
  pub few : length news ≤ drum.settings.array
  pub offers : AllByRecursion (λ offer. bucket_of drum.settings.buckets offer.key ≡ b) news
  pub pending : pending_at drum b < drum.settings.trigger

-- What Ok leaves, of the array that was and is now.
pub record Flushes (result : Result Unit Fault) (b : ℕ) (was now : Waiting) (old new : Drum) (before after : Told) :
    Type 0 where
  -- the bay has the book with the offers at the end of the bucket's list, and from then on each stop leaves it
  pub holds : OnOk result ((book : Book) → Holds before.images old book
      → Holds after.images new (flushed b was.items book))
  pub counts : OnOk result (CountsFlush b (length was.items) old new)
  -- the bucket's live journal has one record more, of all these offers
  pub gains : OnOk result (Gains was.items (bucket_at old b).journal (bucket_at new b).journal before after)
  pub emptied : OnOk result (now ≡ record { room = was.room; items = [] })
  pub not_full : OnOk result (durable_at old b + length was.items ≤ old.settings.cap)

-- What a refusal leaves, and why there is one. The store is seen as a whole here.
pub record FlushRefused {S : Type 0} (result : Result Unit Fault) (b : ℕ) (was now : Waiting) (old new : Drum)
    (before after : S) : Type 0 where
  pub counts : OnErr result (KeepsCounts old new)
  -- the array keeps its offers
  pub array : OnErr result (now ≡ was)
  -- the bucket would pass its cap, and where it would nothing else is answered
  pub full : (n : ℕ) → IsErrOf result (Full n) → (n ≡ b) × (old.settings.cap < durable_at old b + length was.items)
  pub full_first : old.settings.cap < durable_at old b + length was.items → IsErrOf result (Full b)
  pub damaged : (f at : ℕ) → IsErrOf result (Damaged f at) → ⊥
  -- want of memory and of room change nothing
  pub memory_same : IsErrOf result Memory → (after ≡ before) × (new ≡ old)
  pub full_same : (n : ℕ) → IsErrOf result (Full n) → (after ≡ before) × (new ≡ old)

-- What a stop at any moment leaves, and which files change, where `failed` says that a fault of the store was answered.
pub record FlushMayLeave (failed : Type 0) (b : ℕ) (news : List Tuple) (old : Drum) (before after : Told) : Type 0 where
  -- files that stand for the book, with the offers or without, and no other file changes
  pub stops : (book : Book) → Holds before.images old book
      → LeavesBy (Becomes (IsBucketFile old.base (live_side old.last) b) old.base old.settings book
      (flushed b news book)) before after
  -- the bucket's live journal as it was, or with its one record more
  pub gains : MayGain news (file_of old.base 0 (Journal (live_side old.last) b)) (bucket_at old b).journal before after
  -- whatever the files stand for, only the bucket's two live ones change, and no byte is read
  pub others : OnlyChanges (ChangesOnly (IsBucketFile old.base (live_side old.last) b)) failed before after
