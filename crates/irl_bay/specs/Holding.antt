-- An open bay holds a book: what it keeps in memory is the book's, and each joint image that a stop now may leave
-- stands for it.
use Rattle.std.specs.Prelude.{◌≡◌, ◌⊎◌, ◌↔◌, ℕ, ◌+◌, ◌-◌, ◌<◌, ◌≤◌, List, [], ◌++◌, map, length, take, slice_index, slice_index_or, true, false, Option, None, Some}
use Rattle.std.specs.List.{flat_map, AllByRecursion}
use Rattle.std.specs.Option.{ForSome}
use Rattle.std.specs.FinMap.{entries}
use Rattle.irl_offer.specs.declared.settings.Settings.{Settings}
use Rattle.irl_offer.specs.Tuple.{Tuple}
use Rattle.irl_model.specs.Book.{Book, judged, judged_offers}
use Rattle.irl_model.specs.Judging.{after}
use Rattle.irl_disk.specs.Disk.{Files, ChangesOnly}
use Rattle.irl_disk.specs.Images.{Told}
use Rattle.irl_journal.specs.Format.{records_text}
use Rattle.irl_journal.specs.Appending.{IsOpen}
use Rattle.irl_journal.specs.Blob.{IsCommitted}
use Rattle.irl_bay.specs.declared.bucket.Bucket.{Bucket}
use Rattle.irl_layout.specs.Runs.{run_bytes, texts_of, IsOffer, AreRuns, HasBucket}
use Rattle.irl_layout.specs.Commits.{Commit, commit_bytes, first_commit, last_commit, starts, live_offers, AreCommitsOf}
use Rattle.irl_cache.specs.SortedRun.{pairs_bytes}
use Rattle.irl_layout.specs.JudgedEntries.{judged_entries}
use Rattle.irl_bay.specs.Standing.{IsBookOf, Stands}
use Rattle.irl_bay.specs.Drum.{Drum, IsDrum, HasNumbers, bucket_at, judged_at, cache_front, judged_front, texts_front}

-- A bucket's files have this list, of which so many are judged.
pub record HoldsBucket (images : Files → Type 0) (array cut : ℕ) (bucket : Bucket) (list : List Tuple) : Type 0 where
  -- the runs before the one with the first pending offer, and the others
  pub before : List (List Tuple)
  pub behind : List (List Tuple)
  pub are : AreRuns array list (before ++ behind)
  pub journal : IsOpen images bucket.journal (map run_bytes (before ++ behind))
  pub aux : IsCommitted images bucket.aux (texts_of list)
  pub durable : bucket.durable ≡ bucket.start + length list
  pub judged : cut ≤ length list
  -- where the first pending offer stands: the gate of its record, how many offers of it are judged, and the place of
  -- its text
  pub gate : bucket.gate ≡ length (records_text (map run_bytes before))
  pub skip : length (flat_map (λ run. run) before) + bucket.skip ≡ cut
  pub text : bucket.text ≡ length (texts_of (take cut list))

pub record Holds (images : Files → Type 0) (drum : Drum) (book : Book) : Type 0 where
  pub book_is : IsBookOf drum.settings book
  -- each offer has its room, and those of a bucket from its start on stand in its files
  pub offers : (b : ℕ) → b < book.buckets → AllByRecursion IsOffer (slice_index_or book.lists b [])
  pub starts_are : (b : ℕ) → b < book.buckets → (bucket_at drum b).start ≡ slice_index (starts book drum.last) b
  pub buckets : (b : ℕ) → b < book.buckets → HoldsBucket images drum.settings.array
      (judged_at drum b - (bucket_at drum b).start) (bucket_at drum b) (live_offers book drum.last b)
  pub commits : List Commit
  pub commits_are : AreCommitsOf book commits
  pub last : drum.last ≡ last_commit (first_commit book.buckets) commits
  pub numbers : HasNumbers drum book
  pub manifest : IsOpen images drum.manifest (map commit_bytes commits)
  pub keys : drum.last.entries ≡ length (entries (after book.rule book.base (judged_offers book)))
  pub cache : IsCommitted images (cache_front drum)
      (pairs_bytes (entries (after book.rule book.base (judged_offers book))))
  pub judged_are : IsCommitted images (judged_front drum) (judged_entries 0 (judged book))
  pub texts : IsCommitted images (texts_front drum) (texts_of (judged_offers book))

-- ---- from one joint image to another
-- the two files of a bucket
abbrev pub IsFileOfBucket : Bucket → ℕ → Type 0
IsFileOfBucket bucket f = (f ≡ bucket.journal.file) ⊎ (f ≡ bucket.aux.file)

-- only a bucket's files differ, and they have the list that it had, or that with new offers behind it: what a stop
-- leaves in a flush
pub record BucketBecomes (bucket : Bucket) (array : ℕ) (list news : List Tuple) (old new : Files) : Type 0 where
  pub others : ChangesOnly (IsFileOfBucket bucket) old new
  pub has : HasBucket array list (new bucket.journal.file) (new bucket.aux.file)
      ⊎ HasBucket array (list ++ news) (new bucket.journal.file) (new bucket.aux.file)

-- only some files differ, and the bay's stand for one of two books: what a stop leaves in a call that makes the one of
-- the other
pub record Becomes (among : ℕ → Type 0) (base : ℕ) (settings : Settings) (x y : Book) (old new : Files) : Type 0 where
  pub others : ChangesOnly among old new
  pub stands : Stands base settings x new ⊎ Stands base settings y new

-- ---- what each call asks of a store that tells
-- each file of the bay is at least as long as what is committed of it
pub record IsLong (drum : Drum) (files : Files) : Type 0 where
  pub manifest : drum.manifest.end < length (files drum.manifest.file)
  pub cache : (cache_front drum).length ≤ length (files (cache_front drum).file)
  pub judged : (judged_front drum).length ≤ length (files (judged_front drum).file)
  pub texts : (texts_front drum).length ≤ length (files (texts_front drum).file)
  pub journals : (b : ℕ) → b < drum.settings.buckets
      → (bucket_at drum b).journal.end < length (files (bucket_at drum b).journal.file)
  pub auxes : (b : ℕ) → b < drum.settings.buckets
      → (bucket_at drum b).aux.length ≤ length (files (bucket_at drum b).aux.file)

-- ---- what each call leaves
-- A bay after a call that may end its soundness: `failed` says that a fault of the store was answered.
pub record GoesOn (failed : Type 0) (new : Drum) (after : Told) : Type 0 where
  pub drum : IsDrum new
  pub sound : (new.is_sound ≡ false) ↔ failed
  -- a sound bay may be asked again
  pub long : new.is_sound ≡ true → ForSome after.files (λ files. IsLong new files)
