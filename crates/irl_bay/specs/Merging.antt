-- What a merge writes: the keys that are then judged, the entries of the offers that it judges, and their texts.
use Rattle.std.specs.Prelude.{◌≡◌, ◌⊎◌, ℕ, ◌+◌, ◌-◌, ◌*◌, ◌^◌, ◌<◌, ◌≤◌, min, true, List, [], ◌∷◌, ◌++◌, length, sum, Some}
use Rattle.std.specs.FinMap.{entries}
use Rattle.irl_model.specs.Book.{Book, judged, uniques, judged_offers, merged}
use Rattle.irl_model.specs.Judging.{after}
use Rattle.std.specs.Option.{ForSome}
use Rattle.irl_disk.specs.Disk.{Files, ChangesOnly, TellsBy}
use Rattle.irl_disk.specs.Effects.{ReadsAndChanges}
use Rattle.irl_disk.specs.Images.{Told, LeavesBy}
use Rattle.irl_journal.specs.Appending.{Tail}
use Rattle.irl_journal.specs.Blob.{Front, KeepsFront, IsCommitted}
use Rattle.irl_layout.specs.BayFiles.{file_of, IsFileOf, IsSideFile}
use Rattle.irl_layout.specs.declared.files.BayFile.TheVariants.{Manifest, Cache, Judged, Texts, Journal, Aux}
use Rattle.irl_bay.specs.declared.bucket.Bucket.{Bucket}
use Rattle.irl_bay.specs.Drum.{Drum, durables, judged_front, texts_front}
use Rattle.irl_layout.specs.Runs.{texts_of}
use Rattle.irl_layout.specs.Commits.{Commit, live_side, IsCommit}
use Rattle.irl_bay.specs.Holding.{Holds}
use Rattle.irl_cache.specs.SortedRun.{pairs_bytes}
use Rattle.irl_layout.specs.JudgedEntries.{judged_entries}

-- what it writes behind what is committed, and to the other side of the cache: so many keys, so many entries, of which
-- so many are Unique, and texts; and the new cut
pub record Batch : Type 0 where
  pub pairs : List ℕ
  pub entries : ℕ
  pub judged : List ℕ
  pub count : ℕ
  pub unique : ℕ
  pub texts : List ℕ
  pub cut : List ℕ

-- whatever was read, it is as long as it says, and all pending offers are judged
pub record FitsBatch (drum : Drum) (batch : Batch) : Type 0 where
  pub pairs : length batch.pairs ≡ 16 * batch.entries
  pub entries : drum.last.entries ≤ batch.entries
  pub judged : length batch.judged ≡ 48 * batch.count
  pub unique : batch.unique ≤ batch.count
  pub count : batch.count + sum drum.last.cut ≡ sum (durables drum)
  pub cut : batch.cut ≡ durables drum

-- it is what a merge adds to the files of a book
pub record IsBatchOf (book : Book) (batch : Batch) : Type 0 where
  pub pairs : batch.pairs ≡ pairs_bytes (entries (after book.rule book.base (judged_offers (merged book))))
  pub entries_are : batch.entries ≡ length (entries (after book.rule book.base (judged_offers (merged book))))
  pub judged_are : judged_entries 0 (judged book) ++ batch.judged ≡ judged_entries 0 (judged (merged book))
  pub unique : length (uniques book) + batch.unique ≡ length (uniques (merged book))
  pub texts : texts_of (judged_offers book) ++ batch.texts ≡ texts_of (judged_offers (merged book))

-- ---- what is committed then
-- the commit of a batch
abbrev pub next_commit : Drum → Batch → Commit
next_commit drum batch = record {
  side = 1 - drum.last.side;
  live = Some (1 - live_side drum.last);
  entries = batch.entries;
  judged = drum.last.judged + batch.count;
  unique = min (drum.last.unique + batch.unique) (2 ^ 64 - 1);
  texts = drum.last.texts + length batch.texts;
  cut = batch.cut;
}

-- a commit that a bay may have
pub record HasRoom (buckets : ℕ) (commit : Commit) : Type 0 where
  pub form : IsCommit buckets commit
  pub judged : 48 * commit.judged < 2 ^ 64
  pub entries : 16 * commit.entries < 2 ^ 64

-- a bucket of which all offers are judged, so many of them, with empty files on a side
abbrev pub emptied : ℕ → ℕ → ℕ → ℕ → Bucket
emptied base side b durable = record {
  journal =
      record { file = file_of base 0 (Journal side b); end = 0; is_sound = true };
  aux = record { file = file_of base 0 (Aux side b); length = 0 };
  start = durable;
  durable = durable;
  gate = 0;
  skip = 0;
  text = 0;
}

-- the same of all buckets, the first of which is b
abbrev pub emptied_from : ℕ → ℕ → ℕ → List Bucket → List Bucket
emptied_from base side b [] = []
emptied_from base side b (bucket ∷ buckets) = emptied base side b bucket.durable
    ∷ emptied_from base side (b + 1) buckets

-- A commit of all offers, and the buckets that the bay has then.
pub record MayCommit (next : Commit) (buckets : List Bucket) (drum : Drum) : Type 0 where
  pub room : HasRoom drum.settings.buckets next
  pub cut : next.cut ≡ durables drum
  pub live : next.live ≡ Some (1 - live_side drum.last)
  pub buckets_are : buckets ≡ emptied_from drum.base (1 - live_side drum.last) 0 drum.buckets

-- a side whose files were cut: each bucket's journal has one byte, that of its first gate, and its texts have none
pub record AreEmpty (base side buckets : ℕ) (files : Files) : Type 0 where
  pub journals : (b : ℕ) → b < buckets → length (files (file_of base 0 (Journal side b))) ≡ 1
  pub auxes : (b : ℕ) → b < buckets → files (file_of base 0 (Aux side b)) ≡ []

-- a bay after a merge, whose manifest is this one then
abbrev pub with_commit : Tail → Commit → Drum → Drum
with_commit manifest commit drum = record {
  base = drum.base;
  settings = drum.settings;
  is_sound = true;
  manifest = manifest;
  last = commit;
  cuts = drum.cuts + 1;
  buckets = emptied_from drum.base (1 - live_side drum.last) 0 drum.buckets;
}

-- what is committed of the other cache side, of the judged file and of the texts once a batch is written
abbrev pub next_cache : Drum → Batch → Front
next_cache drum batch = record { file = file_of drum.base 0 (Cache (1 - drum.last.side)); length = 16 * batch.entries }

abbrev pub next_judged : Drum → Batch → Front
next_judged drum batch = record { file = file_of drum.base 0 Judged; length = 48 * (drum.last.judged + batch.count) }

abbrev pub next_texts : Drum → Batch → Front
next_texts drum batch = record { file = file_of drum.base 0 Texts; length = drum.last.texts + length batch.texts }

-- from the images of one moment to those of a later one, a batch was written behind what is committed, and synced
pub record IsWritten (drum : Drum) (batch : Batch) (old new : Files → Type 0) : Type 0 where
  pub cache : IsCommitted new (next_cache drum batch) batch.pairs
  pub judged : (held : List ℕ) → IsCommitted old (judged_front drum) held
      → IsCommitted new (next_judged drum batch) (held ++ batch.judged)
  pub texts : (held : List ℕ) → IsCommitted old (texts_front drum) held
      → IsCommitted new (next_texts drum batch) (held ++ batch.texts)

-- the files that it was written to are as long as what is committed of them then
pub record IsLongBatch (drum : Drum) (batch : Batch) (files : Files) : Type 0 where
  pub cache : (next_cache drum batch).length ≤ length (files (next_cache drum batch).file)
  pub judged : (next_judged drum batch).length ≤ length (files (next_judged drum batch).file)
  pub texts : (next_texts drum batch).length ≤ length (files (next_texts drum batch).file)

-- ---- which files change
-- those that a batch is written to: the cache side is the one that isn't live
abbrev pub IsBatchFile : Drum → ℕ → Type 0
IsBatchFile drum f = (f ≡ file_of drum.base 0 (Cache (1 - drum.last.side))) ⊎ (f ≡ file_of drum.base 0 Judged)
    ⊎ (f ≡ file_of drum.base 0 Texts)

-- only those change, and what is committed of them stays
pub record KeepsCommitted (drum : Drum) (old new : Files) : Type 0 where
  pub others : ChangesOnly (IsBatchFile drum) old new
  pub judged : KeepsFront (judged_front drum).length (old (judged_front drum).file) (new (judged_front drum).file)
  pub texts : KeepsFront (texts_front drum).length (old (texts_front drum).file) (new (texts_front drum).file)

-- from one snapshot to a later one only such writes were made
pub record Writes (drum : Drum) (old new : Told) : Type 0 where
  pub told : TellsBy (KeepsCommitted drum) old.files new.files
  pub stops : LeavesBy (KeepsCommitted drum) old new

-- by a call that reads the bay's files
abbrev pub WritesOn : Drum → Type 0 → Told → Told → Type 0
WritesOn drum failed before after = ReadsAndChanges (IsFileOf drum.base drum.settings.buckets) (KeepsCommitted drum)
    failed before after

-- a batch is written and synced, and this is its commit
pub record IsSynced (drum : Drum) (batch : Batch) (old new : Told) (next : Commit) : Type 0 where
  pub next_is : next ≡ next_commit drum batch
  pub room : HasRoom drum.settings.buckets (next_commit drum batch)
  pub written : IsWritten drum batch old.images new.images
  pub long : ForSome new.files (IsLongBatch drum batch)

-- The pending offers were judged, and a batch is written and synced, which is that of the book that the bay held.
pub record IsJudged (drum : Drum) (old new : Told) (next : Commit) : Type 0 where
  pub batch : Batch
  pub fits : FitsBatch drum batch
  pub synced : IsSynced drum batch old new next
  pub of_book : ForSome old.files (λ _. (book : Book) → Holds old.images drum book → IsBatchOf book batch)

-- the files that a merge changes: the manifest, those that a batch is written to, and those of the buckets on the side
-- that isn't live
abbrev pub IsMergeFile : Drum → ℕ → Type 0
IsMergeFile drum f = (f ≡ file_of drum.base 0 Manifest) ⊎ IsBatchFile drum f
    ⊎ IsSideFile drum.base (1 - live_side drum.last) drum.settings.buckets f
