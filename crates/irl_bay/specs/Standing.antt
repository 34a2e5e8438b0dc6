-- The files of a bay stand for a book.
use Rattle.std.specs.Prelude.{◌≡◌, ℕ, ◌<◌, List, [], slice_index_or}
use Rattle.std.specs.List.{AllByRecursion}
use Rattle.irl_offer.specs.Tuple.{Tuple}
use Rattle.irl_offer.specs.declared.settings.Settings.{Settings}
use Rattle.irl_model.specs.Book.{Book, IsBook, judged, judged_offers}
use Rattle.irl_model.specs.Judging.{after}
use Rattle.irl_disk.specs.Disk.{Files}
use Rattle.irl_journal.specs.Blob.{BeginsWith}
use Rattle.irl_layout.specs.BayFiles.{file_of}
use Rattle.irl_layout.specs.declared.files.BayFile.TheVariants.{Judged, Texts, Journal, Aux}
use Rattle.irl_layout.specs.Runs.{texts_of, IsOffer, HasBucket}
use Rattle.irl_layout.specs.Commits.{Commit, first_commit, last_commit, live_side, live_offers, AreCommitsOf, HasCommits}
use Rattle.irl_bay.specs.Cache.{HasCache}
use Rattle.irl_layout.specs.JudgedEntries.{judged_entries}

-- a book that a bay with these settings may have: none of its offers is dropped
pub record IsBookOf (settings : Settings) (book : Book) : Type 0 where
  pub is_book : IsBook book
  pub buckets : book.buckets ≡ settings.buckets
  pub rule : book.rule ≡ settings.rule
  pub dropped : book.dropped ≡ 0

-- the journal and the texts of a bucket, on the side that a commit leaves live, have this list
abbrev pub HasBucketOf : ℕ → ℕ → Commit → ℕ → List Tuple → Files → Type 0
HasBucketOf base array last b list files = HasBucket array list (files (file_of base 0 (Journal (live_side last) b)))
    (files (file_of base 0 (Aux (live_side last) b)))

-- The files of the bay whose first file is `base` stand for a book. What lies past the committed part of a file means
-- nothing: each part says what its file begins with, or of what records it has the text.
pub record Stands (base : ℕ) (settings : Settings) (book : Book) (files : Files) : Type 0 where
  pub book_is : IsBookOf settings book
  -- the manifest has a commit for each cut
  pub commits : List Commit
  pub commits_are : AreCommitsOf book commits
  pub manifest : HasCommits base commits files
  -- each offer has its room, and those of a bucket that the last of the commits leaves to the live side stand in its
  -- journal and its texts
  pub offers : (b : ℕ) → b < book.buckets → AllByRecursion IsOffer (slice_index_or book.lists b [])
  pub buckets : (b : ℕ) → b < book.buckets → HasBucketOf base settings.array
      (last_commit (first_commit book.buckets) commits) b
      (live_offers book (last_commit (first_commit book.buckets) commits) b) files
  -- the last of them names too the side of the cache with the keys that are judged
  pub cache : HasCache base (last_commit (first_commit book.buckets) commits)
      (after book.rule book.base (judged_offers book)) files
  -- and the judged offers stand in order, their texts likewise
  pub judged_are : BeginsWith (files (file_of base 0 Judged)) (judged_entries 0 (judged book))
  pub texts : BeginsWith (files (file_of base 0 Texts)) (texts_of (judged_offers book))
