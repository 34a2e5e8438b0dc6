-- What a manifest's record says: how far a merge has come in the files that it writes.
use Rattle.std.specs.Prelude.{◌≡◌, ℕ, zero, suc, ◌+◌, ◌-◌, ◌^◌, ◌<◌, ◌≤◌, ◌*◌, List, [], ◌∷◌, ◌++◌, map, length, drop, replicate, slice_index, slice_index_or, Option, None, Some, IfSome, IsSome}
use Rattle.std.specs.List.{flat_map, AllByRecursion}
use Rattle.byteorder.specs.Endian.{little_bytes, little_number}
use Rattle.irl_model.specs.Book.{Book, with_cuts, judged, uniques, judged_offers, judged_cut}
use Rattle.irl_offer.specs.Tuple.{Tuple}
use Rattle.irl_disk.specs.Disk.{Files}
use Rattle.irl_journal.specs.Format.{StandsFor, HasRecords}
use Rattle.irl_layout.specs.BayFiles.{file_of}
use Rattle.irl_layout.specs.declared.commit.Live.{Live}
use Rattle.irl_layout.specs.declared.files.BayFile.TheVariants.{Manifest, Journal}
use Rattle.irl_layout.specs.Runs.{texts_of}

pub record Commit : Type 0 where
  -- the live cache side, and how many keys it has
  pub side : ℕ
  -- The side of the buckets' files that is live, which has the offers from the cut on. None in a record of the layout
  -- that had but one side: its files have every offer.
  pub live : Option ℕ
  pub entries : ℕ
  -- how many offers are judged, and how many of them Unique
  pub judged : ℕ
  pub unique : ℕ
  -- how many bytes of the texts file are theirs
  pub texts : ℕ
  -- below which number each bucket's offers are judged
  pub cut : List ℕ

-- what is said before the first record
abbrev pub first_commit : ℕ → Commit
first_commit buckets = record {
  side = 0;
  live = None;
  entries = 0;
  judged = 0;
  unique = 0;
  texts = 0;
  cut = replicate buckets 0;
}

-- the side of the buckets' files that a commit leaves live
abbrev pub side_of : Option ℕ → ℕ
side_of None = 0
side_of (Some side) = side

abbrev pub live_side : Commit → ℕ
live_side commit = side_of commit.live

-- a payload's first byte names both sides
abbrev pub sides_byte : ℕ → Option ℕ → ℕ
sides_byte side None = side
sides_byte side (Some live) = side + 2 + 2 * live

-- the payload of a record
abbrev pub commit_bytes : Commit → List ℕ
commit_bytes commit =
    sides_byte commit.side commit.live ∷ (little_bytes 8 commit.entries
    ++ (little_bytes 8 commit.judged ++ (little_bytes 8 commit.unique
    ++ (little_bytes 8 commit.texts ++ flat_map (little_bytes 8) commit.cut))))

-- the numbers of eight bytes each that stand in these bytes, so many
abbrev pub numbers_in : ℕ → List ℕ → List ℕ
numbers_in zero bytes = []
numbers_in (suc n) bytes = little_number 8 bytes ∷ numbers_in n (drop 8 bytes)

-- what a commit of a bay of so many buckets says has its room
pub record IsCommit (buckets : ℕ) (commit : Commit) : Type 0 where
  pub side : commit.side ≤ 1
  pub live : IfSome commit.live (λ side. side ≤ 1)
  pub entries : commit.entries < 2 ^ 64
  pub judged : commit.judged < 2 ^ 64
  pub unique : commit.unique < 2 ^ 64
  pub texts : commit.texts < 2 ^ 64
  pub count : length commit.cut ≡ buckets
  pub cut : AllByRecursion (λ n. n < 2 ^ 64) commit.cut

-- the commit of a book, whichever side its cache has
pub record IsCommitOf (book : Book) (commit : Commit) : Type 0 where
  pub judged : commit.judged ≡ length (judged book)
  pub unique : commit.unique ≡ length (uniques book)
  pub texts : commit.texts ≡ length (texts_of (judged_offers book))
  pub cut : commit.cut ≡ judged_cut book

-- the counts of keys don't fall
abbrev pub GrowFrom : ℕ → List Commit → Type 0
GrowFrom entries [] = Unit {0}
GrowFrom entries (commit ∷ commits) = (entries ≤ commit.entries) × GrowFrom commit.entries commits

-- once a commit names a live side of the buckets' files, each later one does
abbrev pub NameFrom : Option ℕ → List Commit → Type 0
NameFrom live [] = Unit {0}
NameFrom live (commit ∷ commits) = (IsSome live → IsSome commit.live) × NameFrom commit.live commits

-- the last of them
abbrev pub last_commit : Commit → List Commit → Commit
last_commit first [] = first
last_commit first (commit ∷ commits) = last_commit commit commits

-- ---- which offers the live files of the buckets have
-- the number of the first of each bucket's: that of the cut where the commit names a side, else the first that the book
-- keeps
abbrev pub starts_by : List ℕ → List ℕ → Option ℕ → List ℕ
starts_by firsts cut None = firsts
starts_by firsts cut (Some side) = cut

abbrev pub starts : Book → Commit → List ℕ
starts book last = starts_by book.firsts last.cut last.live

-- the number of the first offer in each bucket's live files, where no first offer was dropped
abbrev pub starts_of : ℕ → Commit → List ℕ
starts_of buckets last = starts_by (replicate buckets 0) last.cut last.live

-- where a bucket's live files are, and what the last commit of a bay of so many buckets says of them
abbrev pub live_at : ℕ → Commit → ℕ → Live
live_at buckets last b = record {
  side = live_side last;
  start = slice_index (starts_of buckets last) b;
  judged = slice_index last.cut b - slice_index (starts_of buckets last) b;
}

-- the offers of a bucket from that number on
abbrev pub live_offers : Book → Commit → ℕ → List Tuple
live_offers book last b = drop (slice_index (starts book last) b - slice_index book.firsts b)
    (slice_index_or book.lists b [])

-- the commits of a book's cuts, one for each: that of the book as it was when it had only the cuts up to this one
pub record AreCommitsOf (book : Book) (commits : List Commit) : Type 0 where
  pub count : length commits ≡ length book.cuts
  pub each : (i : ℕ) → i < length commits → IsCommitOf (with_cuts (i + 1) book)
      (slice_index_or commits i (first_commit book.buckets))
  pub form : AllByRecursion (IsCommit book.buckets) commits
  pub grow : GrowFrom 0 commits
  pub name : NameFrom None commits

-- the manifest has these commits
abbrev pub HasCommits : ℕ → List Commit → Files → Type 0
HasCommits base commits files = StandsFor (files (file_of base 0 Manifest)) (map commit_bytes commits)

-- a bucket's journal has these records on the side that the last commit of the manifest leaves live
pub record HasLiveRecords (base buckets b : ℕ) (payloads : List (List ℕ)) (files : Files) : Type 0 where
  pub commits : List Commit
  pub form : AllByRecursion (IsCommit buckets) commits
  pub manifest : HasCommits base commits files
  pub records : HasRecords (files (file_of base 0 (Journal (live_side (last_commit (first_commit buckets) commits)) b)))
      payloads
