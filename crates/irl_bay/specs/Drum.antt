-- A bay that is open: what it keeps in memory of its files.
use Rattle.std.specs.Prelude.{◌≡◌, ℕ, ◌+◌, ◌*◌, ◌-◌, ◌<◌, ◌≤◌, ◌^◌, Bool, true, List, Some, map, length, sum, slice_index, slice_index_or, slice_set}
use Rattle.irl_offer.specs.declared.settings.Settings.{Settings}
use Rattle.irl_offer.specs.Settings.{AreValid}
use Rattle.irl_model.specs.Book.{Book, lengths_of}
use Rattle.irl_journal.specs.Appending.{Tail}
use Rattle.irl_journal.specs.Blob.{Front}
use Rattle.irl_layout.specs.BayFiles.{file_of, max_base}
use Rattle.irl_layout.specs.declared.files.BayFile.TheVariants.{Manifest, Cache, Judged, Texts, Journal, Aux}
use Rattle.irl_bay.specs.declared.bucket.Bucket.{Bucket}
use Rattle.irl_layout.specs.Commits.{Commit, live_side, IsCommit, IsCommitOf}

pub record Drum : Type 0 where
  -- its first file
  pub base : ℕ
  pub settings : Settings
  -- whether no call failed
  pub is_sound : Bool
  pub manifest : Tail
  -- the last commit, and how many cuts there are
  pub last : Commit
  pub cuts : ℕ
  pub buckets : List Bucket

-- what stands for a bucket that isn't there
abbrev pub no_bucket : Bucket
no_bucket = record {
  journal = record { file = 0; end = 0; is_sound = true };
  aux = record { file = 0; length = 0 };
  start = 0;
  durable = 0;
  gate = 0;
  skip = 0;
  text = 0;
}

abbrev pub bucket_at : Drum → ℕ → Bucket
bucket_at drum b = slice_index_or drum.buckets b no_bucket

-- how many offers each bucket has
abbrev pub durables : Drum → List ℕ
durables drum = map (λ bucket. bucket.durable) drum.buckets

abbrev pub durable_at : Drum → ℕ → ℕ
durable_at drum b = (bucket_at drum b).durable

-- how many of a bucket's offers are judged, and how many wait to be
abbrev pub judged_at : Drum → ℕ → ℕ
judged_at drum b = slice_index drum.last.cut b

abbrev pub pending_at : Drum → ℕ → ℕ
pending_at drum b = durable_at drum b - judged_at drum b

-- what is committed of the live cache side, of the judged file and of the texts
abbrev pub cache_front : Drum → Front
cache_front drum = record { file = file_of drum.base 0 (Cache drum.last.side); length = 16 * drum.last.entries }

abbrev pub judged_front : Drum → Front
judged_front drum = record { file = file_of drum.base 0 Judged; length = 48 * drum.last.judged }

abbrev pub texts_front : Drum → Front
texts_front drum = record { file = file_of drum.base 0 Texts; length = drum.last.texts }

-- ---- what holds of every open bay
-- a bucket's files are its own on the live side, they begin with no offer that isn't judged, and of its offers no more
-- are judged than there are
pub record IsBucket (base side b cut : ℕ) (is_sound : Bool) (bucket : Bucket) : Type 0 where
  pub journal : bucket.journal.file ≡ file_of base 0 (Journal side b)
  pub aux : bucket.aux.file ≡ file_of base 0 (Aux side b)
  pub sound : is_sound ≡ true → bucket.journal.is_sound ≡ true
  pub start : bucket.start ≤ cut
  pub judged : cut ≤ bucket.durable
  pub gate : bucket.gate ≤ bucket.journal.end
  pub text : bucket.text ≤ bucket.aux.length

pub record IsDrum (drum : Drum) : Type 0 where
  pub base : drum.base ≤ max_base
  pub settings : AreValid drum.settings
  pub last : IsCommit drum.settings.buckets drum.last
  pub judged : 48 * drum.last.judged < 2 ^ 64
  pub entries : 16 * drum.last.entries < 2 ^ 64
  pub manifest : drum.manifest.file ≡ file_of drum.base 0 Manifest
  pub sound : drum.is_sound ≡ true → drum.manifest.is_sound ≡ true
  pub cuts : drum.cuts ≤ drum.manifest.end
  pub count : length drum.buckets ≡ drum.settings.buckets
  pub buckets : (b : ℕ) → b < drum.settings.buckets
      → IsBucket drum.base (live_side drum.last) b (judged_at drum b) drum.is_sound (bucket_at drum b)

-- ---- what a book says of it
-- its numbers are the book's
pub record HasNumbers (drum : Drum) (book : Book) : Type 0 where
  pub offers : durables drum ≡ lengths_of book
  pub commit : IsCommitOf book drum.last
  pub cuts : drum.cuts ≡ book.dropped + length book.cuts

-- an offer waits to be judged
abbrev pub SomePending : Drum → Type 0
SomePending drum = (b : ℕ) × (b < drum.settings.buckets) × (0 < pending_at drum b)

-- ---- what a call makes of the numbers
-- they stay
pub record KeepsCounts (old new : Drum) : Type 0 where
  pub base : new.base ≡ old.base
  pub settings : new.settings ≡ old.settings
  pub last : new.last ≡ old.last
  pub cuts : new.cuts ≡ old.cuts
  pub offers : durables new ≡ durables old

-- a bucket has so many offers more
pub record CountsFlush (b n : ℕ) (old new : Drum) : Type 0 where
  pub base : new.base ≡ old.base
  pub settings : new.settings ≡ old.settings
  pub last : new.last ≡ old.last
  pub cuts : new.cuts ≡ old.cuts
  pub offers : durables new ≡ slice_set (durables old) b (durable_at old b + n)

-- one cut more: all offers are judged
pub record CountsMerge (old new : Drum) : Type 0 where
  pub base : new.base ≡ old.base
  pub settings : new.settings ≡ old.settings
  pub cuts : new.cuts ≡ old.cuts + 1
  pub offers : durables new ≡ durables old
  pub cut : new.last.cut ≡ durables old
  pub side : new.last.side ≡ 1 - old.last.side
  pub live : new.last.live ≡ Some (1 - live_side old.last)
  -- no number falls, and no more offers become Unique than are judged
  pub entries : old.last.entries ≤ new.last.entries
  pub unique : old.last.unique ≤ new.last.unique
  pub unique_more : new.last.unique + old.last.judged ≤ old.last.unique + new.last.judged
  pub texts : old.last.texts ≤ new.last.texts
  pub judged : new.last.judged + sum old.last.cut ≡ old.last.judged + sum (durables old)
