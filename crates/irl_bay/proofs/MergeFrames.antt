-- What a merge's writes leave as it was: the files that it doesn't write, and what is committed of those that it does.
use Rattle.std.proofs.Common.{◌≡◌, ◌≢◌, ◌∙◌, inl, inr, ⊎_elim, ℕ, ◌+◌, ◌-◌, ◌<◌, ◌≤◌, List, [], map, Option, None, Some, IfSome, refl, sym, subst, arith}
use Rattle.irl_offer.specs.Tuple.{Tuple}
use Rattle.irl_model.specs.Book.{Book}
use Rattle.irl_disk.specs.Disk.{Files, ChangesFile, ChangesOnly}
use Rattle.irl_disk.specs.Images.{Follows}
use Rattle.irl_journal.specs.Appending.{Tail, Ends, IsOpen}
use Rattle.irl_journal.specs.Blob.{Front, KeepsFront, IsCommitted}
use Rattle.irl_journal.proofs.Fronts.{keeps_none, keeps_both}
use Rattle.irl_layout.specs.BayFiles.{file_of, IsBucketFile, IsSideFile}
use Rattle.irl_bay.specs.declared.bucket.Bucket.{Bucket}
use Rattle.irl_layout.specs.declared.files.BayFile.TheVariants.{Cache, Judged, Texts}
use Rattle.irl_layout.specs.Commits.{commit_bytes, live_side, side_of}
use Rattle.irl_bay.specs.Drum.{Drum, IsDrum, bucket_at, durable_at, cache_front, judged_front, texts_front}
use Rattle.irl_bay.specs.Holding.{Holds, HoldsBucket}
use Rattle.irl_bay.specs.Merging.{IsBatchFile, KeepsCommitted, emptied}
use Rattle.irl_bay.proofs.JudgedBooks.{few_buckets}

-- ---- from the images of one moment to those of a later one
-- a blob whose front stays is committed as before
pub blob_moved : (blob : Front) (held : List ℕ) (old new : Files → Type 0) → ((z : Files) → new z → (y : Files) × old y × KeepsFront blob.length (y blob.file) (z blob.file))
    → IsCommitted old blob held → IsCommitted new blob held
blob_moved blob held old new from committed = record {
  size = committed.size;
  each = λ z left. let y = from z left in y.2 held committed.size (committed.each y.0 y.1);
}

pub same_front : (n : ℕ) (old new : List ℕ) → new ≡ old → KeepsFront n old new
same_front n old new same = subst (λ (file : List ℕ). KeepsFront n old file) (sym same) (keeps_none n old)

-- a journal whose file stays is open as before
pub tail_moved : (tail : Tail) (payloads : List (List ℕ)) (old new : Files → Type 0) → ((z : Files) → new z → (y : Files) × old y × (z tail.file ≡ y tail.file)) → IsOpen old tail payloads
    → IsOpen new tail payloads
tail_moved tail payloads old new from is_open = λ z left.
    let y = from z left in
    subst (λ (file : List ℕ). Ends tail.end file payloads) (sym y.2) (is_open y.0 y.1)

-- a bucket whose files stay has its list
pub bucket_moved : (array cut : ℕ) (bucket : Bucket) (list : List Tuple) (old new : Files → Type 0)
    → ((z : Files) → new z → (y : Files) × old y × (z bucket.journal.file ≡ y bucket.journal.file) × (z bucket.aux.file ≡ y bucket.aux.file))
    → HoldsBucket old array cut bucket list → HoldsBucket new array cut bucket list
bucket_moved array cut bucket list old new from holds = record {
  before = holds.before;
  behind = holds.behind;
  are = holds.are;
  journal = tail_moved bucket.journal _ old new (λ z left. let y = from z left in (y.0, y.1, y.2)) holds.journal;
  aux = blob_moved bucket.aux _ old new (λ z left. let y = from z left in (y.0, y.1, same_front bucket.aux.length _ _ y.3)) holds.aux;
  durable = holds.durable;
  judged = holds.judged;
  gate = holds.gate;
  skip = holds.skip;
  text = holds.text;
}

-- ---- a bay whose committed parts stay
-- but for the manifest
pub record Stays (drum : Drum) (y z : Files) : Type 0 where
  pub journals : (b : ℕ) → b < drum.settings.buckets → z (bucket_at drum b).journal.file ≡ y (bucket_at drum b).journal.file
  pub auxes : (b : ℕ) → b < drum.settings.buckets → z (bucket_at drum b).aux.file ≡ y (bucket_at drum b).aux.file
  pub cache : z (cache_front drum).file ≡ y (cache_front drum).file
  pub judged : KeepsFront (judged_front drum).length (y (judged_front drum).file) (z (judged_front drum).file)
  pub texts : KeepsFront (texts_front drum).length (y (texts_front drum).file) (z (texts_front drum).file)

-- it holds its book where its manifest has the same records
pub holds_moved : (old new : Files → Type 0) (drum : Drum) (book : Book) → ((z : Files) → new z → Follows (Stays drum) old z) → (holds : Holds old drum book)
    → IsOpen new drum.manifest (map commit_bytes holds.commits) → Holds new drum book
holds_moved old new drum book from holds manifest = record {
  book_is = holds.book_is;
  offers = holds.offers;
  starts_are = holds.starts_are;
  buckets = λ b within.
      let inside : b < drum.settings.buckets = omega (arith, holds.book_is.buckets) in
      bucket_moved _ _ (bucket_at drum b) _ old new (λ z left. let y = from z left in (y.0, y.1, y.2.journals b inside, y.2.auxes b inside)) (holds.buckets b within);
  commits = holds.commits;
  commits_are = holds.commits_are;
  last = holds.last;
  numbers = holds.numbers;
  manifest = manifest;
  keys = holds.keys;
  cache = blob_moved (cache_front drum) _ old new (λ z left. let y = from z left in (y.0, y.1, same_front _ _ _ y.2.cache)) holds.cache;
  judged_are = blob_moved (judged_front drum) _ old new (λ z left. let y = from z left in (y.0, y.1, y.2.judged)) holds.judged_are;
  texts = blob_moved (texts_front drum) _ old new (λ z left. let y = from z left in (y.0, y.1, y.2.texts)) holds.texts;
}

-- ---- the files apart
pub not_batch : (drum : Drum) (f : ℕ) → f ≢ file_of drum.base 0 (Cache (1 - drum.last.side)) → f ≢ file_of drum.base 0 Judged → f ≢ file_of drum.base 0 Texts → IsBatchFile drum f → ⊥
not_batch drum f cache judged texts is = ⊎_elim cache (λ more. ⊎_elim judged texts more) is

-- while a batch is written
pub batch_stays : (drum : Drum) (y z : Files) → IsDrum drum → KeepsCommitted drum y z → Stays drum y z
batch_stays drum y z law keeps = record {
  journals = λ b within. let is = (law.buckets b within).journal in keeps.others _ (not_batch drum _ (omega (arith, is)) (omega (arith, is)) (omega (arith, is)));
  auxes = λ b within. let is = (law.buckets b within).aux in keeps.others _ (not_batch drum _ (omega (arith, is)) (omega (arith, is)) (omega (arith, is)));
  cache = keeps.others _ (not_batch drum _ (omega (arith, law.last.side)) (omega (arith, law.last.side)) (omega (arith, law.last.side)));
  judged = keeps.judged;
  texts = keeps.texts;
}

pub batch_keeps_manifest : (drum : Drum) (y z : Files) → IsDrum drum → KeepsCommitted drum y z → z drum.manifest.file ≡ y drum.manifest.file
batch_keeps_manifest drum y z law keeps = let is = law.manifest in keeps.others _ (not_batch drum _ (omega (arith, is)) (omega (arith, is)) (omega (arith, is)))

-- while the side of the buckets' files that isn't live is emptied
abbrev pub Empties : Drum → Files → Files → Type 0
Empties drum = ChangesOnly (IsSideFile drum.base (1 - live_side drum.last) drum.settings.buckets)

-- its files have no offer
abbrev pub AreEmptied : (Files → Type 0) → Drum → Type 0
AreEmptied images drum = (array b : ℕ) → b < drum.settings.buckets → HoldsBucket images array 0 (emptied drum.base (1 - live_side drum.last) b (durable_at drum b)) []

-- a file below the buckets' is none of them
pub low_apart : (base side buckets f : ℕ) → f < base + 10 → IsSideFile base side buckets f → ⊥
low_apart base side buckets f low is = ⊎_elim (λ e. omega (arith, e, low)) (λ e. omega (arith, e, low)) is.2

pub low_stays : (old new : Files → Type 0) (drum : Drum) (blob : Front) (held : List ℕ) → blob.file < drum.base + 10 → ((z : Files) → new z → Follows (Empties drum) old z) → IsCommitted old blob held
    → IsCommitted new blob held
low_stays old new drum blob held low from = blob_moved blob held old new (λ z left. let y = from z left in
    (y.0, y.1, same_front _ _ _ (y.2 blob.file (low_apart drum.base (1 - live_side drum.last) drum.settings.buckets blob.file low))))

live_low : (drum : Drum) → IsDrum drum → live_side drum.last ≤ 1
live_low drum law = side_low drum.last.live law.last.live
  where
    side_low : (live : Option ℕ) → IfSome live (λ side. side ≤ 1) → side_of live ≤ 1
    side_low None is = omega arith
    side_low (Some side) is = is

-- nor is one of the live side
live_apart : (drum : Drum) (b f : ℕ) → IsDrum drum → b < drum.settings.buckets → IsBucketFile drum.base (live_side drum.last) b f
    → IsSideFile drum.base (1 - live_side drum.last) drum.settings.buckets f → ⊥
live_apart drum b f law within of is =
    let few = few_buckets drum.settings.buckets law.settings.buckets in
    let low = live_low drum law in
    ⊎_elim (λ e. ⊎_elim (λ d. omega (arith, e, d, low, few, within, is.1)) (λ d. omega (arith, e, d, low, few, within, is.1)) is.2) (λ e.
    ⊎_elim (λ d. omega (arith, e, d, low, few, within, is.1)) (λ d. omega (arith, e, d, low, few, within, is.1)) is.2) of

pub empties_stays : (drum : Drum) (y z : Files) → IsDrum drum → Empties drum y z → Stays drum y z
empties_stays drum y z law empties = record {
  journals = λ b within. empties _ (live_apart drum b _ law within (inl (law.buckets b within).journal));
  auxes = λ b within. empties _ (live_apart drum b _ law within (inr (law.buckets b within).aux));
  cache = empties _ (low_apart drum.base _ _ _ (omega (arith, law.last.side)));
  judged = same_front _ _ _ (empties _ (low_apart drum.base _ _ _ (omega arith)));
  texts = same_front _ _ _ (empties _ (low_apart drum.base _ _ _ (omega arith)));
}

-- so a bay holds its book through that
pub holds_emptied : (old new : Files → Type 0) (drum : Drum) (book : Book) → IsDrum drum → ((z : Files) → new z → Follows (Empties drum) old z) → Holds old drum book → Holds new drum book
holds_emptied old new drum book law from holds =
    holds_moved old new drum book (λ z left. let y = from z left in (y.0, y.1, empties_stays drum y.0 z law y.2)) holds
    (tail_moved drum.manifest _ old new (λ z left. let y = from z left in (y.0, y.1, y.2 drum.manifest.file (low_apart drum.base _ _ _ (omega (arith, law.manifest))))) holds.manifest)

-- and while the manifest is appended to
pub manifest_stays : (drum : Drum) (step : List ℕ → List ℕ → Type 0) (y z : Files) → IsDrum drum → ChangesFile drum.manifest.file step y z → Stays drum y z
manifest_stays drum step y z law change =
    let is = law.manifest in
    let side = law.last.side in
    record {
      journals = λ b within. let is_journal = (law.buckets b within).journal in change.others _ (omega (arith, is, is_journal));
      auxes = λ b within. let is_aux = (law.buckets b within).aux in change.others _ (omega (arith, is, is_aux));
      cache = change.others _ (omega (arith, is, side));
      judged = same_front _ _ _ (change.others _ (omega (arith, is)));
      texts = same_front _ _ _ (change.others _ (omega (arith, is)));
    }

-- so a bay holds its book through the writes of a batch
pub holds_written : (old new : Files → Type 0) (drum : Drum) (book : Book) → IsDrum drum → ((z : Files) → new z → Follows (KeepsCommitted drum) old z) → Holds old drum book → Holds new drum book
holds_written old new drum book law from holds =
    holds_moved old new drum book (λ z left. let y = from z left in (y.0, y.1, batch_stays drum y.0 z law y.2)) holds
    (tail_moved drum.manifest _ old new (λ z left. let y = from z left in (y.0, y.1, batch_keeps_manifest drum y.0 z law y.2)) holds.manifest)

-- ---- what a batch keeps
pub keeps_all : (drum : Drum) (x : Files) → KeepsCommitted drum x x
keeps_all drum x = record { others = λ f out. refl; judged = keeps_none _ _; texts = keeps_none _ _ }

pub keeps_then : (drum : Drum) (x y z : Files) → KeepsCommitted drum x y → KeepsCommitted drum y z → KeepsCommitted drum x z
keeps_then drum x y z first second = record {
  others = λ f out. second.others f out ∙ first.others f out;
  judged = keeps_both _ _ _ _ first.judged second.judged;
  texts = keeps_both _ _ _ _ first.texts second.texts;
}

-- with fewer images it holds its book too
pub holds_fewer : (old new : Files → Type 0) (drum : Drum) (book : Book) → IsDrum drum → ((z : Files) → new z → old z) → Holds old drum book → Holds new drum book
holds_fewer old new drum book law within holds = holds_written old new drum book law (λ z left. (z, within z left, keeps_all drum z)) holds
