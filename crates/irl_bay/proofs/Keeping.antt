-- A merge's device calls: a batch is written, the side of the buckets' files that isn't live is emptied, and then the record of the
-- batch is appended to the manifest.
use Rattle.std.proofs.Common.{◌≡◌, ◌⊎◌, ◌∙◌, inl, inr, ⊎_elim, Bool, ℕ, ◌+◌, ◌-◌, ◌<◌, ◌≤◌, true, false, List, [], ◌∷◌, ◌++◌, length, length-append, map, Option, None, Some, Result, Err, refl, sym, ap, subst, arith}
use Rattle.std.specs.Prelude.{⊤, IsErrOf}
use Rattle.std.specs.List.{flat_map, AllByRecursion}
use Rattle.std.specs.Option.{ForSome}
use Rattle.irl_offer.specs.Tuple.{Tuple}
use Rattle.irl_model.specs.Book.{Book, merged}
use Rattle.irl_disk.specs.Disk.{Files, Changes, ChangesFile, ChangesOnly, TellsOnly, TellsBy}
use Rattle.irl_disk.specs.Images.{Told, IsConsistent, Follows, Leaves, LeavesBy}
use Rattle.irl_disk.proofs.Frames.{told_from}
use Rattle.irl_disk.proofs.Stretches.{stays, widens, widens_by, joins, joins_by, same_by, left_now}
use Rattle.irl_journal.specs.Appending.{Tail, IsOpen, HasOrGains}
use Rattle.irl_journal.specs.Format.{StandsFor, HasRecords}
use Rattle.irl_journal.proofs.Fronts.{keeps_both}
use Rattle.irl_layout.specs.BayFiles.{file_of, IsSideFile}
use Rattle.irl_bay.specs.declared.bucket.Bucket.{Bucket}
use Rattle.irl_layout.specs.declared.files.BayFile.TheVariants.{Journal, Aux}
use Rattle.irl_layout.specs.Runs.{run_bytes, IsRun}
use Rattle.irl_layout.specs.Commits.{Commit, IsCommit, HasLiveRecords, commit_bytes, first_commit, last_commit, live_side, live_offers}
use Rattle.irl_bay.specs.Drum.{bucket_at, durable_at, Drum, IsDrum, SomePending}
use Rattle.irl_bay.specs.Holding.{Holds, HoldsBucket, Becomes, IsLong}
use Rattle.irl_bay.specs.Merging.{AreEmpty, Batch, KeepsCommitted, FitsBatch, IsBatchFile, IsMergeFile, IsJudged, IsLongBatch, emptied, next_commit, next_cache, next_judged, next_texts, with_commit, Writes}
use Rattle.irl_bay.proofs.BatchWrites.{step_others}
use Rattle.irl_bay.proofs.Live.{live_merged}
use Rattle.irl_bay.proofs.MergeFrames.{AreEmptied, Empties, Stays, batch_keeps_manifest, batch_stays, empties_stays, holds_moved, keeps_all, low_apart, tail_moved}
use Rattle.irl_bay.proofs.Merges.{IsMerged, IsReady, Only, ready, ready_leaves, holds_merged}
use Rattle.irl_bay.proofs.Merged.{bucket_emptied}
use Rattle.irl_bay.proofs.Staying.{only_wider, tells_both, tells_one, told_before}
use Rattle.irl_bay.proofs.Standing.{holds_stands}

-- ---- until the record is appended
-- what the bay holds stays, and only the merge's files change
pub record Spares (drum : Drum) (y z : Files) : Type 0 where
  pub stays : Stays drum y z
  pub manifest : z drum.manifest.file ≡ y drum.manifest.file
  pub others : ChangesOnly (IsMergeFile drum) y z

-- while the batch is written
pub batch_spares : (drum : Drum) (y z : Files) → IsDrum drum → KeepsCommitted drum y z → Spares drum y z
batch_spares drum y z law keeps = record {
  stays = batch_stays drum y z law keeps;
  manifest = batch_keeps_manifest drum y z law keeps;
  others = λ f out. keeps.others f (λ is. out (inr (inl is)));
}

-- and while the other side is emptied
pub side_spares : (drum : Drum) (y z : Files) → IsDrum drum → Empties drum y z → Spares drum y z
side_spares drum y z law empties = record {
  stays = empties_stays drum y z law empties;
  manifest = empties drum.manifest.file (low_apart drum.base (1 - live_side drum.last) drum.settings.buckets drum.manifest.file (omega (arith, law.manifest)));
  others = λ f out. empties f (λ is. out (inr (inr is)));
}

spares_then : (drum : Drum) (x y z : Files) → Spares drum x y → Spares drum y z → Spares drum x z
spares_then drum x y z first second = record {
  stays = record {
    journals = λ b within. second.stays.journals b within ∙ first.stays.journals b within;
    auxes = λ b within. second.stays.auxes b within ∙ first.stays.auxes b within;
    cache = second.stays.cache ∙ first.stays.cache;
    judged = keeps_both _ _ _ _ first.stays.judged second.stays.judged;
    texts = keeps_both _ _ _ _ first.stays.texts second.stays.texts;
  };
  manifest = second.manifest ∙ first.manifest;
  others = λ f out. second.others f out ∙ first.others f out;
}

pub written_spares : (drum : Drum) (a b : Told) → IsDrum drum → LeavesBy (KeepsCommitted drum) a b → LeavesBy (Spares drum) a b
written_spares drum a b law first = widens_by a b _ _ first (λ y z. batch_spares drum y z law)

spares_both : (drum : Drum) (a b d : Told) → IsDrum drum → IsConsistent b → LeavesBy (KeepsCommitted drum) a b → LeavesBy (Empties drum) b d → LeavesBy (Spares drum) a d
spares_both drum a b d law law_b first second =
    joins_by a b d (Spares drum) law_b (spares_then drum) (written_spares drum a b law first) (widens_by b d _ _ second (λ y z. side_spares drum y z law))

-- so the bay goes on holding its book
holds_spared : (old new : Files → Type 0) (drum : Drum) (book : Book) → ((z : Files) → new z → Follows (Spares drum) old z) → Holds old drum book → Holds new drum book
holds_spared old new drum book from holds =
    holds_moved old new drum book (λ z left. let y = from z left in (y.0, y.1, y.2.stays)) holds
    (tail_moved drum.manifest _ old new (λ z left. let y = from z left in (y.0, y.1, y.2.manifest)) holds.manifest)

-- ---- the records of a bucket that is live
-- where a bay holds a book, its live journals have the records with which they are open
pub live_records : (images : Files → Type 0) (drum : Drum) (book : Book) (b : ℕ) (payloads : List (List ℕ)) (image : Files) → IsDrum drum → b < drum.settings.buckets → Holds images drum book
    → IsOpen images (bucket_at drum b).journal payloads → images image → HasLiveRecords drum.base drum.settings.buckets b payloads image
live_records images drum book b payloads image law within holds is_open left =
    let same = holds.book_is.buckets in
    let last_is : drum.last ≡ last_commit (first_commit drum.settings.buckets) holds.commits = holds.last ∙ ap (λ (n : ℕ). last_commit (first_commit n) holds.commits) same in
    record {
      commits = holds.commits;
      form = subst (λ (n : ℕ). AllByRecursion (IsCommit n) holds.commits) same holds.commits_are.form;
      manifest = subst (λ (f : ℕ). StandsFor (image f) (map commit_bytes holds.commits)) law.manifest (inr (holds.manifest image left).records);
      records = subst (λ (last : Commit). HasRecords (image (file_of drum.base 0 (Journal (live_side last) b))) payloads) last_is
          (subst (λ (f : ℕ). HasRecords (image f) payloads) (law.buckets b within).journal (is_open image left).records);
    }

-- a bucket without an offer has no record
no_runs : (array : ℕ) (runs : List (List Tuple)) → [] ≡ flat_map (λ (run : List Tuple). run) runs → AllByRecursion (IsRun array) runs → runs ≡ []
no_runs array [] joined sizes = refl
no_runs array (run ∷ runs) joined sizes =
    let longer = ap (λ (l : List Tuple). length l) joined in
    absurd (omega (arith, longer, length-append run (flat_map (λ (one : List Tuple). one) runs), sizes.0.0))

open_empty : (images : Files → Type 0) (array cut : ℕ) (bucket : Bucket) (list : List Tuple) → list ≡ [] → HoldsBucket images array cut bucket list → IsOpen images bucket.journal []
open_empty images array cut bucket list none holds =
    subst (λ (runs : List (List Tuple)). IsOpen images bucket.journal (map run_bytes runs)) (no_runs array (holds.before ++ holds.behind) (sym none ∙ holds.are.joined) holds.are.sizes) holds.journal

-- ---- which files are told to change
wider : (among wide : ℕ → Type 0) (old new : Option Files) → ((f : ℕ) → among f → wide f) → TellsOnly among old new → TellsOnly wide old new
wider among wide None new more tells = tells
wider among wide (Some old) new more tells = (tells.0, tells.1, only_wider among wide old tells.0 more tells.2)

batch_others : (drum : Drum) (a b : Option Files) → TellsOnly (IsBatchFile drum) a b → TellsOnly (IsMergeFile drum) a b
batch_others drum a b = wider (IsBatchFile drum) (IsMergeFile drum) a b (λ f is. inr (inl is))

-- the files of the side that isn't live
abbrev pub IsOtherSide : Drum → ℕ → Type 0
IsOtherSide drum = IsSideFile drum.base (1 - live_side drum.last) drum.settings.buckets

side_others : (drum : Drum) (a b d : Option Files) → TellsOnly (IsBatchFile drum) a b → TellsOnly (IsOtherSide drum) b d → TellsOnly (IsMergeFile drum) a d
side_others drum a b d first second = tells_both (IsMergeFile drum) a b d (batch_others drum a b first) (wider (IsOtherSide drum) (IsMergeFile drum) b d (λ f is. inr (inr is)) second)

-- ---- what a merge leaves of what was
-- the live journals have their records, or none
abbrev pub HasOrEmpties : Drum → ℕ → List (List ℕ) → Files → Type 0
HasOrEmpties drum n payloads image = HasLiveRecords drum.base drum.settings.buckets n payloads image ⊎ HasLiveRecords drum.base drum.settings.buckets n [] image

-- From one snapshot to a later one only a merge's files change, and a stop leaves files that stand for the book, with the
-- cut or without, and live journals with their records, or with none.
pub record IsMerging (drum : Drum) (a b : Told) : Type 0 where
  pub others : TellsOnly (IsMergeFile drum) a.files b.files
  pub others_stop : LeavesBy (ChangesOnly (IsMergeFile drum)) a b
  pub stops : (book : Book) → Holds a.images drum book → LeavesBy (Becomes (IsMergeFile drum) drum.base drum.settings book (merged book)) a b
  pub records_stop : (book : Book) (n : ℕ) (payloads : List (List ℕ)) → Holds a.images drum book → n < drum.settings.buckets → IsOpen a.images (bucket_at drum n).journal payloads
      → Leaves a b (HasOrEmpties drum n payloads)

module _ (drum : Drum) (a b : Told) (law : IsDrum drum) (spares : LeavesBy (Spares drum) a b) where
  -- the bay goes on holding its book
  pub holds_on : (book : Book) → IsConsistent b → Holds a.images drum book → Holds b.images drum book
  holds_on book law_b holds = holds_spared a.images b.images drum book (λ z left. left_now a b _ law_b spares z left) holds

  only_holds : (book : Book) (image : Files) → Holds a.images drum book → Follows (Spares drum) a.images image → Holds (Only image) drum book
  only_holds book image holds from = holds_spared a.images (Only image) drum book (λ z is. (from.0, from.1, subst (λ (z : Files). Spares drum from.0 z) (sym is) from.2)) holds

  merging_spared : TellsOnly (IsMergeFile drum) a.files b.files → IsMerging drum a b
  merging_spared others = record {
    others = others;
    others_stop = widens_by a b _ _ spares (λ y z spares. spares.others);
    stops = λ book holds. widens a b _ _ spares (λ image from. (
      from.0,
      from.1,
      record { others = from.2.others; stands = inl (holds_stands (Only image) drum book image law (only_holds book image holds from) refl) },
    ));
    records_stop = λ book n payloads holds within is_open. widens a b _ _ spares (λ image from.
        inl (live_records (Only image) drum book n payloads image law within (only_holds book image holds from)
        (tail_moved (bucket_at drum n).journal payloads a.images (Only image) (λ z is. (from.0, from.1, ap (λ (z : Files). z (bucket_at drum n).journal.file) is ∙ from.2.stays.journals n within))
        is_open) refl));
  }

-- before a call, and while the batch is written
tells_none : (step : Files → Files → Type 0) (told : Option Files) → ((x : Files) → step x x) → TellsBy step told told
tells_none step None none = refl
tells_none step (Some files) none = (files, refl, none files)

pub writes_none : (drum : Drum) (now : Told) → IsConsistent now → Writes drum now now
writes_none drum now law = record {
  told = tells_none (KeepsCommitted drum) now.files (keeps_all drum);
  stops = same_by now now (KeepsCommitted drum) (keeps_all drum) (stays now now.images law (λ image was. was));
}

pub merging_written : (drum : Drum) (a b : Told) → IsDrum drum → Writes drum a b → IsMerging drum a b
merging_written drum a b law writes = merging_spared drum a b law (written_spares drum a b law writes.stops) (batch_others drum a.files b.files (step_others drum a b writes))

pub merging_none : (drum : Drum) (now : Told) → IsDrum drum → IsConsistent now → IsMerging drum now now
merging_none drum now law law_now = merging_written drum now now law (writes_none drum now law_now)

-- while the other side is emptied
pub merging_emptied : (drum : Drum) (a b d : Told) → IsDrum drum → IsConsistent b → Writes drum a b → TellsOnly (IsOtherSide drum) b.files d.files → LeavesBy (Empties drum) b d → IsMerging drum a d
merging_emptied drum a b d law law_b writes others emptying = merging_spared drum a d law (spares_both drum a b d law law_b writes.stops emptying)
    (side_others drum a.files b.files d.files (step_others drum a b writes) others)

-- ---- once the side is emptied
-- From one snapshot to a later one a batch of which this is the commit was written, and the side that isn't live emptied.
pub record IsPrepared (drum : Drum) (batch : Batch) (next : Commit) (a d : Told) : Type 0 where
  pub law : IsDrum drum
  pub next_is : next ≡ next_commit drum batch
  pub fits : FitsBatch drum batch
  pub spares : LeavesBy (Spares drum) a d
  pub merging : IsMerging drum a d
  pub ready_for : (files : Files) → a.files ≡ Some files → (book : Book) → Holds a.images drum book → IsReady d.images drum book batch

pub prepared : (drum : Drum) (next : Commit) (a b d : Told) → IsDrum drum → drum.is_sound ≡ true → SomePending drum → IsConsistent b → IsConsistent d → Writes drum a b → (j : IsJudged drum a b next)
    → TellsOnly (IsOtherSide drum) b.files d.files → LeavesBy (Empties drum) b d → AreEmptied d.images drum
    → IsPrepared drum j.batch next a d
prepared drum next a b d law sound some law_b law_d writes j others emptying emptied_are = record {
  law = law;
  next_is = j.synced.next_is;
  fits = j.fits;
  spares = spares_both drum a b d law law_b writes.stops emptying;
  merging = merging_emptied drum a b d law law_b writes others emptying;
  ready_for = λ files told book holds.
      ready a.images b.images d.images drum book j.batch law sound some j.fits j.synced.room holds (holds_on drum a b law (written_spares drum a b law writes.stops) book law_b holds)
      (j.of_book files told book holds) j.synced.written
      (λ z left. left_now b d _ law_d emptying z left) emptied_are;
}

-- the manifest is as long as before the side was emptied
pub manifest_long : (drum : Drum) (b d : Option Files) → IsDrum drum → ForSome b (λ files. IsLong drum files) → TellsOnly (IsOtherSide drum) b d
    → ForSome d (λ files. drum.manifest.end < length (files drum.manifest.file))
manifest_long drum b d law long changes = λ files told.
    let from = told_before (IsOtherSide drum) b d files changes told in
    let stays = from.2 drum.manifest.file (low_apart drum.base (1 - live_side drum.last) drum.settings.buckets drum.manifest.file (omega (arith, law.manifest))) in
    subst (λ (bytes : List ℕ). drum.manifest.end < length bytes) (sym stays) (long from.0 from.1).manifest

-- ---- and then the record
not_manifest : (drum : Drum) (f : ℕ) → IsDrum drum → (IsMergeFile drum f → ⊥) → f ≡ drum.manifest.file → ⊥
not_manifest drum f law out e = out (inl (e ∙ law.manifest))

-- what stops leave where a store tells, they leave where it doesn't: a store that tells nothing leaves no image
pub told_leaves : (step : Files → Files → Type 0) (P : Files → Type 0) (told : Option Files) (b c : Told) → b.files ≡ told → IsConsistent b → LeavesBy step b c
    → ((files : Files) → b.files ≡ Some files → Leaves b c P) → Leaves b c P
told_leaves step P None b c is law_b stops where_told = widens b c _ _ stops (λ image from. let t = (law_b.tells from.0 from.1).1 in absurd (cc))
told_leaves step P (Some files) b c is law_b stops where_told = where_told files is

module _ (drum : Drum) (batch : Batch) (next : Commit) (a d e : Told) (p : IsPrepared drum batch next a d) (law_a : IsConsistent a) (law_d : IsConsistent d)
    (appended : LeavesBy (ChangesFile drum.manifest.file (λ _ _. ⊤)) d e) where
  -- only the merge's files change
  others_stop : LeavesBy (ChangesOnly (IsMergeFile drum)) a e
  others_stop =
      joins_by a d e _ law_d (λ x y z first second f out. second f out ∙ first f out) p.merging.others_stop
      (widens_by d e _ _ appended (λ y z change f out. change.others f (not_manifest drum f p.law out)))

  -- the record may have been gained
  abbrev pub Gains : Type 0
  Gains = (payloads : List (List ℕ)) → IsOpen d.images drum.manifest payloads → LeavesBy (ChangesFile drum.manifest.file (HasOrGains payloads (commit_bytes next))) d e

  gained : Gains → (book : Book) → (r : IsReady d.images drum book batch) → LeavesBy
      (ChangesFile drum.manifest.file (HasOrGains (map commit_bytes r.holds.commits) (commit_bytes (next_commit drum batch)))) d e
  gained gains book r = subst (λ (commit : Commit). LeavesBy (ChangesFile drum.manifest.file (HasOrGains (map commit_bytes r.holds.commits) (commit_bytes commit))) d e) p.next_is
      (gains (map commit_bytes r.holds.commits) r.holds.manifest)

  -- a stop leaves files that stand for the book, with the cut or without
  stops : Gains → (book : Book) → Holds a.images drum book → LeavesBy (Becomes (IsMergeFile drum) drum.base drum.settings book (merged book)) a e
  stops gains book holds = told_leaves _ _ a.files a e refl law_a others_stop (λ files told.
      let r = p.ready_for files told book holds in
      joins a d e _ (p.merging.stops book holds) (widens d e _ _ (gained gains book r) (λ image from.
      let before = left_now a d _ law_d p.spares from.0 from.1 in (
        before.0,
        before.1,
        record {
          others = λ f out. from.2.others f (not_manifest drum f p.law out) ∙ before.2.others f out;
          stands = ⊎_elim (λ old. inl (holds_stands (Only image) drum book image p.law old refl)) (λ new.
              inr (holds_stands (Only image) (with_commit new.manifest (next_commit drum batch) drum) (merged book) image new.law new.holds refl))
              (ready_leaves d.images drum book batch from.0 image r from.1 from.2);
        },
      ))))

  -- and journals with their records, or with none
  merged_records : (book : Book) (n : ℕ) (payloads : List (List ℕ)) (image : Files) → n < drum.settings.buckets → Holds a.images drum book → IsMerged drum book batch image
      → IsReady d.images drum book batch → HasOrEmpties drum n payloads image
  merged_records book n payloads image within holds m r =
      let there : n < book.buckets = omega (arith, within, holds.book_is.buckets) in
      let new = with_commit m.manifest (next_commit drum batch) drum in
      let none = live_merged drum.settings book (next_commit drum batch) (1 - live_side drum.last) n holds.book_is there refl (p.fits.cut ∙ holds.numbers.offers) in
      inr (live_records (Only image) new (merged book) n [] image m.law within m.holds
      (open_empty (Only image) drum.settings.array _ (bucket_at new n) (live_offers (merged book) (next_commit drum batch) n) none (m.holds.buckets n there)) refl)

  records_stop : Gains → (book : Book) (n : ℕ) (payloads : List (List ℕ)) → Holds a.images drum book → n < drum.settings.buckets → IsOpen a.images (bucket_at drum n).journal payloads
      → Leaves a e (HasOrEmpties drum n payloads)
  records_stop gains book n payloads holds within is_open = told_leaves _ _ a.files a e refl law_a others_stop (λ files told.
      let r = p.ready_for files told book holds in
      joins a d e _ (p.merging.records_stop book n payloads holds within is_open) (widens d e _ _ (gained gains book r) (λ image from.
      let before = left_now a d _ law_d p.spares from.0 from.1 in
      let journal = (p.law.buckets n within).journal in
      let manifest = p.law.manifest in
      let same : image (bucket_at drum n).journal.file ≡ before.0 (bucket_at drum n).journal.file = from.2.others (bucket_at drum n).journal.file (λ e. omega (arith, e, journal, manifest))
      ∙ before.2.stays.journals n within in
      ⊎_elim
      (λ old. inl (live_records (Only image) drum book n payloads image p.law within old
      (tail_moved (bucket_at drum n).journal payloads a.images (Only image) (λ z is. (before.0, before.1, ap (λ (z : Files). z (bucket_at drum n).journal.file) is ∙ same)) is_open) refl))
      (λ new. merged_records book n payloads image within holds new r)
      (ready_leaves d.images drum book batch from.0 image r from.1 from.2))))

  pub merging_appended : Gains → Changes drum.manifest.file (λ _ _. ⊤) d.files e.files → IsMerging drum a e
  merging_appended gains changes = record {
    others = tells_both (IsMergeFile drum) a.files d.files e.files p.merging.others (tells_one (IsMergeFile drum) drum.manifest.file (λ _ _. ⊤) d.files e.files (inl p.law.manifest) changes);
    others_stop = others_stop;
    stops = stops gains;
    records_stop = records_stop gains;
  }

-- ---- the bay afterwards
-- it has the book with one cut more
pub merge_holds : (drum : Drum) (batch : Batch) (next : Commit) (manifest : Tail) (a d e : Told) (p : IsPrepared drum batch next a d) → IsConsistent e
    → LeavesBy (ChangesFile drum.manifest.file (λ _ _. ⊤)) d e → ((payloads : List (List ℕ)) → IsOpen d.images drum.manifest payloads → IsOpen e.images manifest (payloads ++ commit_bytes next ∷ []))
    → (files : Files) → a.files ≡ Some files → (book : Book) → Holds a.images drum book → Holds e.images (with_commit manifest (next_commit drum batch) drum) (merged book)
merge_holds drum batch next manifest a d e p law_e appended gains files told book holds =
    let r = p.ready_for files told book holds in
    let payloads = map commit_bytes r.holds.commits in
    holds_merged (λ _ _. ⊤) d.images e.images drum book batch manifest r (λ z left. left_now d e _ law_e appended z left)
    (subst (λ (commit : Commit). IsOpen e.images manifest (payloads ++ commit_bytes commit ∷ [])) p.next_is (gains payloads r.holds.manifest))

-- the files of the other side are empty
abbrev pub IsOtherEmpty : Drum → Files → Type 0
IsOtherEmpty drum = AreEmpty drum.base (1 - live_side drum.last) drum.settings.buckets

pub merge_cuts : (drum : Drum) (d e : Option Files) → IsDrum drum → ForSome d (IsOtherEmpty drum) → Changes drum.manifest.file (λ _ _. ⊤) d e → ForSome e (IsOtherEmpty drum)
merge_cuts drum d e law empty appended = λ files told.
    let from = told_from drum.manifest.file (λ _ _. ⊤) d e files appended told in
    let was = empty from.0 from.1 in
    let manifest = law.manifest in
    record {
      journals = λ n within. ap (λ (bytes : List ℕ). length bytes) (from.2.others (file_of drum.base 0 (Journal (1 - live_side drum.last) n)) (λ e. omega (arith, e, manifest)))
          ∙ was.journals n within;
      auxes = λ n within. from.2.others (file_of drum.base 0 (Aux (1 - live_side drum.last) n)) (λ e. omega (arith, e, manifest)) ∙ was.auxes n within;
    }

-- its live journals have no record
pub merge_empties : (drum : Drum) (next : Commit) (manifest : Tail) (d e : Told) (n : ℕ) → IsDrum drum → n < drum.settings.buckets → IsConsistent e → AreEmptied d.images drum
    → LeavesBy (ChangesFile drum.manifest.file (λ _ _. ⊤)) d e → IsOpen e.images (bucket_at (with_commit manifest next drum) n).journal []
merge_empties drum next manifest d e n law within law_e emptied_are appended =
    let one = emptied drum.base (1 - live_side drum.last) n (durable_at drum n) in
    let file = law.manifest in
    let was = open_empty d.images drum.settings.array 0 one [] refl (emptied_are drum.settings.array n within) in
    let is = tail_moved one.journal [] d.images e.images (λ z left. let y = left_now d e _ law_e appended z left in (y.0, y.1, y.2.others one.journal.file (λ same. omega (arith, same, file)))) was in
    subst (λ (bucket : Bucket). IsOpen e.images bucket.journal []) (sym (bucket_emptied drum (1 - live_side drum.last) n (omega (arith, law.count, within)))) is

-- ---- a bay that failed
-- what a bay keeps and holds doesn't turn on whether it is said to be sound
pub drum_failed : (drum : Drum) → IsDrum drum → IsDrum (record {
  base = drum.base;
  settings = drum.settings;
  is_sound = false;
  manifest = drum.manifest;
  last = drum.last;
  cuts = drum.cuts;
  buckets = drum.buckets;
})
drum_failed drum law = record {
  base = law.base;
  settings = law.settings;
  last = law.last;
  judged = law.judged;
  entries = law.entries;
  manifest = law.manifest;
  sound = λ yes. absurd (cc);
  cuts = law.cuts;
  count = law.count;
  buckets = λ b within. let is = law.buckets b within in record {
    journal = is.journal;
    aux = is.aux;
    sound = λ yes. absurd (cc);
    start = is.start;
    judged = is.judged;
    gate = is.gate;
    text = is.text;
  };
}

pub holds_said : (images : Files → Type 0) (drum : Drum) (is_sound : Bool) (book : Book) → Holds images drum book
    → Holds images (record { base = drum.base; settings = drum.settings; is_sound = is_sound; manifest = drum.manifest; last = drum.last; cuts = drum.cuts; buckets = drum.buckets }) book
holds_said images drum is_sound book holds = record {
  book_is = holds.book_is;
  offers = holds.offers;
  starts_are = holds.starts_are;
  buckets = holds.buckets;
  commits = holds.commits;
  commits_are = holds.commits_are;
  last = holds.last;
  numbers = record { offers = holds.numbers.offers; commit = holds.numbers.commit; cuts = holds.numbers.cuts };
  manifest = holds.manifest;
  keys = holds.keys;
  cache = holds.cache;
  judged_are = holds.judged_are;
  texts = holds.texts;
}

-- an error is the same one whatever the call would have given
pub error_of : {T U E : Type 0} (found named : E) → IsErrOf {T = T} {E = E} (Err found) named → IsErrOf {T = U} {E = E} (Err found) named
error_of {T = T} {U = U} {E = E} found named is =
    let same : found ≡ named = cc in
    let of : E → Result U E = λ e. Err e in
    ap of same

-- ---- how long the files are afterwards
pub long_said : (drum : Drum) (is_sound : Bool) (told : Option Files) → ForSome told (λ files. IsLong drum files)
    → ForSome told (λ files. IsLong (record { base = drum.base; settings = drum.settings; is_sound = is_sound; manifest = drum.manifest; last = drum.last; cuts = drum.cuts; buckets = drum.buckets })
    files)
long_said drum is_sound told long = λ files is.
    let l = long files is in
    record { manifest = l.manifest; cache = l.cache; judged = l.judged; texts = l.texts; journals = l.journals; auxes = l.auxes }

pub merge_long : (drum : Drum) (batch : Batch) (manifest : Tail) (b d e : Option Files) → IsDrum drum → ForSome b (IsLongBatch drum batch) → TellsOnly (IsOtherSide drum) b d
    → ForSome d (IsOtherEmpty drum) → Changes drum.manifest.file (λ _ _. ⊤) d e → ForSome e (λ files. manifest.end < length (files manifest.file))
    → ForSome e (λ files. IsLong (with_commit manifest (next_commit drum batch) drum) files)
merge_long drum batch manifest b d e law batch_long emptying empty appended longer = λ files told.
    let third = told_from drum.manifest.file (λ _ _. ⊤) d e files appended told in
    let second = told_before (IsOtherSide drum) b d third.0 emptying third.1 in
    let long = batch_long second.0 second.1 in
    let m = law.manifest in
    let cache_same : files (next_cache drum batch).file ≡ second.0 (next_cache drum batch).file =
    stays files third.0 second.0 (next_cache drum batch).file (omega arith) (omega (arith, m)) third.2 second.2 in
    let judged_same : files (next_judged drum batch).file ≡ second.0 (next_judged drum batch).file =
    stays files third.0 second.0 (next_judged drum batch).file (omega arith) (omega (arith, m)) third.2 second.2 in
    let texts_same : files (next_texts drum batch).file ≡ second.0 (next_texts drum batch).file =
    stays files third.0 second.0 (next_texts drum batch).file (omega arith) (omega (arith, m)) third.2 second.2 in
    record {
      manifest = longer files told;
      cache = subst (λ (bytes : List ℕ). (next_cache drum batch).length ≤ length bytes) (sym cache_same) long.cache;
      judged = subst (λ (bytes : List ℕ). (next_judged drum batch).length ≤ length bytes) (sym judged_same) long.judged;
      texts = subst (λ (bytes : List ℕ). (next_texts drum batch).length ≤ length bytes) (sym texts_same) long.texts;
      journals = λ n within.
          let one = emptied drum.base (1 - live_side drum.last) n (durable_at drum n) in
          let same = third.2.others one.journal.file (λ same. omega (arith, same, m)) in
          subst (λ (bucket : Bucket). bucket.journal.end < length (files bucket.journal.file)) (sym (bucket_emptied drum (1 - live_side drum.last) n (omega (arith, law.count, within))))
          (let byte = (empty third.0 third.1).journals n within in omega (arith, ap (λ (bytes : List ℕ). length bytes) same, byte));
      auxes = λ n within.
          let none : 0 ≤ length (files (file_of drum.base 0 (Aux (1 - live_side drum.last) n))) = omega arith in
          subst (λ (bucket : Bucket). bucket.aux.length ≤ length (files bucket.aux.file)) (sym (bucket_emptied drum (1 - live_side drum.last) n (omega (arith, law.count, within)))) none;
    }
  where
    stays : (z y x : Files) (f : ℕ) → f < drum.base + 10 → (f ≡ drum.manifest.file → ⊥) → ChangesFile drum.manifest.file (λ _ _. ⊤) y z → ChangesOnly (IsOtherSide drum) x y → z f ≡ x f
    stays z y x f low apart last first = last.others f apart ∙ first f (low_apart drum.base (1 - live_side drum.last) drum.settings.buckets f low)
