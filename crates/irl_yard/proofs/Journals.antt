-- The live journals of the buckets of an open store keep their records where a call changes other files alone.
use Rattle.std.proofs.Common.{◌≡◌, inl, inr, ℕ, zero, suc, ◌+◌, ◌-◌, ◌≤◌, ◌<◌, List, map, Result, Ok, Err, OnErr, OnOk, IsErrOf, refl, sym, ap, subst, arith}
use Rattle.irl_base.specs.declared.fault.Fault.{Fault}
use Rattle.irl_base.specs.declared.fault.Fault.TheVariants.{Failed, Memory, Full, Damaged}
use Rattle.irl_model.specs.Book.{Book}
use Rattle.irl_disk.specs.Disk.{Files, ChangesOnly}
use Rattle.irl_disk.specs.Images.{Told, IsConsistent, LeavesBy}
use Rattle.irl_journal.specs.Format.{StandsFor}
use Rattle.irl_journal.proofs.Lists.{one_list}
use Rattle.irl_layout.specs.BayFiles.{file_of, IsBucketFile}
use Rattle.irl_layout.specs.Commits.{Commit, HasLiveRecords, commit_bytes, first_commit, last_commit, live_side}
use Rattle.irl_layout.specs.declared.files.BayFile.TheVariants.{Manifest, Journal}
use Rattle.irl_bay.specs.Drum.{Drum, IsDrum, CountsFlush, CountsMerge, KeepsCounts}
use Rattle.irl_bay.specs.Holding.{Holds}
use Rattle.irl_bay.specs.Merging.{IsMergeFile}
use Rattle.irl_bay.proofs.DrumFiles.{live_low}
use Rattle.irl_bay.proofs.OneBook.{same_commits}
use Rattle.irl_schedule.proofs.Journals.{journal_stays}
use Rattle.irl_yard.specs.Holding.{HasJournal, HasLiveJournal}
use Rattle.irl_yard.proofs.RestFiles.{few}

-- ---- the files
-- those of two sides differ
pub sides_apart : (base b c f : ℕ) → b < 64 → c < 64 → IsBucketFile base 0 b f → IsBucketFile base 1 c f → ⊥
sides_apart base b c f small few (inl x) (inl y) = omega (arith, x, y, small)
sides_apart base b c f small few (inl x) (inr y) = omega (arith, x, y, small)
sides_apart base b c f small few (inr x) (inl y) = omega (arith, x, y, small)
sides_apart base b c f small few (inr x) (inr y) = omega (arith, x, y, small)

other_side : (base side b c f : ℕ) → side ≤ 1 → b < 64 → c < 64 → IsBucketFile base side b f → IsBucketFile base (1 - side) c f → ⊥
other_side base zero b c f low small few one two = sides_apart base b c f small few one two
other_side base (suc zero) b c f low small few one two = sides_apart base c b f few small two one
other_side base (suc (suc n)) b c f low small few one two = omega (arith, low)

high : (base side b f : ℕ) → IsBucketFile base side b f → base + 10 ≤ f
high base side b f (inl e) = omega (arith, e)
high base side b f (inr e) = omega (arith, e)

-- and a merge changes none of the live ones
pub merge_apart : (drum : Drum) (b f : ℕ) → IsDrum drum → b < drum.settings.buckets → IsBucketFile drum.base (live_side drum.last) b f → IsMergeFile drum f → ⊥
merge_apart drum b f law within of (inl e) = omega (arith, e, high drum.base (live_side drum.last) b f of)
merge_apart drum b f law within of (inr (inl (inl e))) = omega (arith, e, high drum.base (live_side drum.last) b f of)
merge_apart drum b f law within of (inr (inl (inr (inl e)))) = omega (arith, e, high drum.base (live_side drum.last) b f of)
merge_apart drum b f law within of (inr (inl (inr (inr e)))) = omega (arith, e, high drum.base (live_side drum.last) b f of)
merge_apart drum b f law within of (inr (inr is)) =
    let small = few drum.settings law.settings in
    other_side drum.base (live_side drum.last) b is.0 f (live_low drum.last.live law.last.live) (omega (arith, within, small)) (omega (arith, is.1, small)) of is.2

-- ---- the records of a joint image
-- one that has records has a journal that stands for them, and for no others
pub records_stand : (base buckets b : ℕ) (payloads : List (List ℕ)) (image : Files) → HasLiveRecords base buckets b payloads image → HasLiveJournal base buckets b payloads image
records_stand base buckets b payloads image has = record { commits = has.commits; form = has.form; manifest = has.manifest; records = inr has.records }

pub one_journal : (base buckets b : ℕ) (one other : List (List ℕ)) (image : Files) → HasLiveJournal base buckets b one image → HasLiveJournal base buckets b other image → one ≡ other
one_journal base buckets b one other image has also =
    let bytes = one_list (image (file_of base 0 Manifest)) (map commit_bytes has.commits) (map commit_bytes also.commits) has.manifest also.manifest in
    let commits : has.commits ≡ also.commits = same_commits buckets has.commits also.commits has.form also.form bytes in
    let records : StandsFor (image (file_of base 0 (Journal (live_side (last_commit (first_commit buckets) also.commits)) b))) one =
    subst (λ (list : List Commit). StandsFor (image (file_of base 0 (Journal (live_side (last_commit (first_commit buckets) list)) b))) one) commits has.records in
    one_list (image (file_of base 0 (Journal (live_side (last_commit (first_commit buckets) also.commits)) b))) one other records also.records

-- ---- the records of a journal that a call doesn't change
-- where nothing changed
pub journal_same : (old new : Told) (was now : Drum) (b : ℕ) (payloads : List (List ℕ)) → new ≡ old → now ≡ was → HasJournal old.images was b payloads → HasJournal new.images now b payloads
journal_same old new was now b payloads same_store same has =
    subst (λ (s : Told). HasJournal s.images now b payloads) (sym same_store) (subst (λ (urls : Drum). HasJournal old.images urls b payloads) (sym same) has)

-- ---- a merge that is refused
pub merge_keeps : (old new : Told) (was now : Drum) (book : Book) (b : ℕ) (payloads : List (List ℕ)) → IsDrum was → IsDrum now → IsConsistent new → b < was.settings.buckets
    → LeavesBy (ChangesOnly (IsMergeFile was)) old new → now ≡ was → Holds new.images now book → HasJournal old.images was b payloads → HasJournal new.images now b payloads
merge_keeps old new was now book b payloads law law_now consistent within stops same held has =
    journal_stays (IsMergeFile was) old new was now book b payloads law law_now consistent within (merge_apart was b _ law within (inl refl)) stops (ap (λ (d : Drum). d.base) same)
    (ap (λ (d : Drum). d.settings) same) (ap (λ (d : Drum). d.last) same) held has

-- ---- results
-- a flush, and a merge, keep which bay it is, whatever is answered
pub flush_keeps : {T : Type 0} (result : Result T Fault) (b n : ℕ) (old new : Drum) → OnOk result (CountsFlush b n old new) → OnErr result (KeepsCounts old new)
    → (new.base ≡ old.base) × (new.settings ≡ old.settings)
flush_keeps (Ok value) b n old new ok err = (ok.base, ok.settings)
flush_keeps (Err error) b n old new ok err = (err.base, err.settings)

pub merge_stays : {T : Type 0} (result : Result T Fault) (old new : Drum) → OnOk result (CountsMerge old new) → OnErr result (KeepsCounts old new)
    → (new.base ≡ old.base) × (new.settings ≡ old.settings)
merge_stays (Ok value) old new ok err = (ok.base, ok.settings)
merge_stays (Err error) old new ok err = (err.base, err.settings)

-- of a refusal
pub unless_ok : {T : Type 0} (result : Result T Fault) (P : Type 0) → (IsErrOf result Failed → P) → (IsErrOf result Memory → P) → ((n : ℕ) → IsErrOf result (Full n) → P)
    → ((f at : ℕ) → IsErrOf result (Damaged f at) → P) → OnErr result P
unless_ok (Ok value) P failed memory full damaged = tt
unless_ok (Err Failed) P failed memory full damaged = failed refl
unless_ok (Err Memory) P failed memory full damaged = memory refl
unless_ok (Err (Full n)) P failed memory full damaged = full n refl
unless_ok (Err (Damaged f at)) P failed memory full damaged = damaged f at refl
