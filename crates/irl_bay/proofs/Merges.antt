-- An open bay whose batch is written: with the record in its manifest, and without.
use Rattle.std.proofs.Common.{◌≡◌, ◌⊎◌, ◌∙◌, inl, inr, ⊎_elim, ℕ, ◌+◌, ◌-◌, ◌<◌, ◌≤◌, true, List, [], ◌∷◌, ◌++◌, length, map, get_or, refl, sym, ap, subst, arith}
use Rattle.std.proofs.lemmas.List.{map-append}
use Rattle.std.specs.FinMap.{entries}
use Rattle.irl_model.specs.Book.{Book, merged, judged, judged_offers, seen, pending}
use Rattle.irl_model.proofs.Adding.{keys_grow}
use Rattle.irl_model.proofs.FrontLaws.{merged_book}
use Rattle.irl_model.proofs.Merges.{merged_cut, merged_seen}
use Rattle.irl_offer.specs.Tuple.{Tuple}
use Rattle.irl_disk.specs.Disk.{Files, ChangesFile}
use Rattle.irl_disk.specs.Images.{Follows}
use Rattle.irl_journal.specs.Appending.{Tail, Ends, IsOpen, HasOrGains}
use Rattle.irl_journal.specs.Blob.{Front, IsCommitted}
use Rattle.irl_journal.specs.Format.{HasRecords, record_text, records_text}
use Rattle.irl_journal.proofs.Gates.{length-push}
use Rattle.irl_bay.specs.Merging.{Batch}
use Rattle.irl_bay.specs.declared.bucket.Bucket.{Bucket}
use Rattle.irl_layout.specs.Runs.{texts_of}
use Rattle.irl_cache.specs.SortedRun.{pairs_bytes}
use Rattle.irl_layout.specs.JudgedEntries.{judged_entries}
use Rattle.irl_layout.specs.Commits.{Commit, IsCommit, IsCommitOf, commit_bytes, first_commit, last_commit, live_side, live_offers, starts}
use Rattle.irl_bay.specs.Drum.{Drum, IsDrum, SomePending, bucket_at, durable_at}
use Rattle.irl_bay.specs.Holding.{Holds, HoldsBucket}
use Rattle.irl_bay.specs.Merging.{FitsBatch, IsBatchOf, HasRoom, IsWritten, next_commit, emptied, with_commit, next_cache, next_judged, next_texts}
use Rattle.irl_bay.proofs.MergeFrames.{AreEmptied, Empties, blob_moved, same_front, bucket_moved, holds_emptied, holds_moved, low_stays, manifest_stays}
use Rattle.irl_bay.proofs.Merged.{bucket_emptied, durable_is, drum_committed, last_is, commits_more, next_is, numbers_merged, pending_differs}
use Rattle.irl_bay.proofs.Live.{live_merged}

-- the batch of a book is committed, and its record isn't in the manifest yet
pub record IsReady (images : Files → Type 0) (drum : Drum) (book : Book) (batch : Batch) : Type 0 where
  pub law : IsDrum drum
  pub sound : drum.is_sound ≡ true
  pub some : SomePending drum
  pub fits : FitsBatch drum batch
  pub room : HasRoom drum.settings.buckets (next_commit drum batch)
  pub holds : Holds images drum book
  pub is_batch : IsBatchOf book batch
  pub cache : IsCommitted images (next_cache drum batch) (pairs_bytes (entries (seen (merged book))))
  pub judged_are : IsCommitted images (next_judged drum batch) (judged_entries 0 (judged (merged book)))
  pub texts : IsCommitted images (next_texts drum batch) (texts_of (judged_offers (merged book)))
  -- the buckets' files on the side that isn't live are empty
  pub emptied_are : AreEmptied images drum

-- it is once the three files are synced and the side is emptied
pub ready : (old mid new : Files → Type 0) (drum : Drum) (book : Book) (batch : Batch) → IsDrum drum → drum.is_sound ≡ true → SomePending drum → FitsBatch drum batch
    → HasRoom drum.settings.buckets (next_commit drum batch) → Holds old drum book → Holds mid drum book → IsBatchOf book batch → IsWritten drum batch old mid
    → ((z : Files) → new z → Follows (Empties drum) mid z) → AreEmptied new drum → IsReady new drum book batch
ready old mid new drum book batch law sound some fits room before holds is written from emptied_are = record {
  law = law;
  sound = sound;
  some = some;
  fits = fits;
  room = room;
  holds = holds_emptied mid new drum book law from holds;
  is_batch = is;
  cache = low_stays mid new drum (next_cache drum batch) _ (omega arith) from (subst (λ (bytes : List ℕ). IsCommitted mid (next_cache drum batch) bytes) is.pairs written.cache);
  judged_are = low_stays mid new drum (next_judged drum batch) _ (omega arith) from
      (subst (λ (bytes : List ℕ). IsCommitted mid (next_judged drum batch) bytes) is.judged_are (written.judged (judged_entries 0 (judged book)) before.judged_are));
  texts = low_stays mid new drum (next_texts drum batch) _ (omega arith) from (subst (λ (bytes : List ℕ). IsCommitted mid (next_texts drum batch) bytes) is.texts
      (written.texts (texts_of (judged_offers book)) before.texts));
  emptied_are = emptied_are;
}

-- ---- with the record
-- a blob whose file isn't the manifest stays committed
beside : (manifest : ℕ) (step : List ℕ → List ℕ → Type 0) (blob : Front) (held : List ℕ) (old new : Files → Type 0) → (blob.file ≡ manifest → ⊥)
    → ((z : Files) → new z → Follows (ChangesFile manifest step) old z) → IsCommitted old blob held → IsCommitted new blob held
beside manifest step blob held old new apart from committed = blob_moved blob held old new (λ z left. let y = from z left in (y.0, y.1, same_front _ _ _ (y.2.others blob.file apart))) committed

module _ (step : List ℕ → List ℕ → Type 0) (old new : Files → Type 0) (drum : Drum) (book : Book) (batch : Batch) (manifest : Tail) where
  -- the buckets' live files are empty then
  buckets_merged : (r : IsReady old drum book batch) → ((z : Files) → new z → Follows (ChangesFile drum.manifest.file step) old z) → IsCommitOf (merged book) (next_commit drum batch) → (b : ℕ)
      → b < book.buckets
      → HoldsBucket new drum.settings.array (get_or batch.cut b 0 - (bucket_at (with_commit manifest (next_commit drum batch) drum) b).start)
      (bucket_at (with_commit manifest (next_commit drum batch) drum) b) (live_offers (merged book) (next_commit drum batch) b)
  buckets_merged r from is b within =
      let inside : b < drum.settings.buckets = omega (arith, within, r.holds.book_is.buckets) in
      let file = r.law.manifest in
      let one = emptied drum.base (1 - live_side drum.last) b (durable_at drum b) in
      let moved = bucket_moved drum.settings.array 0 one [] old new (λ z left. let y = from z left in
      (y.0, y.1, y.2.others one.journal.file (λ e. omega (arith, e, file)), y.2.others one.aux.file (λ e. omega (arith, e, file)))) (r.emptied_are drum.settings.array b inside) in
      let cut : get_or batch.cut b 0 ≡ durable_at drum b = ap (λ (l : List ℕ). get_or l b 0) r.fits.cut ∙ durable_is drum b in
      let none : 0 ≡ get_or batch.cut b 0 - durable_at drum b = omega (arith, cut) in
      let live = live_merged drum.settings book (next_commit drum batch) (1 - live_side drum.last) b r.holds.book_is within refl (is.cut ∙ merged_cut book) in
      subst (λ (bucket : Bucket). HoldsBucket new drum.settings.array (get_or batch.cut b 0 - bucket.start) bucket (live_offers (merged book) (next_commit drum batch) b))
      (sym (bucket_emptied drum (1 - live_side drum.last) b (omega (arith, r.law.count, inside))))
      (subst (λ (l : List Tuple). HoldsBucket new drum.settings.array (get_or batch.cut b 0 - durable_at drum b) one l) (sym live)
      (subst (λ (n : ℕ). HoldsBucket new drum.settings.array n one []) none moved))

  starts_merged : (r : IsReady old drum book batch) (b : ℕ) → b < book.buckets → (bucket_at (with_commit manifest (next_commit drum batch) drum) b).start
      ≡ get_or (starts (merged book) (next_commit drum batch)) b 0
  starts_merged r b within =
      let inside : b < length drum.buckets = omega (arith, within, r.holds.book_is.buckets, r.law.count) in
      ap (λ (bucket : Bucket). bucket.start) (bucket_emptied drum (1 - live_side drum.last) b inside) ∙ sym (durable_is drum b) ∙ sym (ap (λ (l : List ℕ). get_or l b 0) r.fits.cut)

  -- the bay has the book with one cut more
  pub holds_merged : (r : IsReady old drum book batch) → ((z : Files) → new z → Follows (ChangesFile drum.manifest.file step) old z)
      → IsOpen new manifest (map commit_bytes r.holds.commits ++ commit_bytes (next_commit drum batch) ∷ [])
      → Holds new (with_commit manifest (next_commit drum batch) drum) (merged book)
  holds_merged r from is_open =
      let next = next_commit drum batch in
      let commits = r.holds.commits in
      let is = next_is drum book batch r.holds.numbers r.fits r.is_batch r.room in
      let file = r.law.manifest in
      record {
        book_is = record {
          is_book = merged_book book r.holds.book_is.is_book (pending_differs drum book r.holds.numbers r.some);
          buckets = r.holds.book_is.buckets;
          rule = r.holds.book_is.rule;
          dropped = r.holds.book_is.dropped;
        };
        offers = r.holds.offers;
        starts_are = λ b within. starts_merged r b within;
        buckets = λ b within. buckets_merged r from is b within;
        commits = commits ++ next ∷ [];
        commits_are = commits_more book commits next r.holds.commits_are is (subst (λ (n : ℕ). IsCommit n next) (sym r.holds.book_is.buckets) r.room.form) (rises r) refl;
        last = sym (last_is (first_commit book.buckets) commits next);
        numbers = numbers_merged drum book batch manifest r.holds.numbers r.fits r.is_batch r.room;
        manifest = subst (λ (payloads : List (List ℕ)). IsOpen new manifest payloads) (sym (map-append commit_bytes commits (next ∷ []))) is_open;
        keys = r.is_batch.entries_are;
        cache = beside drum.manifest.file step (next_cache drum batch) _ old new (λ e. omega (arith, e, file)) from r.cache;
        judged_are = beside drum.manifest.file step (next_judged drum batch) _ old new (λ e. omega (arith, e, file)) from r.judged_are;
        texts = beside drum.manifest.file step (next_texts drum batch) _ old new (λ e. omega (arith, e, file)) from r.texts;
      }
    where
      rises : (r : IsReady old drum book batch) → (last_commit (first_commit book.buckets) r.holds.commits).entries ≤ batch.entries
      rises r =
          let more : length (entries (seen book)) ≤ length (entries (seen (merged book))) = rw (merged_seen book) (keys_grow book.rule (seen book) (pending book)) in
          omega (arith, ap (λ (commit : Commit). commit.entries) r.holds.last, r.holds.keys, r.is_batch.entries_are, more)

-- ---- a stop while the record is appended
-- images that are this one
abbrev pub Only : Files → Files → Type 0
Only image z = z ≡ image

-- such an image holds the book with one cut more
pub record IsMerged (drum : Drum) (book : Book) (batch : Batch) (image : Files) : Type 0 where
  pub manifest : Tail
  pub law : IsDrum (with_commit manifest (next_commit drum batch) drum)
  pub holds : Holds (Only image) (with_commit manifest (next_commit drum batch) drum) (merged book)

-- it leaves an image that holds the book, with the cut or without
pub ready_leaves : (images : Files → Type 0) (drum : Drum) (book : Book) (batch : Batch) (y z : Files) → (r : IsReady images drum book batch) → images y
    → ChangesFile drum.manifest.file (HasOrGains (map commit_bytes r.holds.commits) (commit_bytes (next_commit drum batch))) y z
    → Holds (Only z) drum book ⊎ IsMerged drum book batch z
ready_leaves images drum book batch y z r left change = ⊎_elim without with change.changed
  where
    payloads : List (List ℕ)
    payloads = map commit_bytes r.holds.commits

    record_bytes : List ℕ
    record_bytes = commit_bytes (next_commit drum batch)

    from : (x : Files) → Only z x → Follows (ChangesFile drum.manifest.file (HasOrGains payloads record_bytes)) images x
    from x is = (y, left, subst (λ (x : Files). ChangesFile drum.manifest.file (HasOrGains payloads record_bytes) y x) (sym is) change)

    open_at : (tail : Tail) (records : List (List ℕ)) → Ends tail.end (z tail.file) records → IsOpen (Only z) tail records
    open_at tail records ends = λ x is. subst (λ (x : Files). Ends tail.end (x tail.file) records) (sym is) ends

    without : HasRecords (z drum.manifest.file) payloads → Holds (Only z) drum book ⊎ IsMerged drum book batch z
    without has = inl (holds_moved images (Only z) drum book (λ x is. let at = from x is in (at.0, at.1, manifest_stays drum _ at.0 x r.law at.2)) r.holds
        (open_at drum.manifest payloads (record { records = has; place = (r.holds.manifest y left).place })))

    with : HasRecords (z drum.manifest.file) (payloads ++ record_bytes ∷ []) → Holds (Only z) drum book ⊎ IsMerged drum book batch z
    with has =
        let end = drum.manifest.end + length (record_text record_bytes) in
        let tail : Tail = record { file = drum.manifest.file; end = end; is_sound = true } in
        let place : end ≡ length (records_text (payloads ++ record_bytes ∷ [])) = omega (arith, (r.holds.manifest y left).place, length-push payloads record_bytes) in
        let is_open = open_at tail (payloads ++ record_bytes ∷ []) (record { records = has; place = place }) in
        inr (record {
          manifest = tail;
          law = drum_committed drum (next_commit drum batch) tail r.law r.room r.fits.cut refl r.law.manifest refl (omega (arith, r.law.cuts));
          holds = holds_merged _ images (Only z) drum book batch tail r from is_open;
        })
