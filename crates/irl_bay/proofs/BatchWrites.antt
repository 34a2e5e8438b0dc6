-- A batch is written: three appends, each to a file of its own.
use Rattle.std.proofs.Common.{◌≡◌, ◌≢◌, ◌∙◌, inl, inr, ℕ, ◌-◌, ◌≤◌, List, ◌++◌, length, take, Option, None, Some, refl, sym, ap, subst, arith, length-take-le}
use Rattle.std.specs.Option.{ForSome}
use Rattle.irl_disk.specs.Disk.{Files, Changes, ChangesFile, ChangesOnly, TellsOnly, TellsBy}
use Rattle.irl_disk.proofs.Frames.{told_from}
use Rattle.irl_disk.proofs.Frames.{takes_both, takes_none, takes_only}
use Rattle.irl_disk.proofs.Effects.{cause_for, cause_then, told_none, told_then}
use Rattle.irl_disk.specs.Effects.{OnlyReads}
use Rattle.irl_disk.specs.Images.{Told, IsConsistent, LeavesBy}
use Rattle.irl_disk.proofs.Stretches.{widens_by, joins_by, left_now, same_by, stays}
use Rattle.irl_base.specs.Faults.{HasCause}
use Rattle.irl_journal.specs.Blob.{Front, KeepsFront, IsCommitted}
use Rattle.irl_journal.proofs.Fronts.{begins_long, take_begins}
use Rattle.irl_layout.specs.BayFiles.{file_of, IsFileOf}
use Rattle.irl_bay.specs.Merging.{Batch}
use Rattle.irl_layout.specs.declared.files.BayFile.TheVariants.{Cache}
use Rattle.irl_bay.specs.Drum.{Drum, IsDrum, judged_front, texts_front}
use Rattle.irl_bay.specs.Sides.{IsSidesOf, ReadsAndPuts}
use Rattle.irl_bay.specs.declared.sides.Sides.{Sides}
use Rattle.irl_bay.specs.Merging.{IsBatchFile, KeepsCommitted, IsWritten, IsLongBatch, Writes, WritesOn, next_cache, next_judged, next_texts}
use Rattle.irl_bay.proofs.DrumFiles.{side_is_file}
use Rattle.irl_bay.proofs.MergeFrames.{blob_moved, same_front, keeps_all, keeps_then}

-- ---- what is told changes by a step
pub tells_by : (f : ℕ) (step : List ℕ → List ℕ → Type 0) (wide : Files → Files → Type 0) (old new : Option Files) → ((y z : Files) → ChangesFile f step y z → wide y z) → Changes f step old new
    → TellsBy wide old new
tells_by f step wide None new allows changes = changes
tells_by f step wide (Some old) new allows changes = (changes.0, changes.1, allows old changes.0 changes.2)

pub tells_then : (step : Files → Files → Type 0) (old mid new : Option Files) → ((x y z : Files) → step x y → step y z → step x z) → TellsBy step old mid → TellsBy step mid new → TellsBy step old new
tells_then step None mid new both first second = rw first at second
tells_then step (Some old) mid new both first second =
    let next = rw first.1 at second in
    (next.0, next.1, both old first.0 next.0 first.2 next.2)

pub tells_from : (step : Files → Files → Type 0) (old new : Option Files) (files : Files) → TellsBy step old new → new ≡ Some files → (before : Files) × (old ≡ Some before) × step before files
tells_from step None new files changes told = cc
tells_from step (Some old) new files changes told =
    let same : changes.0 ≡ files = cc in
    (old, refl, subst (λ (after : Files). step old after) same changes.2)

pub tells_wide : (step wide : Files → Files → Type 0) (old new : Option Files) → ((y z : Files) → step y z → wide y z) → TellsBy step old new → TellsBy wide old new
tells_wide step wide None new allows changes = changes
tells_wide step wide (Some old) new allows changes = (changes.0, changes.1, allows old changes.0 changes.2)

pub tells_only : (among : ℕ → Type 0) (old new : Option Files) → TellsBy (ChangesOnly among) old new → TellsOnly among old new
tells_only among None new changes = changes
tells_only among (Some old) new changes = changes

-- a file is as long as what stays of it
pub still_long : (n : ℕ) (old new : List ℕ) → n ≤ length old → KeepsFront n old new → n ≤ length new
still_long n old new long keeps =
    let size : length (take n old) ≡ n = length-take-le n old long in
    omega (arith, size, begins_long new (take n old) (keeps (take n old) size (take_begins old (take n old) (ap (λ (m : ℕ). take m old) size))))

-- ---- one append
abbrev pub front : ℕ → ℕ → Front
front f n = record { file = f; length = n }

pub front_is : (blob : Front) (f n : ℕ) → blob.file ≡ f → blob.length ≡ n → blob ≡ front f n
front_is blob f n file length_is = ap (λ (g : ℕ). front g blob.length) file ∙ ap (front f) length_is

step_of : (drum : Drum) (blob : Front) (f n : ℕ) (old new : Told) → blob ≡ front f n → ((y z : Files) → ChangesFile f (KeepsFront n) y z → KeepsCommitted drum y z)
    → Changes blob.file (KeepsFront blob.length) old.files new.files → LeavesBy (ChangesFile blob.file (KeepsFront blob.length)) old new
    → Writes drum old new
step_of drum blob f n old new is allows changes stops = record {
  told = tells_by f (KeepsFront n) (KeepsCommitted drum) old.files new.files allows (subst (λ (b : Front). Changes b.file (KeepsFront b.length) old.files new.files) is changes);
  stops = widens_by old new _ _ (subst (λ (b : Front). LeavesBy (ChangesFile b.file (KeepsFront b.length)) old new) is stops) allows;
}

pub cache_step : (drum : Drum) (blob : Front) (old new : Told) → blob ≡ front (file_of drum.base 0 (Cache (1 - drum.last.side))) 0 → Changes blob.file (KeepsFront blob.length) old.files new.files
    → LeavesBy (ChangesFile blob.file (KeepsFront blob.length)) old new → Writes drum old new
cache_step drum blob old new is changes stops = step_of drum blob _ 0 old new is (λ y z change. record {
  others = λ f out. change.others f (λ e. out (inl e));
  judged = same_front _ _ _ (change.others _ (omega arith));
  texts = same_front _ _ _ (change.others _ (omega arith));
}) changes stops

pub judged_step : (drum : Drum) (blob : Front) (old new : Told) → blob ≡ judged_front drum → Changes blob.file (KeepsFront blob.length) old.files new.files
    → LeavesBy (ChangesFile blob.file (KeepsFront blob.length)) old new → Writes drum old new
judged_step drum blob old new is changes stops = step_of drum blob (judged_front drum).file (judged_front drum).length old new is (λ y z change. record {
  others = λ f out. change.others f (λ e. out (inr (inl e)));
  judged = change.changed;
  texts = same_front _ _ _ (change.others _ (omega arith));
}) changes stops

pub texts_step : (drum : Drum) (blob : Front) (old new : Told) → blob ≡ texts_front drum → Changes blob.file (KeepsFront blob.length) old.files new.files
    → LeavesBy (ChangesFile blob.file (KeepsFront blob.length)) old new → Writes drum old new
texts_step drum blob old new is changes stops = step_of drum blob (texts_front drum).file (texts_front drum).length old new is (λ y z change. record {
  others = λ f out. change.others f (λ e. out (inr (inr e)));
  judged = same_front _ _ _ (change.others _ (omega arith));
  texts = change.changed;
}) changes stops

pub step_then : (drum : Drum) (old mid new : Told) → IsConsistent mid → Writes drum old mid → Writes drum mid new → Writes drum old new
step_then drum old mid new law first second = record {
  told = tells_then (KeepsCommitted drum) old.files mid.files new.files (keeps_then drum) first.told second.told;
  stops = joins_by old mid new (KeepsCommitted drum) law (keeps_then drum) first.stops second.stops;
}

pub step_others : (drum : Drum) (old new : Told) → Writes drum old new → TellsOnly (IsBatchFile drum) old.files new.files
step_others drum old new step = tells_only _ _ _ (tells_wide (KeepsCommitted drum) (ChangesOnly (IsBatchFile drum)) old.files new.files (λ y z keeps. keeps.others) step.told)

-- one file is written, behind what of it stays
pub cache_writes : (drum : Drum) (f : ℕ) (old new : Told) → f ≡ file_of drum.base 0 (Cache (1 - drum.last.side)) → Changes f (KeepsFront 0) old.files new.files
    → LeavesBy (ChangesFile f (KeepsFront 0)) old new → Writes drum old new
cache_writes drum f old new file changes stops = cache_step drum (front f 0) old new (ap (λ (g : ℕ). front g 0) file) changes stops

pub judged_writes : (drum : Drum) (f n : ℕ) (old new : Told) → f ≡ (judged_front drum).file → n ≡ (judged_front drum).length → Changes f (KeepsFront n) old.files new.files
    → LeavesBy (ChangesFile f (KeepsFront n)) old new → Writes drum old new
judged_writes drum f n old new file size changes stops = judged_step drum (front f n) old new (front_is (front f n) _ _ file size) changes stops

pub texts_writes : (drum : Drum) (f n : ℕ) (old new : Told) → f ≡ (texts_front drum).file → n ≡ (texts_front drum).length → Changes f (KeepsFront n) old.files new.files
    → LeavesBy (ChangesFile f (KeepsFront n)) old new → Writes drum old new
texts_writes drum f n old new file size changes stops = texts_step drum (front f n) old new (front_is (front f n) _ _ file size) changes stops

-- ---- what a call does that writes so
module _ (drum : Drum) where
  -- the writes alone
  pub writes_of : (failed : Type 0) (old new : Told) → WritesOn drum failed old new → Writes drum old new
  writes_of failed old new on = record { told = on.told; stops = on.stops }

  pub on_none : (now : Told) → IsConsistent now → WritesOn drum ⊥ now now
  on_none now law = record {
    told = told_none (KeepsCommitted drum) now.files now.files (keeps_all drum) refl;
    stops = same_by now now (KeepsCommitted drum) (keeps_all drum) (stays now now.images law (λ image was. was));
    taken = takes_none _ now.taken now.taken refl;
    cause = record { later = omega arith; rose = λ no. absurd no };
  }

  pub on_for : (failed answered : Type 0) (old new : Told) → (answered → failed) → WritesOn drum failed old new → WritesOn drum answered old new
  on_for failed answered old new gave on = record { told = on.told; stops = on.stops; taken = on.taken; cause = cause_for failed answered old.faults new.faults gave on.cause }

  pub on_as : (failed answered : Type 0) (old new : Told) → WritesOn drum failed old new → (answered → failed) → WritesOn drum answered old new
  on_as failed answered old new on gave = on_for failed answered old new gave on

  pub on_then : (failed answered : Type 0) (old mid new : Told) → IsConsistent mid → WritesOn drum failed old mid → WritesOn drum answered mid new → WritesOn drum answered old new
  on_then failed answered old mid new law first second = record {
    told = told_then (KeepsCommitted drum) old.files mid.files new.files (keeps_then drum) first.told second.told;
    stops = joins_by old mid new (KeepsCommitted drum) law (keeps_then drum) first.stops second.stops;
    taken = takes_both _ old.taken mid.taken new.taken first.taken second.taken;
    cause = cause_then answered old.faults mid.faults new.faults first.cause.later second.cause;
  }

  -- one that only writes, and one that only reads a file of the bay
  pub on_only : (failed : Type 0) (old new : Told) → Writes drum old new → new.taken ≡ old.taken → HasCause failed old.faults new.faults → WritesOn drum failed old new
  on_only failed old new writes taken cause = record { told = writes.told; stops = writes.stops; taken = takes_none _ old.taken new.taken taken; cause = cause }

  pub on_reads : (f : ℕ) (failed : Type 0) (old new : Told) → IsFileOf drum.base drum.settings.buckets f → OnlyReads (λ g. g ≡ f) failed old new → WritesOn drum failed old new
  on_reads f failed old new is reads = record {
    told = told_none (KeepsCommitted drum) old.files new.files (keeps_all drum) reads.same;
    stops = same_by old new (KeepsCommitted drum) (keeps_all drum) reads.stops;
    taken = takes_only _ f old.taken new.taken is reads.taken;
    cause = reads.cause;
  }

  -- and one that goes through the cache
  pub on_puts : (sides : Sides) (failed : Type 0) (old new : Told) → IsDrum drum → IsSidesOf drum sides → ReadsAndPuts sides failed old new → WritesOn drum failed old new
  on_puts sides failed old new law of puts =
      let writes = cache_writes drum sides.writer.out.file old new of.to puts.told puts.stops in
      record {
        told = writes.told;
        stops = writes.stops;
        taken = takes_only _ sides.reader.file old.taken new.taken (subst (IsFileOf drum.base drum.settings.buckets) (sym of.from) (side_is_file drum law)) puts.taken;
        cause = puts.cause;
      }

-- ---- once all are done
-- what is committed of another file stays
pub other_committed : (f : ℕ) (step : List ℕ → List ℕ → Type 0) (blob : Front) (held : List ℕ) (old new : Told) → IsConsistent new → blob.file ≢ f → LeavesBy (ChangesFile f step) old new
    → IsCommitted old.images blob held → IsCommitted new.images blob held
other_committed f step blob held old new law apart stops committed =
    blob_moved blob held old.images new.images (λ z left. let y = left_now old new _ law stops z left in (y.0, y.1, same_front _ _ _ (y.2.others blob.file apart))) committed

-- the three files are synced one after the other
pub is_written : (drum : Drum) (batch : Batch) (a b c d : Told) → IsConsistent b → IsConsistent c → IsConsistent d → IsCommitted b.images (next_cache drum batch) batch.pairs
    → LeavesBy (ChangesFile (next_cache drum batch).file (KeepsFront 0)) a b → LeavesBy (ChangesFile (judged_front drum).file (KeepsFront (judged_front drum).length)) b c
    → LeavesBy (ChangesFile (texts_front drum).file (KeepsFront (texts_front drum).length)) c d
    → ((held : List ℕ) → IsCommitted b.images (judged_front drum) held → IsCommitted c.images (next_judged drum batch) (held ++ batch.judged))
    → ((held : List ℕ) → IsCommitted c.images (texts_front drum) held → IsCommitted d.images (next_texts drum batch) (held ++ batch.texts)) → IsWritten drum batch a.images d.images
is_written drum batch a b c d law_b law_c law_d cache first second third judged texts = record {
  cache = other_committed _ _ (next_cache drum batch) _ c d law_d (omega arith) third (other_committed _ _ (next_cache drum batch) _ b c law_c (omega arith) second cache);
  judged = λ held was. other_committed _ _ (next_judged drum batch) _ c d law_d (omega arith) third (judged held (other_committed _ _ (judged_front drum) held a b law_b (omega arith) first was));
  texts = λ held was. texts held (other_committed _ _ (texts_front drum) held b c law_c (omega arith) second (other_committed _ _ (texts_front drum) held a b law_b (omega arith) first was));
}

-- ---- how long the files are then
pub is_long_batch : (drum : Drum) (batch : Batch) (b c d : Option Files) → ForSome b (λ files. (next_cache drum batch).length ≤ length (files (next_cache drum batch).file))
    → Changes (judged_front drum).file (KeepsFront (judged_front drum).length) b c → ForSome c (λ files. (next_judged drum batch).length ≤ length (files (next_judged drum batch).file))
    → Changes (texts_front drum).file (KeepsFront (texts_front drum).length) c d → ForSome d (λ files. (next_texts drum batch).length ≤ length (files (next_texts drum batch).file))
    → ForSome d (IsLongBatch drum batch)
is_long_batch drum batch b c d cache judged_changes judged texts_changes texts = λ files told.
    let third = told_from _ _ c d files texts_changes told in
    let second = told_from _ _ b c third.0 judged_changes third.1 in
    let cache_file = (next_cache drum batch).file in
    let cache_same : files cache_file ≡ second.0 cache_file = third.2.others cache_file (omega arith) ∙ second.2.others cache_file (omega arith) in
    let judged_same : files (next_judged drum batch).file ≡ third.0 (next_judged drum batch).file = third.2.others _ (omega arith) in
    record {
      cache = subst (λ (file : List ℕ). (next_cache drum batch).length ≤ length file) (sym cache_same) (cache second.0 second.1);
      judged = subst (λ (file : List ℕ). (next_judged drum batch).length ≤ length file) (sym judged_same) (judged third.0 third.1);
      texts = texts files told;
    }

-- what was written behind what is committed later was written behind what was committed before
pub written_first : (drum : Drum) (batch : Batch) (a b : Told) (images : Files → Type 0) → IsConsistent b → Writes drum a b → IsWritten drum batch b.images images
    → IsWritten drum batch a.images images
written_first drum batch a b images law writes written = record {
  cache = written.cache;
  judged = λ held was. written.judged held (blob_moved (judged_front drum) held a.images b.images (λ z left. let y = left_now a b _ law writes.stops z left in (y.0, y.1, y.2.judged)) was);
  texts = λ held was. written.texts held (blob_moved (texts_front drum) held a.images b.images (λ z left. let y = left_now a b _ law writes.stops z left in (y.0, y.1, y.2.texts)) was);
}
