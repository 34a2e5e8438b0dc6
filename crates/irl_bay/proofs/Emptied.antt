-- The side of the buckets' files that isn't live is emptied: its files are cut, and then their journals are made anew.
use Rattle.std.proofs.Common.{◌≡◌, ◌≢◌, ◌⊎◌, ◌∙◌, inl, inr, ⊎_elim, ℕ, ◌+◌, ◌<◌, ◌≤◌, List, [], ◌∷◌, ◌++◌, length, length-append, take, take_all, get_or, refl, sym, ap, subst, arith}
use Rattle.std.proofs.lemmas.List.{take_more}
use Rattle.std.specs.Option.{ForSome}
use Rattle.irl_base.specs.Faults.{HasCause}
use Rattle.irl_disk.specs.Disk.{Changes, ChangesFile, IsPrefix, Scribbled, ChangesOnly}
use Rattle.irl_disk.specs.Effects.{OnlyChanges}
use Rattle.irl_disk.specs.Images.{Told, IsConsistent, LeavesBy}
use Rattle.irl_disk.proofs.Effects.{cause_for, cause_then, changes_for, changes_none}
use Rattle.irl_disk.proofs.Frames.{told_from}
use Rattle.irl_layout.specs.BayFiles.{file_of, IsBucketFile, IsSideFile}
use Rattle.irl_bay.specs.declared.bucket.Bucket.{Bucket}
use Rattle.irl_layout.specs.declared.files.BayFile.TheVariants.{Journal, Aux}
use Rattle.irl_bay.specs.Drum.{Drum, no_bucket, durable_at}
use Rattle.irl_bay.specs.Holding.{HoldsBucket}
use Rattle.irl_bay.specs.Merging.{emptied, emptied_from}
use Rattle.irl_bay.proofs.Bucketing.{bucket_stays}
use Rattle.irl_bay.proofs.Merged.{bucket_emptied, length-emptied}
use Rattle.irl_bay.proofs.Staying.{leaves_both, leaves_one, tells_both, tells_one}

same_or_other : (k b : ℕ) → (k ≡ b) ⊎ (k ≢ b)
same_or_other k b = grind arith

-- ---- a file of the side changes
-- one call more, on a file of the side
pub side_changes : (base side buckets f b : ℕ) → b < buckets → IsBucketFile base side b f → (tells stop : List ℕ → List ℕ → Type 0) (failed answered : Type 0) (old mid new : Told)
    → (answered → failed)
    → IsConsistent mid → OnlyChanges (ChangesOnly (IsSideFile base side buckets)) ⊥ old mid → Changes f tells mid.files new.files → LeavesBy (ChangesFile f stop) mid new → new.taken ≡ mid.taken
    → HasCause failed mid.faults new.faults → OnlyChanges (ChangesOnly (IsSideFile base side buckets)) answered old new
side_changes base side buckets f b within is tells stop failed answered old mid new gave law first told stops taken cause = record {
  told = tells_both (IsSideFile base side buckets) old.files mid.files new.files first.told (tells_one (IsSideFile base side buckets) f tells mid.files new.files (b, within, is) told);
  stops = leaves_both (IsSideFile base side buckets) old mid new law first.stops (leaves_one (IsSideFile base side buckets) f stop mid new (b, within, is) stops);
  taken = taken ∙ first.taken;
  cause = cause_for failed answered old.faults new.faults gave (cause_then failed old.faults mid.faults new.faults first.cause.later cause);
}

-- ---- the cuts
-- the files of the first buckets are cut
pub record CutSoFar (base side buckets : ℕ) (old now : Told) (b : ℕ) : Type 0 where
  pub cut : ForSome now.files (λ files. (f : ℕ) → IsSideFile base side b f → files f ≡ [])
  pub others : OnlyChanges (ChangesOnly (IsSideFile base side buckets)) ⊥ old now

pub cut_none : (base side buckets : ℕ) (now : Told) → IsConsistent now → CutSoFar base side buckets now now 0
cut_none base side buckets now law = record {
  cut = λ files told f is. absurd (omega (arith, is.1));
  others = changes_none (ChangesOnly (IsSideFile base side buckets)) now law (λ x f out. refl);
}

pub cut_more : (base side buckets f g b : ℕ) (old mid between new : Told) → f ≡ file_of base 0 (Journal side b)
    → g ≡ file_of base 0 (Aux side b) → CutSoFar base side buckets old mid b
    → Changes f (IsPrefix 0) mid.files between.files → Changes g (IsPrefix 0) between.files new.files → OnlyChanges (ChangesOnly (IsSideFile base side buckets)) ⊥ old new
    → CutSoFar base side buckets old new (b + 1)
cut_more base side buckets f g b old mid between new journal aux so_far first second others = record {
  cut = λ files told h is.
      let later = told_from g (IsPrefix 0) between.files new.files files second told in
      let before = told_from f (IsPrefix 0) mid.files between.files later.0 first later.1 in
      ⊎_elim
      (λ (e : h ≡ g). subst (λ (n : ℕ). files n ≡ []) (sym e) later.2.changed)
      (λ (not_aux : h ≢ g). later.2.others h not_aux
      ∙ ⊎_elim
      (λ (e : h ≡ f). subst (λ (n : ℕ). later.0 n ≡ []) (sym e) before.2.changed)
      (λ (not_journal : h ≢ f).
      let earlier : is.0 < b = ⊎_elim (λ (e : h ≡ file_of base 0 (Journal side is.0)). omega (arith, e, journal, not_journal, is.1)) (λ (e : h ≡ file_of base 0 (Aux side is.0)).
      omega (arith, e, aux, not_aux, is.1)) is.2 in
      before.2.others h not_journal ∙ so_far.cut before.0 before.1 h (is.0, earlier, is.2))
      (same_or_other h f))
      (same_or_other h g);
  others = others;
}

-- ---- and the journals
-- those of the first buckets are made
pub record EmptiedSoFar (drum : Drum) (side buckets : ℕ) (old now : Told) (made : List Bucket) (b : ℕ) : Type 0 where
  pub made_are : made ≡ take b (emptied_from drum.base side 0 drum.buckets)
  pub count : length made ≡ b
  pub holds : (k : ℕ) → k < b → (array : ℕ) → HoldsBucket now.images array 0 (emptied drum.base side k (durable_at drum k)) []
  pub journals : ForSome now.files (λ files. (k : ℕ) → k < b → length (files (file_of drum.base 0 (Journal side k))) ≡ 1)
  pub auxes : ForSome now.files (λ files. (k : ℕ) → k < buckets → files (file_of drum.base 0 (Aux side k)) ≡ [])
  pub cut : ForSome now.files (λ files. (k : ℕ) → b ≤ k → k < buckets → files (file_of drum.base 0 (Journal side k)) ≡ [])
  pub others : OnlyChanges (ChangesOnly (IsSideFile drum.base side buckets)) ⊥ old now

pub emptied_none : (drum : Drum) (side buckets : ℕ) (old now : Told) (made : List Bucket) → made ≡ [] → ForSome now.files (λ files. (f : ℕ) → IsSideFile drum.base side buckets f → files f ≡ [])
    → (failed : Type 0) → OnlyChanges (ChangesOnly (IsSideFile drum.base side buckets)) failed old now → EmptiedSoFar drum side buckets old now made 0
emptied_none drum side buckets old now made none cut failed others = record {
  made_are = none;
  count = ap length none;
  holds = λ k within. absurd (omega (arith, within));
  journals = λ files told k within. absurd (omega (arith, within));
  auxes = λ files told k within. cut files told (file_of drum.base 0 (Aux side k)) (k, within, inr refl);
  cut = λ files told k from within. cut files told (file_of drum.base 0 (Journal side k)) (k, within, inl refl);
  others = changes_for (ChangesOnly (IsSideFile drum.base side buckets)) failed ⊥ old now (λ no. absurd no) others;
}

pub emptied_more : (drum : Drum) (side buckets f : ℕ) (old mid new : Told) (made : List Bucket) (b : ℕ) (bucket : Bucket) → IsConsistent mid → IsConsistent new → b < buckets
    → length drum.buckets ≡ buckets → EmptiedSoFar drum side buckets old mid made b → f ≡ file_of drum.base 0 (Journal side b)
    → bucket ≡ emptied drum.base side b (durable_at drum b) → ((array : ℕ) → HoldsBucket new.images array 0 bucket []) → Changes f (λ x y. length y ≡ 1) mid.files new.files
    → LeavesBy (ChangesFile f (Scribbled 0 1)) mid new → new.taken ≡ mid.taken → (failed : Type 0) → HasCause failed mid.faults new.faults
    → EmptiedSoFar drum side buckets old new (made ++ bucket ∷ []) (b + 1)
emptied_more drum side buckets f old mid new made b bucket law_mid law within all so_far file is holds changes stops taken failed cause =
    let many : b < length (emptied_from drum.base side 0 drum.buckets) = omega (arith, within, all, length-emptied drum.base side 0 drum.buckets) in
    let last : get_or (emptied_from drum.base side 0 drum.buckets) b no_bucket ≡ bucket = bucket_emptied drum side b (omega (arith, within, all)) ∙ sym is in
    record {
      made_are = sym (take_more (emptied_from drum.base side 0 drum.buckets) b no_bucket many ∙ ap (λ (one : Bucket). take b (emptied_from drum.base side 0 drum.buckets) ++ one ∷ []) last
          ∙ ap (λ (l : List Bucket). l ++ bucket ∷ []) (sym so_far.made_are));
      count = omega (arith, so_far.count, length-append made (bucket ∷ []));
      holds = λ k inside array. ⊎_elim
          (λ (e : k ≡ b). subst (λ (one : Bucket). HoldsBucket new.images array 0 one []) (is ∙ ap (λ (n : ℕ). emptied drum.base side n (durable_at drum n)) (sym e)) (holds array))
          (λ (other : k ≢ b). bucket_stays (λ g. g ≡ f) array 0 (emptied drum.base side k (durable_at drum k)) [] mid new law only (λ e. omega (arith, e, file, other)) (λ e. omega (arith, e, file))
          (so_far.holds k (omega (arith, inside, other)) array))
          (same_or_other k b);
      journals = λ files told k inside.
          let from = told_from f (λ x y. length y ≡ 1) mid.files new.files files changes told in
          ⊎_elim
          (λ (e : k ≡ b). let here : f ≡ file_of drum.base 0 (Journal side k) = omega (arith, file, e) in subst (λ (h : ℕ). length (files h) ≡ 1) here from.2.changed)
          (λ (other : k ≢ b).
          let same = from.2.others (file_of drum.base 0 (Journal side k)) (λ e. omega (arith, e, file, other)) in
          ap (λ (bytes : List ℕ). length bytes) same ∙ so_far.journals from.0 from.1 k (omega (arith, inside, other)))
          (same_or_other k b);
      auxes = λ files told k inside.
          let from = told_from f (λ x y. length y ≡ 1) mid.files new.files files changes told in
          from.2.others (file_of drum.base 0 (Aux side k)) (λ e. omega (arith, e, file)) ∙ so_far.auxes from.0 from.1 k inside;
      cut = λ files told k later inside.
          let from = told_from f (λ x y. length y ≡ 1) mid.files new.files files changes told in
          from.2.others (file_of drum.base 0 (Journal side k)) (λ e. omega (arith, e, file, later)) ∙ so_far.cut from.0 from.1 k (omega (arith, later)) inside;
      others = side_changes drum.base side buckets f b within (inl file) (λ x y. length y ≡ 1) (Scribbled 0 1) failed ⊥ old mid new (λ no. absurd no) law_mid so_far.others changes stops taken cause;
    }
  where
    only : LeavesBy (ChangesOnly (λ g. g ≡ f)) mid new
    only = leaves_one (λ g. g ≡ f) f (Scribbled 0 1) mid new refl stops

-- all are made
pub emptied_all : (drum : Drum) (side buckets : ℕ) (old now : Told) (made : List Bucket) (b : ℕ) → b ≡ length drum.buckets → EmptiedSoFar drum side buckets old now made b
    → made ≡ emptied_from drum.base side 0 drum.buckets
emptied_all drum side buckets old now made b all so_far = so_far.made_are ∙ take_all b (emptied_from drum.base side 0 drum.buckets) (omega (arith, all, length-emptied drum.base side 0 drum.buckets))
