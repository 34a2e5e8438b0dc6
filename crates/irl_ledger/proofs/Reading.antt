-- Reading the judged URLs of a crawl: what a refusal names.
use Rattle.std.proofs.Common.{◌≡◌, ◌∙◌, inl, inr, ⊎_elim, ℕ, zero, suc, ◌+◌, ◌-◌, ◌*◌, ◌<◌, List, [], ◌∷◌, length, map, take, drop, zero-add, Option, Some, Result, Ok, Err, IsErr, IsErrOf, sym, ap, subst, arith}
use Rattle.std.specs.Prelude.{IfOk, slice_get, slice_index_or, sum}
use Rattle.std.specs.List.{AllByRecursion}
use Rattle.std.specs.Option.{ForSome}
use Rattle.std.proofs.lemmas.List.Folds.{sum_by-replicate}
use Rattle.std.proofs.lemmas.Result.{IfOk-weaker}
use Rattle.irl_base.specs.declared.fault.Fault.{Fault}
use Rattle.irl_base.specs.declared.fault.Fault.TheVariants.{Damaged, Failed, Full}
use Rattle.irl_offer.specs.Offering.{IsTakenBy}
use Rattle.irl_offer.specs.Tuple.{Tuple}
use Rattle.irl_offer.specs.declared.offer.Rule.{Rule}
use Rattle.irl_offer.specs.declared.offer.Verdict.{Verdict}
use Rattle.irl_offer.specs.declared.receipt.Judged.{Judged}
use Rattle.irl_offer.specs.declared.settings.Kind.TheVariants.{Crawl}
use Rattle.irl_offer.specs.declared.settings.Settings.{Settings}
use Rattle.irl_key.specs.Links.{IsCanonicalText}
use Rattle.irl_model.specs.Book.{Book, gone, judged, judged_as, judged_offers}
use Rattle.irl_model.specs.Judging.{KeyMap, entered}
use Rattle.irl_model.proofs.JudgingLaws.{judged_on, judgements-judged_on}
use Rattle.irl_disk.specs.Effects.{OnlyReads}
use Rattle.irl_disk.specs.Images.{Told, IsConsistent, LeavesSame}
use Rattle.irl_disk.proofs.Effects.{reads_for, reads_then}
use Rattle.irl_bay.specs.Drum.{Drum, IsDrum, judged_front}
use Rattle.irl_bay.specs.Holding.{Holds}
use Rattle.irl_bay.specs.JudgedSpoilt.{IsJudgedFile}
use Rattle.irl_bay.specs.Merges.{ReadsJudged}
use Rattle.irl_bay.specs.Standing.{IsBookOf}
use Rattle.irl_bay.proofs.Apart.{holds_beside}
use Rattle.irl_bay.proofs.JudgedBooks.{each_judged}
use Rattle.irl_bay.proofs.Staying.{leaves_same}
use Rattle.irl_ledger.specs.Crawling.{AreTaken}
use Rattle.irl_ledger.specs.Reading.{IsStrangeTextAt, ReadsUrls}

-- ---- books
-- a book that a bay has begins with the first offer
pub none_gone : (settings : Settings) (book : Book) → IsBookOf settings book → gone book ≡ 0
none_gone settings book is =
    let zeros : gone book ≡ book.buckets * 0 = ap sum (is.is_book.none is.dropped).1 ∙ sum_by-replicate (λ (m : ℕ). m) book.buckets 0 in
    omega (arith, zeros)

pub all_index : {X : Type 0} (P : X → Type 0) (xs : List X) (i : ℕ) (d : X) → AllByRecursion P xs → i < length xs → P (slice_index_or xs i d)
all_index P [] i d all lt = absurd (omega (arith, lt))
all_index P (x ∷ xs) zero d all lt = all.0
all_index P (x ∷ xs) (suc i) d all lt = all_index P xs i d all.1 (omega (arith, lt))

all_get : {X : Type 0} (P : X → Type 0) (xs : List X) (i : ℕ) (x : X) → AllByRecursion P xs → slice_get xs i ≡ Some x → P x
all_get P [] i x all is = absurd (cc)
all_get P (y ∷ xs) zero x all is = let same : y ≡ x = cc in subst P same all.0
all_get P (y ∷ xs) (suc i) x all is = all_get P xs i x all.1 is

pub all_judged_as : (P : Tuple → Type 0) (buckets : ℕ) (rule : Rule) (seen : KeyMap) (offers : List Tuple) → AllByRecursion P offers
    → AllByRecursion (λ (j : Judged). P j.offer) (map (judged_as buckets) (judged_on rule seen offers))
all_judged_as P buckets rule seen [] all = tt
all_judged_as P buckets rule seen (offer ∷ offers) all = (all.0, all_judged_as P buckets rule (entered rule seen offer) offers all.1)

-- the text of each judged offer that a crawl takes is canonical
pub judged_taken : (settings : Settings) (book : Book) → IsBookOf settings book → AllByRecursion (AreTaken Crawl) book.lists → (i : ℕ) (one : Judged) → slice_get (judged book) i ≡ Some one
    → IsCanonicalText one.offer.aux
judged_taken settings book is taken i one found =
    let P : Tuple → Type 0 = IsTakenBy IsCanonicalText Crawl in
    let offers : AllByRecursion P (judged_offers book) =
    each_judged P book is.is_book (λ b lt. all_index (AreTaken Crawl) book.lists b [] taken (omega (arith, lt, is.is_book.lists))) in
    let each : AllByRecursion (λ (j : Judged). P j.offer) (judged book) =
    subst (λ (js : List (Tuple × Option Verdict)). AllByRecursion (λ (j : Judged). P j.offer) (map (judged_as book.buckets) js))
    (sym (judgements-judged_on book.rule book.base (judged_offers book))) (all_judged_as P book.buckets book.rule book.base (judged_offers book) offers) in
    (all_get (λ (j : Judged). P j.offer) (judged book) i one each found).1

-- an offer of a piece of a list is one of the list
taken_at : {X : Type 0} (most k : ℕ) (xs : List X) (x : X) → slice_get (take most xs) k ≡ Some x → slice_get xs k ≡ Some x
taken_at zero k xs x is = absurd (cc)
taken_at (suc most) k [] x is = absurd (cc)
taken_at (suc most) zero (y ∷ xs) x is = is
taken_at (suc most) (suc k) (y ∷ xs) x is = taken_at most k xs x is

dropped_at : {X : Type 0} (i k : ℕ) (xs : List X) (x : X) → slice_get (drop i xs) k ≡ Some x → slice_get xs (i + k) ≡ Some x
dropped_at zero k xs x is = rw (zero-add k) is
dropped_at (suc i) k [] x is = absurd (cc)
dropped_at (suc i) k (y ∷ xs) x is = let sum : suc i + k ≡ suc (i + k) = omega arith in rw sum (dropped_at i k xs x is)

pub part_at : (settings : Settings) (book : Book) → IsBookOf settings book → (from most k : ℕ) (part : List Judged) (one : Judged) → part ≡ take most (drop (from - gone book) (judged book))
    → slice_get part k ≡ Some one → slice_get (judged book) (from + k - gone book) ≡ Some one
part_at settings book is from most k part one same found =
    let zero_gone : gone book ≡ 0 = none_gone settings book is in
    let place : from - gone book + k ≡ from + k - gone book = omega (arith, zero_gone) in
    subst (λ (i : ℕ). slice_get (judged book) i ≡ Some one) place
    (dropped_at (from - gone book) k (judged book) one
    (taken_at most k (drop (from - gone book) (judged book)) one (ap (λ (js : List Judged). slice_get js k) (sym same) ∙ found)))

-- a store that was only read leaves the bay its book
pub held_later : (old new : Told) (urls : Drum) (book : Book) → IsDrum urls → IsConsistent new → LeavesSame old new → Holds old.images urls book → Holds new.images urls book
held_later old new urls book law consistent stops holds = holds_beside (λ f. ⊥) old new urls book law consistent (leaves_same (λ f. ⊥) old new stops) (λ f is no. no) holds

-- ---- refusals
if_err : {A : Type 0} (result : Result A Fault) (P : A → Type 0) → IsErr result → IfOk result P
if_err (Ok value) P is = absurd (cc)
if_err (Err error) P is = tt

-- what is refused where judged offers are read
pub judged_refused : {A B : Type 0} (result : Result A Fault) (other : Result B Fault) (gives : A → Book → Type 0) (more : B → Book → Type 0) (urls : Drum) (before after : Told)
    → IsErr other → ((e : Fault) → IsErrOf other e → IsErrOf result e) → ReadsJudged result gives urls before after → ReadsUrls other more urls before after
judged_refused result other gives more urls before after is same reads = record {
  value = if_err other _ is;
  spoilt = λ f at named files told. inl (reads.spoilt f at (same (Damaged f at) named) files told);
  whole = λ f at named files told book holds taken. reads.whole f at (same (Damaged f at) named) files told book holds;
  full = λ n named. reads.full n (same (Full n) named);
  reads = reads_for (IsJudgedFile urls) (IsErrOf result Failed) (IsErrOf other Failed) before after (same Failed) reads.reads;
}

-- an offer of which whatever book the bay holds has this text, which isn't canonical
pub record NamesStrange (urls : Drum) (before : Told) (f at : ℕ) : Type 0 where
  pub file : f ≡ (judged_front urls).file
  pub i : ℕ
  pub within : i < urls.last.judged
  pub place : at ≡ 48 * i
  pub one : Judged
  pub found : ForSome before.files (λ _. (book : Book) → Holds before.images urls book → slice_get (judged book) (i - gone book) ≡ Some one)
  pub strange : IsCanonicalText one.offer.aux → ⊥

-- what is refused once they were read
pub strange_refused : {B : Type 0} (other : Result B Fault) (failed : Type 0) (more : B → Book → Type 0) (urls : Drum) (before after : Told) → IsErr other
    → OnlyReads (IsJudgedFile urls) failed before after → (IsErrOf other Failed → ⊥) → ((n : ℕ) → IsErrOf other (Full n) → ⊥)
    → ((f at : ℕ) → IsErrOf other (Damaged f at) → NamesStrange urls before f at) → ReadsUrls other more urls before after
strange_refused other failed more urls before after is reads no_failure no_full names = record {
  value = if_err other _ is;
  spoilt = λ f at named files told.
      let n = names f at named in
      inr (record {
        file = n.file;
        i = n.i;
        within = n.within;
        place = n.place;
        strange = λ book one holds there canonical.
            let other_one : Some one ≡ Some n.one = sym there ∙ n.found files told book holds in
            let same : one ≡ n.one = cc in
            n.strange (subst (λ (j : Judged). IsCanonicalText j.offer.aux) same canonical);
      });
  whole = λ f at named files told book holds taken.
      let n = names f at named in
      n.strange (judged_taken urls.settings book holds.book_is taken (n.i - gone book) n.one (n.found files told book holds));
  full = no_full;
  reads = reads_for (IsJudgedFile urls) failed (IsErrOf other Failed) before after (λ e. absurd (no_failure e)) reads;
}

-- a refusal after other reads
pub refused_later : {A B : Type 0} (result : Result A Fault) (other : Result B Fault) (gives : A → Book → Type 0) (more : B → Book → Type 0) (urls : Drum) (old mid new : Told) → IsDrum urls
    → IsConsistent mid → IsErr other → ((e : Fault) → IsErrOf other e → IsErrOf result e) → OnlyReads (IsJudgedFile urls) ⊥ old mid → ReadsUrls result gives urls mid new
    → ReadsUrls other more urls old new
refused_later result other gives more urls old mid new law consistent is same first reads = record {
  value = if_err other _ is;
  spoilt = λ f at named files told. ⊎_elim
      (λ spoilt. inl spoilt)
      (λ (strange : IsStrangeTextAt mid.images urls f at).
      inr (record {
        file = strange.file;
        i = strange.i;
        within = strange.within;
        place = strange.place;
        strange = λ book one holds. strange.strange book one (held_later old mid urls book law consistent first.stops holds);
      }))
      (reads.spoilt f at (same (Damaged f at) named) files (first.same ∙ told));
  whole = λ f at named files told book holds taken.
      reads.whole f at (same (Damaged f at) named) files (first.same ∙ told) book (held_later old mid urls book law consistent first.stops holds) taken;
  full = λ n named. reads.full n (same (Full n) named);
  reads = reads_for (IsJudgedFile urls) (IsErrOf result Failed) (IsErrOf other Failed) old new (same Failed)
      (reads_then (IsJudgedFile urls) ⊥ (IsErrOf result Failed) old mid new consistent first reads.reads);
}

-- an answer that no read refuses
pub found_last : {A : Type 0} (value : A) (gives : A → Book → Type 0) (urls : Drum) (old new : Told) → OnlyReads (IsJudgedFile urls) ⊥ old new
    → ForSome old.files (λ _. (book : Book) → Holds old.images urls book → gives value book) → ReadsUrls (Ok value) gives urls old new
found_last value gives urls old new reads found = record {
  value = found;
  spoilt = λ f at named. absurd (cc);
  whole = λ f at named. absurd (cc);
  full = λ n named. cc;
  reads = reads_for (IsJudgedFile urls) ⊥ (IsErrOf (Ok value) Failed) old new (λ named. cc) reads;
}

-- what is found says something else of a book that the bay holds
pub found_as : {A : Type 0} (result : Result A Fault) (gives more : A → Book → Type 0) (urls : Drum) (before after : Told)
    → ((value : A) (book : Book) → Holds before.images urls book → gives value book → more value book) → ReadsUrls result gives urls before after → ReadsUrls result more urls before after
found_as result gives more urls before after says reads = record {
  value = IfOk-weaker result _ _ (λ value found files told book holds. says value book holds (found files told book holds)) reads.value;
  spoilt = reads.spoilt;
  whole = reads.whole;
  full = reads.full;
  reads = reads.reads;
}
