-- What is read of judged offers, where the bay holds a book: the book's, and no entry that doesn't fit.
use Rattle.std.proofs.Common.{◌≡◌, ◌∙◌, ℕ, zero, suc, ◌+◌, ◌-◌, ◌*◌, ◌<◌, ◌≤◌, min, List, [], ◌∷◌, length, take, drop, get_or, drop-cons, Option, None, Some, refl, sym, ap, subst, arith, length-drop}
use Rattle.std.specs.Prelude.{IfSome, sum}
use Rattle.std.proofs.lemmas.List.Folds.{sum_by-replicate}
use Rattle.std.proofs.lemmas.List.{take_at, take_min}
use Rattle.std.specs.List.{flat_map, AllByRecursion}
use Rattle.irl_offer.specs.declared.offer.Op.TheVariants.{Check}
use Rattle.irl_model.specs.Book.{Book, gone, judged}
use Rattle.irl_disk.specs.Disk.{Files}
use Rattle.irl_journal.specs.Blob.{BeginsWith}
use Rattle.irl_journal.proofs.Fronts.{begins_part}
use Rattle.irl_layout.specs.declared.judged_entry.JudgedEntry.{JudgedEntry}
use Rattle.irl_bay.specs.Drum.{Drum, IsDrum, judged_front, texts_front}
use Rattle.irl_bay.specs.Holding.{Holds}
use Rattle.irl_layout.specs.JudgedEntries.{entry_spelling, with_texts, texts_length, first_place, IsJudgedEntry}
use Rattle.irl_bay.specs.JudgedSpoilt.{FitsBehind, FitEach, StandsBefore, IsSpoiltEntry}
use Rattle.irl_bay.specs.Standing.{IsBookOf}
use Rattle.irl_layout.specs.Runs.{IsOffer}
use Rattle.irl_layout.proofs.Spellings.{spelling_injective}
use Rattle.irl_bay.proofs.JudgedReading.{length-spellings}
use Rattle.irl_bay.proofs.JudgedBooks.{each_take, each_drop, each_judged, HasWords, no_words, IsOffered, book_offered, texts_behind, book_texts, entries_at, length-entries, entries_spelled, entries_fit, take-entries, drop-entries, take-spellings, drop-spellings, same_entries, fit_entries, texts_room, texts_stretch, pieces_back}

-- what stands for an entry that isn't there
no_entry : JudgedEntry
no_entry = record { bucket = 0; op = Check; verdict = None; aux_len = 0; key = 0; value = 0; from = 0; place = 0 }

-- ---- entries that fit one behind the other, by their places
fits_alone : (drum : Drum) (before : Option JudgedEntry) (entries : List JudgedEntry) (j : ℕ) → FitEach drum before entries → j < length entries → FitsBehind drum None (get_or entries j no_entry)
fits_alone drum before [] j fit lt = absurd (omega arith)
fits_alone drum before (entry ∷ entries) zero fit lt = record { is = fit.0.is; bucket = fit.0.bucket; text = fit.0.text; behind = tt }
fits_alone drum before (entry ∷ entries) (suc j) fit lt = fits_alone drum (Some entry) entries j fit.1 (omega arith)

stands_behind : (drum : Drum) (before : Option JudgedEntry) (entries : List JudgedEntry) (j : ℕ) → FitEach drum before entries → suc j < length entries
    → (get_or entries (suc j) no_entry).place ≡ (get_or entries j no_entry).place + (get_or entries j no_entry).aux_len
stands_behind drum before [] j fit lt = absurd (omega arith)
stands_behind drum before (entry ∷ []) j fit lt = absurd (omega arith)
stands_behind drum before (entry ∷ next ∷ entries) zero fit lt = fit.1.0.behind
stands_behind drum before (entry ∷ next ∷ entries) (suc j) fit lt = stands_behind drum (Some entry) (next ∷ entries) j fit.1 (omega arith)

-- the bytes of one of them
entry_bytes_at : (entries : List JudgedEntry) (j : ℕ) → j < length entries → take 48 (drop (48 * j) (flat_map entry_spelling entries)) ≡ entry_spelling (get_or entries j no_entry)
entry_bytes_at entries j lt =
    let one = get_or entries j no_entry in
    ap (take 48) (drop-spellings j entries ∙ ap (flat_map entry_spelling) (drop-cons entries j no_entry lt))
    ∙ take_at (entry_spelling one) (flat_map entry_spelling (drop (suc j) entries)) 48 refl

module _ (images : Files → Type 0) (drum : Drum) (book : Book) (is : IsDrum drum) (holds : Holds images drum book) where
  -- each judged offer has its room
  all_offered : AllByRecursion (IsOffered drum.settings.buckets) (judged book)
  all_offered =
      let base = (holds.book_is.is_book.none holds.book_is.dropped).0 in
      let words : HasWords book.base = subst HasWords (sym base) no_words in
      let offers = each_judged IsOffer book holds.book_is.is_book holds.offers in
      subst (λ (n : ℕ). AllByRecursion (IsOffered n) (judged book)) holds.book_is.buckets (book_offered book words offers)

  -- so the entries fit one behind the other
  book_entries : List JudgedEntry
  book_entries = entries_at 0 (judged book)

  all_fit : FitEach drum None book_entries
  unfolding book_entries
  all_fit =
      let texts = holds.numbers.commit.texts in
      let same = ap length (book_texts book) in
      entries_fit drum is.settings.buckets is.last.texts None 0 (judged book) all_offered (omega (arith, texts, same)) tt

  as_many : length book_entries ≡ drum.last.judged
  unfolding book_entries
  as_many = length-entries 0 (judged book) ∙ sym holds.numbers.commit.judged

  module _ (files : Files) (left : images files) where
    judged_begins : BeginsWith (files (judged_front drum).file) (flat_map entry_spelling book_entries)
    unfolding book_entries
    judged_begins = subst (BeginsWith (files (judged_front drum).file)) (entries_spelled 0 (judged book)) (holds.judged_are.each files left)

    texts_begin : BeginsWith (files (texts_front drum).file) (texts_behind (judged book))
    texts_begin = subst (BeginsWith (files (texts_front drum).file)) (book_texts book) (holds.texts.each files left)

    -- an entry of the file
    read_one : (j : ℕ) → j < drum.last.judged → take 48 (drop (48 * j) (files (judged_front drum).file)) ≡ entry_spelling (get_or book_entries j no_entry)
    read_one j lt =
        let count = as_many in
        begins_part (files (judged_front drum).file) (flat_map entry_spelling book_entries) (48 * j) 48 (omega (arith, lt, count, length-spellings book_entries)) judged_begins
        ∙ entry_bytes_at book_entries j (omega (arith, lt, count))

    -- no entry fails to fit
    fits_before : (j : ℕ) (before : Option JudgedEntry) → j < drum.last.judged → IfSome before (StandsBefore (files (judged_front drum).file) j)
        → FitsBehind drum before (get_or book_entries j no_entry)
    fits_before j None lt stands = fits_alone drum None book_entries j all_fit (let count = as_many in omega (arith, lt, count))
    fits_before zero (Some one) lt stands = absurd (let later = stands.later in omega (arith, later))
    fits_before (suc i) (Some one) lt stands =
        let count = as_many in
        let alone = fits_alone drum None book_entries (suc i) all_fit (omega (arith, lt, count)) in
        let other = get_or book_entries i no_entry in
        let is_other = (fits_alone drum None book_entries i all_fit (omega (arith, lt, count))).is in
        let place : suc i - 1 ≡ i = omega arith in
        let same : one ≡ other = spelling_injective one other stands.is is_other (stands.bytes_are ∙ ap (λ (k : ℕ). take 48 (drop (48 * k) (files (judged_front drum).file))) place
        ∙ read_one i (omega arith)) in
        let behind = stands_behind drum None book_entries i all_fit (omega (arith, lt, count)) in
        record { is = alone.is; bucket = alone.bucket; text = alone.text; behind = behind ∙ sym (ap (λ (e : JudgedEntry). e.place + e.aux_len) same) }

    pub none_spoilt : (at : ℕ) → IsSpoiltEntry drum (files (judged_front drum).file) at → ⊥
    none_spoilt at spoilt =
        spoilt.none.none (get_or book_entries spoilt.j no_entry) (fits_before spoilt.j spoilt.none.before spoilt.within spoilt.none.stands) (sym (read_one spoilt.j spoilt.within))

    -- what is read of a stretch is the book's
    module _ (entries : List JudgedEntry) (texts : List ℕ) (i n : ℕ) (within : i + n ≤ drum.last.judged) (fit : FitEach drum None entries) where
      stretch_entries : flat_map entry_spelling entries ≡ take (48 * n) (drop (48 * i) (files (judged_front drum).file)) → entries ≡ take n (drop i book_entries)
      stretch_entries are =
          let count = as_many in
          let bytes = begins_part (files (judged_front drum).file) (flat_map entry_spelling book_entries) (48 * i) (48 * n) (omega (arith, within, count, length-spellings book_entries))
          judged_begins in
          let spelled = ap (take (48 * n)) (drop-spellings i book_entries) ∙ take-spellings n (drop i book_entries) in
          same_entries entries (take n (drop i book_entries)) (fit_entries drum None entries fit)
          (each_take IsJudgedEntry n (drop i book_entries) (each_drop IsJudgedEntry i book_entries (fit_entries drum None book_entries all_fit))) (are ∙ bytes ∙ spelled)

      pub stretch_held : flat_map entry_spelling entries ≡ take (48 * n) (drop (48 * i) (files (judged_front drum).file))
          → texts ≡ take (texts_length entries) (drop (first_place entries) (files (texts_front drum).file)) → with_texts entries texts ≡ take n (drop i (judged book))
      unfolding book_entries
      stretch_held are texts_are =
          let list = take n (drop i (judged book)) in
          let place = length (texts_behind (take i (judged book))) in
          let start : 0 + place ≡ place = omega arith in
          let same : entries ≡ entries_at place list = stretch_entries are ∙ ap (take n) (drop-entries i 0 (judged book)) ∙ take-entries n (0 + place) (drop i (judged book))
          ∙ ap (λ (k : ℕ). entries_at k list) start in
          let front = begins_part (files (texts_front drum).file) (texts_behind (judged book)) place (length (texts_behind list)) (texts_room (judged book) i n) texts_begin
          ∙ texts_stretch (judged book) i n in
          let piece = subst (λ (es : List JudgedEntry). texts ≡ take (texts_length es) (drop (first_place es) (files (texts_front drum).file))) same texts_are in
          ap (λ (es : List JudgedEntry). with_texts es texts) same ∙ pieces_back (files (texts_front drum).file) texts place list front piece

-- a book that a bay has begins with the first offer
from_none : (drum : Drum) (book : Book) → IsBookOf drum.settings book → (i : ℕ) → i ≡ i - gone book
from_none drum book is i =
    let zeros : gone book ≡ book.buckets * 0 = ap sum (is.is_book.none is.dropped).1 ∙ sum_by-replicate (λ (m : ℕ). m) book.buckets 0 in
    omega (arith, zeros)

pub found_held : (images : Files → Type 0) (drum : Drum) (book : Book) → IsDrum drum → Holds images drum book → (files : Files) → images files
    → (entries : List JudgedEntry) (texts : List ℕ) (i most n : ℕ) → i < drum.last.judged → n ≡ min most (drum.last.judged - i) → FitEach drum None entries
    → flat_map entry_spelling entries ≡ take (48 * n) (drop (48 * i) (files (judged_front drum).file))
    → texts ≡ take (texts_length entries) (drop (first_place entries) (files (texts_front drum).file)) → with_texts entries texts ≡ take most (drop (i - gone book) (judged book))
found_held images drum book is holds files left entries texts i most n place count fit are texts_are =
    let within : i + n ≤ drum.last.judged = omega (arith, place, count) in
    let long : drum.last.judged - i ≡ length (drop i (judged book)) = omega (arith, holds.numbers.commit.judged, length-drop i (judged book)) in
    stretch_held images drum book is holds files left entries texts i n within fit are texts_are
    ∙ ap (λ (k : ℕ). take k (drop i (judged book))) (count ∙ ap (λ (m : ℕ). min most m) long)
    ∙ take_min most (drop i (judged book))
    ∙ ap (λ (k : ℕ). take most (drop k (judged book))) (from_none drum book holds.book_is i)

pub length-with_texts : (entries : List JudgedEntry) (texts : List ℕ) → length (with_texts entries texts) ≡ length entries
length-with_texts [] texts = refl
length-with_texts (entry ∷ entries) texts = ap (λ (n : ℕ). suc n) (length-with_texts entries (drop entry.aux_len texts))
