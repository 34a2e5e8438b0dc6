-- The judged file and the texts tell which offers are judged, and so with which each bucket's list begins.
use Rattle.std.proofs.Common.{◌≡◌, ◌∙◌, ℕ, ◌+◌, ◌*◌, ◌^◌, ◌<◌, ◌≤◌, List, [], ◌∷◌, ◌++◌, length, take, drop, get_or, Option, None, Some, refl, sym, ap, subst, arith, length-append, take-append-drop}
use Rattle.std.proofs.Math.Nat.{mul-le-mul_left}
use Rattle.std.proofs.Math.Seq.{take-append_seam, drop-append_seam}
use Rattle.std.specs.Prelude.{filter}
use Rattle.std.specs.List.{AllByRecursion}
use Rattle.irl_offer.specs.Buckets.{IsBucketCount}
use Rattle.irl_offer.specs.declared.receipt.Judged.{Judged}
use Rattle.irl_offer.specs.declared.settings.Settings.{Settings}
use Rattle.irl_offer.specs.Tuple.{Tuple}
use Rattle.irl_model.specs.Book.{Book, judged, judged_offers}
use Rattle.irl_model.proofs.Stretches.{here, judged_here_are}
use Rattle.irl_journal.specs.Blob.{BeginsWith}
use Rattle.irl_layout.specs.declared.judged_entry.JudgedEntry.{JudgedEntry}
use Rattle.irl_layout.specs.Commits.{Commit, IsCommitOf, starts, live_offers}
use Rattle.irl_layout.specs.JudgedEntries.{judged_entries, with_texts, IsJudgedEntry}
use Rattle.irl_layout.specs.Runs.{IsOffer, texts_of}
use Rattle.irl_bay.specs.Standing.{IsBookOf}
use Rattle.irl_bay.proofs.JudgedBooks.{HasWords, IsOffered, no_words, each_judged, book_offered, book_texts, few_buckets, entries_at, entries_spelled, length-entries, same_entries, texts_back, texts_behind}
use Rattle.irl_bay.proofs.JudgedMore.{offers_back, offers_of}
use Rattle.irl_bay.proofs.Live.{first_zero, live_is, starts_none, starts_some}
use Rattle.irl_bay.proofs.JudgedReading.{length-spellings}

-- two fronts of one length, and what stands behind each
pub same_parts : (s t x y : List ℕ) → length s ≡ length t → s ++ x ≡ t ++ y → (s ≡ t) × (x ≡ y)
same_parts s t x y long same = (
  sym (take-append_seam s x) ∙ ap (take (length s)) same ∙ ap (λ (n : ℕ). take n (t ++ y)) long ∙ take-append_seam t y,
  sym (drop-append_seam s x) ∙ ap (drop (length s)) same ∙ ap (λ (n : ℕ). drop n (t ++ y)) long ∙ drop-append_seam t y,
)

-- what a file begins with, where the length is told
same_fronts : (file s t : List ℕ) → length s ≡ length t → BeginsWith file s → BeginsWith file t → s ≡ t
same_fronts file s t long for_s for_t = (same_parts s t for_s.0 for_t.0 long (sym for_s.1 ∙ for_t.1)).0

-- ---- the entries of judged offers
-- each has its form
entries_form : (buckets place : ℕ) (list : List Judged) → IsBucketCount buckets → AllByRecursion (IsOffered buckets) list → place + length (texts_behind list) < 2 ^ 64
    → AllByRecursion IsJudgedEntry (entries_at place list)
entries_form buckets place [] count each fits = tt
entries_form buckets place (one ∷ more) count each fits =
    let few = few_buckets buckets count in
    let scaled : one.offer.key * buckets ≤ one.offer.key * 64 = mul-le-mul_left one.offer.key few in
    let is = each.0 in
    let sum = length-append one.offer.aux (texts_behind more) in (
      record {
        bucket = omega (arith, is.bucket, scaled, is.offer.key);
        aux_len = is.offer.aux;
        key = is.offer.key;
        value = is.offer.value;
        from = is.offer.from;
        known = is.known;
        place = omega (arith, fits, sum);
      },
      entries_form buckets (place + length one.offer.aux) more count each.1 (omega (arith, fits, sum)),
    )

-- ---- a book
module _ (settings : Settings) (book : Book) (commit : Commit) (is : IsBookOf settings book) (of : IsCommitOf book commit) (room : commit.texts < 2 ^ 64) (each : (b : ℕ) → b < book.buckets
    → AllByRecursion IsOffer (get_or book.lists b [])) where
  words : HasWords book.base
  words = subst HasWords (sym (is.is_book.none is.dropped).0) no_words

  pub its_entries : AllByRecursion IsJudgedEntry (entries_at 0 (judged book))
  its_entries =
      let long = ap (λ (l : List ℕ). length l) (book_texts book) in
      entries_form book.buckets 0 (judged book) is.is_book.buckets (book_offered book words (each_judged IsOffer book is.is_book each)) (omega (arith, long, of.texts, room))

  pub its_length : length (judged_entries 0 (judged book)) ≡ 48 * commit.judged
  its_length = let spelled = ap (λ (l : List ℕ). length l) (entries_spelled 0 (judged book)) in
      omega (arith, spelled, length-spellings (entries_at 0 (judged book)), length-entries 0 (judged book), of.judged)

-- ---- two books of one commit, of which the two files have the judged offers
module _ (settings : Settings) (x y : Book) (commit : Commit) (is_x : IsBookOf settings x) (is_y : IsBookOf settings y) (of_x : IsCommitOf x commit) (of_y : IsCommitOf y commit)
    (room : commit.texts < 2 ^ 64)
    (each_x : (b : ℕ) → b < x.buckets → AllByRecursion IsOffer (get_or x.lists b [])) (each_y : (b : ℕ) → b < y.buckets → AllByRecursion IsOffer (get_or y.lists b [])) where
  same_judged : (file texts : List ℕ) → BeginsWith file (judged_entries 0 (judged x)) → BeginsWith file (judged_entries 0 (judged y)) → BeginsWith texts (texts_of (judged_offers x))
      → BeginsWith texts (texts_of (judged_offers y)) → judged x ≡ judged y
  same_judged file texts for_x for_y texts_x texts_y =
      let bytes : judged_entries 0 (judged x) ≡ judged_entries 0 (judged y) =
      same_fronts file (judged_entries 0 (judged x)) (judged_entries 0 (judged y)) (its_length settings x commit is_x of_x room each_x
      ∙ sym (its_length settings y commit is_y of_y room each_y)) for_x for_y in
      let entries : entries_at 0 (judged x) ≡ entries_at 0 (judged y) =
      same_entries (entries_at 0 (judged x)) (entries_at 0 (judged y)) (its_entries settings x commit is_x of_x room each_x) (its_entries settings y commit is_y of_y room each_y)
      (sym (entries_spelled 0 (judged x)) ∙ bytes ∙ entries_spelled 0 (judged y)) in
      let front : texts_of (judged_offers x) ≡ texts_of (judged_offers y) = same_fronts texts (texts_of (judged_offers x)) (texts_of (judged_offers y)) (sym of_x.texts ∙ of_y.texts) texts_x texts_y in
      let behind : texts_behind (judged x) ≡ texts_behind (judged y) = sym (book_texts x) ∙ front ∙ book_texts y in
      sym (texts_back 0 (judged x)) ∙ ap (λ (es : List JudgedEntry). with_texts es (texts_behind (judged x))) entries ∙ ap (with_texts (entries_at 0 (judged y))) behind ∙ texts_back 0 (judged y)

  same_offers_judged : judged x ≡ judged y → judged_offers x ≡ judged_offers y
  same_offers_judged same = sym (offers_back x.buckets x.rule x.base (judged_offers x)) ∙ ap offers_of same ∙ offers_back y.buckets y.rule y.base (judged_offers y)

  -- a bucket's list begins with its judged offers
  same_begin : (b : ℕ) → b < x.buckets → b < y.buckets → judged_offers x ≡ judged_offers y → take (get_or commit.cut b 0) (get_or x.lists b []) ≡ take (get_or commit.cut b 0) (get_or y.lists b [])
  same_begin b in_x in_y same =
      let zero_x = first_zero settings x b is_x in_x in
      let zero_y = first_zero settings y b is_y in_y in
      let cut_x = ap (λ (l : List ℕ). get_or l b 0) of_x.cut in
      let cut_y = ap (λ (l : List ℕ). get_or l b 0) of_y.cut in
      let buckets : x.buckets ≡ y.buckets = is_x.buckets ∙ sym is_y.buckets in
      ap (λ (n : ℕ). take n (get_or x.lists b [])) (omega (arith, zero_x, cut_x)) ∙ sym (judged_here_are x b is_x.is_book in_x)
      ∙ ap (λ (n : ℕ). filter (here n b) (judged_offers x)) buckets ∙ ap (filter (here y.buckets b)) same
      ∙ judged_here_are y b is_y.is_book in_y ∙ ap (λ (n : ℕ). take n (get_or y.lists b [])) (omega (arith, zero_y, cut_y))

  -- so where the live offers are the same, the lists are
  same_list : (b : ℕ) → b < x.buckets → b < y.buckets → judged_offers x ≡ judged_offers y → live_offers x commit b ≡ live_offers y commit b → get_or x.lists b [] ≡ get_or y.lists b []
  same_list b in_x in_y same live = by_side commit.live refl
    where
      by_side : (side : Option ℕ) → commit.live ≡ side → get_or x.lists b [] ≡ get_or y.lists b []
      by_side None none =
          let from_x : get_or (starts x commit) b 0 ≡ 0 = ap (λ (l : List ℕ). get_or l b 0) (starts_none x commit none) ∙ first_zero settings x b is_x in_x in
          let from_y : get_or (starts y commit) b 0 ≡ 0 = ap (λ (l : List ℕ). get_or l b 0) (starts_none y commit none) ∙ first_zero settings y b is_y in_y in
          sym (live_is settings x commit b is_x in_x ∙ ap (λ (n : ℕ). drop n (get_or x.lists b [])) from_x) ∙ live ∙ live_is settings y commit b is_y in_y
          ∙ ap (λ (n : ℕ). drop n (get_or y.lists b [])) from_y
      by_side (Some side) some =
          let n : ℕ = get_or commit.cut b 0 in
          let from_x : live_offers x commit b ≡ drop n (get_or x.lists b []) = live_is settings x commit b is_x in_x
          ∙ ap (λ (l : List ℕ). drop (get_or l b 0) (get_or x.lists b [])) (starts_some x commit side some) in
          let from_y : live_offers y commit b ≡ drop n (get_or y.lists b []) = live_is settings y commit b is_y in_y
          ∙ ap (λ (l : List ℕ). drop (get_or l b 0) (get_or y.lists b [])) (starts_some y commit side some) in
          sym (take-append-drop n (get_or x.lists b []))
          ∙ ap (λ (l : List Tuple). l ++ drop n (get_or x.lists b [])) (same_begin b in_x in_y same)
          ∙ ap (λ (l : List Tuple). take n (get_or y.lists b []) ++ l) (sym from_x ∙ live ∙ from_y)
          ∙ take-append-drop n (get_or y.lists b [])

  pub same_lists_at : (file texts : List ℕ) (b : ℕ) → b < x.buckets → b < y.buckets → BeginsWith file (judged_entries 0 (judged x)) → BeginsWith file (judged_entries 0 (judged y))
      → BeginsWith texts (texts_of (judged_offers x)) → BeginsWith texts (texts_of (judged_offers y))
      → live_offers x commit b ≡ live_offers y commit b → get_or x.lists b [] ≡ get_or y.lists b []
  same_lists_at file texts b in_x in_y for_x for_y texts_x texts_y live = same_list b in_x in_y (same_offers_judged (same_judged file texts for_x for_y texts_x texts_y)) live
