-- How many offers were judged at the cuts of a book.
use Rattle.std.proofs.Common.{◌≡◌, ◌∙◌, inl, inr, ⊎_elim, Bool, true, false, Result, Ok, Err, nat_lt, ℕ, zero, suc, ◌+◌, ◌-◌, ◌≤◌, ◌<◌, List, [], ◌∷◌, length, get_or, refl, ap, arith}
use Rattle.std.specs.List.Sorted.{IsBinarySearchResult}
use Rattle.std.specs.Ordering.{nat_cmp}
use Rattle.std.specs.Result.{is_ok}
use Rattle.std.proofs.lemmas.Bool.{ltb-false, ltb-true}
use Rattle.std.proofs.lemmas.List.{get_or_past, length-append, take-take}
use Rattle.std.proofs.lemmas.List.Sorted.{searched}
use Rattle.irl_offer.specs.declared.settings.Settings.{Settings}
use Rattle.irl_model.specs.Book.{Book, IsBook, judged_offers, with_cuts}
use Rattle.irl_model.proofs.FrontLaws.{judged_offers_front}
use Rattle.irl_model.proofs.Merges.{earlier_book, earlier_front, length-judged}
use Rattle.irl_core.specs.States.{cut_count, judged_by}
use Rattle.irl_bay.specs.Cuts.{AreJudgedAt}
use Rattle.irl_bay.specs.Drum.{Drum, HasNumbers}
use Rattle.irl_bay.specs.Standing.{IsBookOf}
use Rattle.irl_ledger.specs.Opening.{AreRising, HasCount, HasCountAt}
use Rattle.irl_ledger.proofs.Reading.{none_gone}

-- ---- a book's counts
later_judged : (book : Book) (i j : ℕ) → IsBook book → i ≤ j → length (judged_offers (with_cuts i book)) ≤ length (judged_offers (with_cuts j book))
later_judged book i j is le =
    let more : Book = with_cuts j book in
    let is_more : IsBook more = earlier_book j book is in
    let h = judged_offers_front (with_cuts i more) more (earlier_book i more is_more) (earlier_front i more) in
    let same : length (judged_offers (with_cuts i more)) ≡ length (judged_offers (with_cuts i book)) =
    ap (λ (cs : List (List ℕ)). length (judged_offers (record book { cuts = cs }))) (take-take i j book.cuts le) in
    omega (arith, ap length h.1, length-append (judged_offers (with_cuts i more)) h.0, same)

-- they don't fall
pub counts_rise : (book : Book) (numbers : List ℕ) → IsBook book → AreJudgedAt book numbers → AreRising numbers
counts_rise book numbers is are i j le lt =
    let few : j < length book.cuts = omega (arith, lt, are.count) in
    let here = are.each i (omega (arith, le, few)) ∙ length-judged (with_cuts (i + 1) book) in
    let there = are.each j few ∙ length-judged (with_cuts (j + 1) book) in
    omega (arith, here, there, later_judged book (i + 1) (j + 1) is (omega (arith, le)))

-- that of a cut is among them
pub count_at : (settings : Settings) (book : Book) (numbers : List ℕ) (cut count : ℕ) → IsBookOf settings book → AreJudgedAt book numbers → cut ≤ cut_count book → count ≡ judged_by book cut
    → HasCountAt numbers cut count
count_at settings book numbers zero count is are le same =
    let none : 0 - book.dropped ≡ 0 = omega arith in
    let nothing : length (judged_offers (with_cuts (0 - book.dropped) book)) ≡ 0 = ap (λ (n : ℕ). length (judged_offers (with_cuts n book))) none in
    inl (refl, omega (arith, same, none_gone settings book is, nothing))
count_at settings book numbers (suc k) count is are le same =
    let from : suc k - book.dropped ≡ k + 1 = omega (arith, is.dropped) in
    let few : k < length book.cuts = omega (arith, le, is.dropped) in
    let offers : length (judged_offers (with_cuts (suc k - book.dropped) book)) ≡ length (judged_offers (with_cuts (k + 1) book)) = ap (λ (n : ℕ). length (judged_offers (with_cuts n book))) from in
    let here : get_or numbers k 0 ≡ length (judged_offers (with_cuts (k + 1) book)) = are.each k few ∙ length-judged (with_cuts (k + 1) book) in
    let back : suc k - 1 ≡ k = omega arith in
    let number : get_or numbers k 0 ≡ count = omega (arith, here, offers, same, none_gone settings book is) in
    inr (omega arith, omega (arith, few, are.count), ap (λ (n : ℕ). get_or numbers n 0) back ∙ number)

pub count_in : (settings : Settings) (book : Book) (numbers : List ℕ) (cut count : ℕ) → IsBookOf settings book → AreJudgedAt book numbers → cut ≤ cut_count book → count ≡ judged_by book cut
    → HasCount numbers count
count_in settings book numbers cut count is are le same = ⊎_elim
    (λ none. inl none.1)
    (λ (some : (0 < cut) × (cut ≤ length numbers) × (get_or numbers (cut - 1) 0 ≡ count)). inr (cut - 1, omega (arith, some.0, some.1), some.2))
    (count_at settings book numbers cut count is are le same)

-- and an open bay counts no fewer
pub count_within : (drum : Drum) (book : Book) (cut count : ℕ) → IsBookOf drum.settings book → HasNumbers drum book → cut ≤ cut_count book → count ≡ judged_by book cut → (cut ≤ drum.cuts)
    × (count ≤ drum.last.judged)
count_within drum book cut count is numbers le same =
    let k = cut - book.dropped in
    let h = judged_offers_front (with_cuts k book) book (earlier_book k book is.is_book) (earlier_front k book) in (
      omega (arith, le, numbers.cuts),
      omega (arith, same, none_gone drum.settings book is, ap length h.1, length-append (judged_offers (with_cuts k book)) h.0, length-judged book, numbers.commit.judged),
    )

-- ---- searching
pub search_finds : (numbers : List ℕ) (n : ℕ) (r : Result ℕ ℕ) → IsBinarySearchResult (λ y. nat_cmp y n) numbers r → (n ≡ 0 → ⊥) → HasCount numbers n → AreRising numbers → is_ok r ≡ true
search_finds numbers n (Ok i) searches some has rising = refl
search_finds numbers n (Err i) searches some has rising =
    let none = searched numbers n (Err i) searches rising in
    ⊎_elim (λ zero_is. absurd (some zero_is))
    (λ (there : (k : ℕ) × (k < length numbers) × (get_or numbers k 0 ≡ n)). nowhere there.0 there.1 there.2 none.1 none.2)
    has
  where
    refused : Result ℕ ℕ
    refused = Err i

    nowhere : (k : ℕ) → k < length numbers → get_or numbers k 0 ≡ n → ((j : ℕ) → j < i → get_or numbers j 0 < n) → ((j : ℕ) → i ≤ j → j < length numbers → n < get_or numbers j 0)
        → is_ok refused ≡ true
    nowhere k lt is below above = by (nat_lt k i) refl
      where
        by : (b : Bool) → nat_lt k i ≡ b → is_ok refused ≡ true
        by true e = let before : k < i = ltb-true k i e in absurd (omega (arith, below k before, is))
        by false e = let behind : i ≤ k = ltb-false k i e in absurd (omega (arith, above k behind lt, is))

-- what is found is there, in whatever order they stand
one_rises : (y : ℕ) → AreRising (y ∷ [])
one_rises y zero zero le lt = omega (arith, le)
one_rises y (suc i) zero le lt = absurd (omega (arith, le))
one_rises y i (suc j) le lt = absurd (omega (arith, lt))

pub search_found : (numbers : List ℕ) (n : ℕ) (r : Result ℕ ℕ) → IsBinarySearchResult (λ y. nat_cmp y n) numbers r → is_ok r ≡ true → HasCount numbers n
search_found numbers n (Err i) searches ok = absurd (cc)
search_found numbers n (Ok i) searches ok =
    let same : (d : ℕ) → get_or numbers i d ≡ n = λ d. (searched (get_or numbers i d ∷ []) n (Ok 0) (λ e. searches d) (one_rises (get_or numbers i d))).1 in
    inr (i, within same (nat_lt i (length numbers)) refl, same 0)
  where
    within : ((d : ℕ) → get_or numbers i d ≡ n) → (b : Bool) → nat_lt i (length numbers) ≡ b → i < length numbers
    within same true e = ltb-true i (length numbers) e
    within same false e = let le : length numbers ≤ i = ltb-false i (length numbers) e in absurd (omega (arith, same (n + 1), get_or_past numbers i (n + 1) le))
