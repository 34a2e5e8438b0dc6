-- The numbers of URLs: each is told once, and those of a merge are above all before.
use Rattle.std.proofs.Common.{◌≡◌, ◌∙◌, ℕ, ◌+◌, ◌<◌, ◌≤◌, List, [], ◌∷◌, ◌++◌, map, length, sym, ap, arith, refl, Bool, true, false, cond, inl, inr}
use Rattle.std.specs.Prelude.{◌||◌, nat_eq, nat_le}
use Rattle.std.specs.List.{filter, enumerate_from}
use Rattle.std.proofs.lemmas.Bool.{cases_Bool, cases_lt, or_left, eqb-true, ne_eqb, lt-leb, le-leb, cond-true, cond-false}
use Rattle.std.proofs.lemmas.List.{map-append}
use Rattle.irl_offer.specs.Tuple.{Tuple}
use Rattle.irl_offer.specs.declared.receipt.Judged.{Judged}
use Rattle.irl_model.specs.Book.{Book, gone, judged, judged_next, uniques, uniques_from, is_unique, merged}
use Rattle.irl_events.specs.Events.{has_number}
use Rattle.irl_model.proofs.Merges.{merged_uniques}
use Rattle.irl_fate.specs.Standing.{count, one_if}
use Rattle.irl_fate.proofs.Counting.{one_true, one_false, count_append, count_filter}

-- the numbers of those that were judged Unique, where a list begins at a number
abbrev pub told : ℕ → List Judged → List ℕ
told k js = map (λ p. p.0) (uniques_from k js)

told_more : (k : ℕ) (j : Judged) (js : List Judged) → told k (j ∷ js) ≡ cond (is_unique j.verdict) (k ∷ told (k + 1) js) (told (k + 1) js)
told_more k j js = by_test (is_unique j.verdict)
  where
    by_test : (b : Bool) → map (λ (p : ℕ × Tuple). p.0) (map (λ (p : ℕ × Judged). (p.0, p.1.offer))
        (cond b ((k, j) ∷ filter (λ p. is_unique p.1.verdict) (enumerate_from (k + 1) js)) (filter (λ p. is_unique p.1.verdict) (enumerate_from (k + 1) js))))
        ≡ cond b (k ∷ told (k + 1) js) (told (k + 1) js)
    by_test true = refl
    by_test false = refl

other_count : (n k : ℕ) (ns : List ℕ) (b : Bool) → (k ≡ n → ⊥) → count n ns ≡ 0 → count n (cond b (k ∷ ns) ns) ≡ 0
other_count n k ns true other none =
    let zero_count : one_if (nat_eq k n) ≡ 0 = one_false (nat_eq k n) (ne_eqb k n other) in
    omega arith
other_count n k ns false other none = none

-- none is below the first, and none is past the end
pub told_below : (n k : ℕ) (js : List Judged) → n < k → count n (told k js) ≡ 0
told_below n k [] lt = refl
told_below n k (j ∷ js) lt =
    ap (count n) (told_more k j js)
    ∙ other_count n k (told (k + 1) js) (is_unique j.verdict) (λ e. omega arith) (told_below n (k + 1) js (omega arith))

pub told_above : (n k : ℕ) (js : List Judged) → k + length js ≤ n → count n (told k js) ≡ 0
told_above n k [] le = refl
told_above n k (j ∷ js) le =
    ap (count n) (told_more k j js)
    ∙ other_count n k (told (k + 1) js) (is_unique j.verdict) (λ e. omega arith) (told_above n (k + 1) js (omega arith))

first_once : (n k : ℕ) (ns : List ℕ) (b : Bool) → (n < k + 1 → count n ns ≡ 0) → count n ns ≡ one_if (has_number ns n) → count n (cond b (k ∷ ns) ns) ≡ one_if (has_number (cond b (k ∷ ns) ns) n)
first_once n k ns true below once = elim (cases_Bool (nat_eq k n)) [
  | inl here ↦
      let same : k ≡ n = eqb-true k n here in
      let one : one_if (nat_eq k n) ≡ 1 = one_true (nat_eq k n) here in
      let none : count n ns ≡ 0 = below (omega arith) in
      let there : one_if (has_number (k ∷ ns) n) ≡ 1 = one_true (has_number (k ∷ ns) n) (or_left (nat_eq k n) (has_number ns n) here) in
      omega arith
  | inr other ↦
      let none : one_if (nat_eq k n) ≡ 0 = one_false (nat_eq k n) other in
      let there : one_if (has_number (k ∷ ns) n) ≡ one_if (has_number ns n) = ap (λ b. one_if (b || has_number ns n)) other in
      omega arith
]
first_once n k ns false below once = once

-- each stands once
pub told_once : (n k : ℕ) (js : List Judged) → count n (told k js) ≡ one_if (has_number (told k js) n)
told_once n k [] = refl
told_once n k (j ∷ js) =
    ap (count n) (told_more k j js)
    ∙ first_once n k (told (k + 1) js) (is_unique j.verdict) (λ lt. told_below n (k + 1) js lt) (told_once n (k + 1) js)
    ∙ ap (λ (ns : List ℕ). one_if (has_number ns n)) (sym (told_more k j js))

-- the numbers of a book's URLs, and of those of them that aren't below one
abbrev pub numbers_in : Book → List ℕ
numbers_in book = map (λ p. p.0) (uniques book)

abbrev pub from_on : ℕ → List ℕ → List ℕ
from_on least numbers = filter (λ n. nat_le least n) numbers

pub merged_numbers : (book : Book) → numbers_in (merged book) ≡ numbers_in book ++ told (gone book + length (judged book)) (judged_next book)
merged_numbers book =
    ap (map (λ (p : ℕ × Tuple). p.0)) (merged_uniques book)
    ∙ map-append (λ (p : ℕ × Tuple). p.0) (uniques book) (uniques_from (gone book + length (judged book)) (judged_next book))

pub count_from : (n least : ℕ) (numbers : List ℕ) → least ≤ n → count n (from_on least numbers) ≡ count n numbers
count_from n least numbers le = count_filter (λ m. nat_le least m) numbers n ∙ cond-true (nat_le least n) (count n numbers) 0 (le-leb least n le)

pub count_before : (n least : ℕ) (numbers : List ℕ) → n < least → count n (from_on least numbers) ≡ 0
count_before n least numbers lt = count_filter (λ m. nat_le least m) numbers n ∙ cond-false (nat_le least n) (count n numbers) 0 (lt-leb least n lt)

-- none of a book's URLs has the number of an offer that isn't judged
pub count_all_read : (n : ℕ) (book : Book) → count n (from_on (gone book + length (judged book)) (numbers_in book)) ≡ 0
count_all_read n book = elim (cases_lt n (gone book + length (judged book))) [
  | inl lt ↦ count_before n (gone book + length (judged book)) (numbers_in book) lt
  | inr le ↦
      count_from n (gone book + length (judged book)) (numbers_in book) le ∙ told_above n (gone book) (judged book) le
]

-- after a merge each new number is one that no pass has read
pub merged_unread : (n least : ℕ) (book : Book) → least ≤ gone book + length (judged book)
    → count n (from_on least (numbers_in (merged book))) + count n (numbers_in book) ≡ count n (from_on least (numbers_in book)) + count n (numbers_in (merged book))
merged_unread n least book le =
    let more = told (gone book + length (judged book)) (judged_next book) in
    let all : count n (numbers_in (merged book)) ≡ count n (numbers_in book) + count n more = ap (count n) (merged_numbers book) ∙ count_append n (numbers_in book) more in
    elim (cases_lt n least) [
      | inl lt ↦
          let new : count n (from_on least (numbers_in (merged book))) ≡ 0 = count_before n least (numbers_in (merged book)) lt in
          let old : count n (from_on least (numbers_in book)) ≡ 0 = count_before n least (numbers_in book) lt in
          let none : count n more ≡ 0 = told_below n (gone book + length (judged book)) (judged_next book) (omega arith) in
          omega arith
      | inr above ↦
          let new : count n (from_on least (numbers_in (merged book))) ≡ count n (numbers_in (merged book)) = count_from n least (numbers_in (merged book)) above in
          let old : count n (from_on least (numbers_in book)) ≡ count n (numbers_in book) = count_from n least (numbers_in book) above in
          omega arith
    ]
