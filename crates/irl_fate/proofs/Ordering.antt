-- The front in rising order.
use Rattle.std.proofs.Common.{◌≡◌, ◌∙◌, ℕ, ◌+◌, ◌<◌, ◌≤◌, zero, suc, List, [], ◌∷◌, ◌++◌, length, get_or, take, drop, sym, ap, arith, refl, Bool, true, false, cond, inl, inr}
use Rattle.std.specs.Prelude.{◌&&◌, nat_eq, nat_le, nat_lt}
use Rattle.std.specs.List.{filter, sum_by}
use Rattle.std.specs.List.Sorted.{IsPermutation, IsSorted, IsNonDecreasingBy}
use Rattle.std.specs.Ordering.{nat_cmp}
use Rattle.std.proofs.lemmas.Bool.{cases_lt, and_parts, and_from, leb-true, le-leb, lt-ltb, eq-eqb, false≢true}
use Rattle.std.proofs.lemmas.List.{take_all, take-append-drop, take_more}
use Rattle.std.proofs.lemmas.List.Elements.{filter-append}
use Rattle.std.proofs.lemmas.List.Sorted.{sum_by-IsPermutation, IsNonDecreasingBy-from_sort}
use Rattle.std.proofs.lemmas.List.Sums.{sum_by-cons}
use Rattle.std.proofs.Math.Seq.{take-append_seam}
use Rattle.irl_events.specs.Events.{has_number}
use Rattle.irl_events.specs.Legal.{are_rising}
use Rattle.irl_fate.specs.declared.fate.Fate.{Fate}
use Rattle.irl_fate.specs.declared.fate.Fate.TheVariants.{Fresh}
use Rattle.irl_fate.specs.Kept.{fate_in, front_left, is_front, AreSorted}
use Rattle.irl_fate.specs.Standing.{count, one_if}
use Rattle.irl_fate.proofs.Counting.{count_filter, one_true}
use Rattle.irl_fate.proofs.Entering.{rising_from}
use Rattle.irl_fate.proofs.Entries.{rising_sorted}
use Rattle.irl_fate.proofs.Steps.{has_at}
use Rattle.irl_fate.proofs.Waiting.{present_count}

-- ---- the same numbers in another order
count_sum : (n : ℕ) (xs : List ℕ) → count n xs ≡ sum_by (λ m. one_if (nat_eq m n)) xs
count_sum n [] = refl
count_sum n (x ∷ xs) = ap (λ m. one_if (nat_eq x n) + m) (count_sum n xs) ∙ sym (sum_by-cons (λ m. one_if (nat_eq m n)) x xs)

pub count_sorted : (xs ys : List ℕ) → IsPermutation xs ys → (n : ℕ) → count n ys ≡ count n xs
count_sorted xs ys h n = count_sum n ys ∙ sum_by-IsPermutation (λ m. one_if (nat_eq m n)) xs ys h ∙ sym (count_sum n xs)

-- none falls below one before it
abbrev Ascend : List ℕ → Type 0
Ascend xs = (i j : ℕ) → i ≤ j → j < length xs → get_or xs i 0 ≤ get_or xs j 0

rising_by : (from to : ℕ) (xs : List ℕ) → Ascend xs → ((n : ℕ) → count n xs ≤ 1) → ((i : ℕ) → i < length xs → from ≤ get_or xs i 0) → ((i : ℕ) → i < length xs → get_or xs i 0 < to)
    → are_rising from to xs ≡ true
rising_by from to [] up once least most = refl
rising_by from to (x ∷ xs) up once least most =
    let low : from ≤ x = least 0 (omega arith) in
    let high : x < to = most 0 (omega arith) in
    let alone : one_if (nat_eq x x) + count x xs ≤ 1 = once x in
    let one : one_if (nat_eq x x) ≡ 1 = one_true (nat_eq x x) (eq-eqb x x refl) in
    and_from (nat_le from x && nat_lt x to) (are_rising (x + 1) to xs) (and_from (nat_le from x) (nat_lt x to) (le-leb from x low) (lt-ltb x to high))
    (rising_by (x + 1) to xs
    (λ i j le lt. up (suc i) (suc j) (omega arith) (omega arith))
    (λ n. let both : one_if (nat_eq x n) + count n xs ≤ 1 = once n in omega arith)
    (λ i lt.
    let above : x ≤ get_or xs i 0 = up 0 (suc i) (omega arith) (omega arith) in
    elim (cases_lt x (get_or xs i 0)) [
      | inl more ↦ omega arith
      | inr less ↦
          let same : get_or xs i 0 ≡ x = omega arith in
          let there : 1 ≤ count x xs = present_count xs x (ap (has_number xs) (sym same) ∙ has_at xs i lt) in
          absurd (omega arith)
    ])
    (λ i lt. most (suc i) (omega arith)))

pub sorted_rising : (to : ℕ) (xs : List ℕ) → IsSorted nat_cmp xs → ((n : ℕ) → count n xs ≤ 1) → ((n : ℕ) → has_number xs n ≡ true → n < to) → are_rising 0 to xs ≡ true
sorted_rising to xs sorted once most =
    let up : IsNonDecreasingBy (λ m. m) xs = IsNonDecreasingBy-from_sort (λ m. m) xs sorted in
    rising_by 0 to xs (λ i j le lt. up i j 0 le lt) once (λ i lt. omega arith) (λ i lt. most (get_or xs i 0) (has_at xs i lt))

pub rising_filter : (p : ℕ → Bool) (from to : ℕ) (xs : List ℕ) → are_rising from to xs ≡ true → are_rising from to (filter p xs) ≡ true
rising_filter p from to [] h = refl
rising_filter p from to (x ∷ xs) h =
    let parts = and_parts (nat_le from x && nat_lt x to) (are_rising (x + 1) to xs) h in
    let low : from ≤ x = leb-true from x (and_parts (nat_le from x) (nat_lt x to) parts.0).0 in
    let rest = rising_filter p (x + 1) to xs parts.1 in
    chosen (p x) low parts.0 rest
  where
    chosen : (b : Bool) → from ≤ x → (nat_le from x && nat_lt x to) ≡ true → are_rising (x + 1) to (filter p xs) ≡ true → are_rising from to (cond b (x ∷ filter p xs) (filter p xs)) ≡ true
    chosen true low here rest = and_from (nat_le from x && nat_lt x to) (are_rising (x + 1) to (filter p xs)) here rest
    chosen false low here rest = rising_from from (x + 1) to (filter p xs) rest (omega arith)

-- ---- the first of those that are left
pub left_more : (entries : List (ℕ × Fate)) (order : List ℕ) (i d : ℕ) → i < length order
    → front_left entries (take (i + 1) order) ≡ front_left entries (take i order) ++ cond (is_front (fate_in entries (get_or order i d))) (get_or order i d ∷ []) []
left_more entries order i d lt =
    ap (front_left entries) (take_more order i d lt) ∙ filter-append (λ n. is_front (fate_in entries n)) (take i order) (get_or order i d ∷ [])

pub left_whole : (entries : List (ℕ × Fate)) (order : List ℕ) (i : ℕ) → front_left entries order ≡ front_left entries (take i order) ++ front_left entries (drop i order)
left_whole entries order i =
    ap (front_left entries) (sym (take-append-drop i order)) ∙ filter-append (λ n. is_front (fate_in entries n)) (take i order) (drop i order)

pub first_part : (entries : List (ℕ × Fate)) (order first : List ℕ) (i most : ℕ) → first ≡ front_left entries (take i order) → length first ≡ most → first ≡ take most (front_left entries order)
first_part entries order first i most is full =
    sym (ap (λ n. take n (front_left entries order)) (sym full)
    ∙ ap (take (length first)) (left_whole entries order i ∙ ap (λ (t : List ℕ). t ++ front_left entries (drop i order)) (sym is))
    ∙ take-append_seam first (front_left entries (drop i order)))

pub first_all : (entries : List (ℕ × Fate)) (order first : List ℕ) (most : ℕ) → first ≡ front_left entries order → length first ≤ most → first ≡ take most (front_left entries order)
first_all entries order first most is le = sym (ap (take most) (sym is) ∙ take_all most first le)

-- none of the first so many is left
pub left_none : (entries : List (ℕ × Fate)) (order : List ℕ) (from : ℕ) → ((i : ℕ) → i < from → is_front (fate_in entries (get_or order i 0)) ≡ false)
    → front_left entries (drop from order) ≡ front_left entries order
left_none entries order zero h = refl
left_none entries [] (suc from) h = refl
left_none entries (n ∷ order) (suc from) h =
    left_none entries order from (λ i lt. h (suc i) (omega arith))
    ∙ sym (ap (λ b. cond b (n ∷ front_left entries order) (front_left entries order)) (h 0 (omega arith)))

-- those of the front that are left are counted alike in any order
pub left_alike : (entries : List (ℕ × Fate)) (xs ys : List ℕ) → ((n : ℕ) → count n xs ≡ count n ys) → (n : ℕ) → count n (front_left entries xs) ≡ count n (front_left entries ys)
left_alike entries xs ys h n =
    count_filter (λ m. is_front (fate_in entries m)) xs n ∙ ap (λ c. cond (is_front (fate_in entries n)) c 0) (h n)
    ∙ sym (count_filter (λ m. is_front (fate_in entries m)) ys n)

pub left_sorted : (entries : List (ℕ × Fate)) (order : List ℕ) (to : ℕ) → are_rising 0 to order ≡ true → AreSorted (front_left entries order)
left_sorted entries order to h =
    rising_sorted 0 to (front_left entries order) (rising_filter (λ m. is_front (fate_in entries m)) 0 to order h)

-- what is in the front is below the numbers that are fresh
pub in_front_below : (f : ℕ → Fate) (to n : ℕ) → ((m : ℕ) → to ≤ m → f m ≡ Fresh) → is_front (f n) ≡ true → n < to
in_front_below f to n fresh here = elim (cases_lt n to) [
  | inl lt ↦ lt
  | inr le ↦ absurd (false≢true (sym (ap is_front (fresh n le)) ∙ here))
]
