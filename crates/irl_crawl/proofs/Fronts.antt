-- The first numbers of a front, in whatever order: as many as there are, each of the front, and none twice.
use Rattle.std.proofs.Common.{◌≡◌, ◌∙◌, ℕ, zero, suc, ◌+◌, ◌<◌, ◌≤◌, true, not, inl, inr, List, [], ◌∷◌, ◌++◌, length, length-append, get_or, take, refl, sym, ap, arith}
use Rattle.std.specs.Prelude.{min, nat_eq}
use Rattle.std.specs.List.{AllByRecursion}
use Rattle.std.specs.List.Sorted.{IsPermutation}
use Rattle.std.proofs.lemmas.Bool.{and_from, cases_Bool, eq-eqb, eqb-true, not_from_false, or_left, or_right}
use Rattle.std.proofs.lemmas.List.{length-take}
use Rattle.std.proofs.lemmas.List.Sorted.{length_permutation}
use Rattle.irl_events.specs.Events.{has_number}
use Rattle.irl_events.specs.Legal.{are_distinct}
use Rattle.irl_fate.specs.Fronts.{AreFirst}
use Rattle.irl_fate.specs.Kept.{AreSorted, count, one_if}
use Rattle.irl_fate.proofs.Counting.{count_append, has_of_count, one_false, one_true, zero_absent}
use Rattle.irl_fate.proofs.Ordering.{count_sorted}
use Rattle.irl_fate.proofs.Waiting.{present_count}

-- ---- numbers that rise
none_below : (x : ℕ) (xs : List ℕ) → ((i : ℕ) → i < length xs → x < get_or xs i 0) → count x xs ≡ 0
none_below x [] above = refl
none_below x (y ∷ xs) above = elim (cases_Bool (nat_eq y x)) [
  | inl here ↦ let first = above 0 (omega arith) in let same : y ≡ x = eqb-true y x here in absurd (omega arith)
  | inr other ↦
      let none : one_if (nat_eq y x) ≡ 0 = one_false (nat_eq y x) other in
      let rest = none_below x xs (λ i lt. above (suc i) (omega arith)) in
      omega arith
]

rising_once : (xs : List ℕ) → AreSorted xs → (n : ℕ) → count n xs ≤ 1
rising_once [] rising n = omega arith
rising_once (x ∷ xs) rising n =
    let rest : count n xs ≤ 1 = rising_once xs (λ i j lt within. rising (suc i) (suc j) (omega arith) (omega arith)) n in
    elim (cases_Bool (nat_eq x n)) [
      | inl here ↦
          let one : one_if (nat_eq x n) ≡ 1 = one_true (nat_eq x n) here in
          let none : count x xs ≡ 0 = none_below x xs (λ i lt. rising 0 (suc i) (omega arith) (omega arith)) in
          let same : count n xs ≡ count x xs = ap (λ (k : ℕ). count k xs) (sym (eqb-true x n here)) in
          omega arith
      | inr other ↦ let none : one_if (nat_eq x n) ≡ 0 = one_false (nat_eq x n) other in omega arith
    ]

count_take : (n k : ℕ) (xs : List ℕ) → count n (take k xs) ≤ count n xs
count_take n zero xs = omega arith
count_take n (suc k) [] = omega arith
count_take n (suc k) (x ∷ xs) = let rest = count_take n k xs in omega arith

-- ---- numbers that stand once
distinct_once : (xs : List ℕ) → ((n : ℕ) → count n xs ≤ 1) → are_distinct xs ≡ true
distinct_once [] once = refl
distinct_once (x ∷ xs) once =
    let alone : one_if (nat_eq x x) + count x xs ≤ 1 = once x in
    let one : one_if (nat_eq x x) ≡ 1 = one_true (nat_eq x x) (eq-eqb x x refl) in
    and_from (not (has_number xs x)) (are_distinct xs) (not_from_false (has_number xs x) (zero_absent xs x (omega arith)))
    (distinct_once xs (λ n. let both : one_if (nat_eq x n) + count n xs ≤ 1 = once n in omega arith))

each_of : (front xs : List ℕ) → ((n : ℕ) → has_number xs n ≡ true → has_number front n ≡ true) → AllByRecursion (λ n. has_number front n ≡ true) xs
each_of front [] has = tt
each_of front (x ∷ xs) has =
    (has x (or_left (nat_eq x x) (has_number xs x) (eq-eqb x x refl)), each_of front xs (λ n there. has n (or_right (nat_eq x n) (has_number xs n) there)))

-- ---- lists with as many of each number
pub record Splits (x : ℕ) (xs : List ℕ) : Type 0 where
  pub before : List ℕ
  pub behind : List ℕ
  pub are : xs ≡ before ++ x ∷ behind

split_at : (x : ℕ) (xs : List ℕ) → 1 ≤ count x xs → Splits x xs
split_at x [] some = absurd (omega arith)
split_at x (y ∷ xs) some = elim (cases_Bool (nat_eq y x)) [
  | inl here ↦ record { before = []; behind = xs; are = ap (λ (n : ℕ). n ∷ xs) (eqb-true y x here) }
  | inr other ↦
      let none : one_if (nat_eq y x) ≡ 0 = one_false (nat_eq y x) other in
      let rest = split_at x xs (omega arith) in
      record { before = y ∷ rest.before; behind = rest.behind; are = ap (λ (l : List ℕ). y ∷ l) rest.are }
]

as_long : (xs ys : List ℕ) → ((n : ℕ) → count n ys ≡ count n xs) → length ys ≡ length xs
as_long [] [] same = refl
as_long [] (y ∷ ys) same =
    let one : one_if (nat_eq y y) ≡ 1 = one_true (nat_eq y y) (eq-eqb y y refl) in
    let none : one_if (nat_eq y y) + count y ys ≡ 0 = same y in
    absurd (omega arith)
as_long (x ∷ xs) ys same =
    let one : one_if (nat_eq x x) ≡ 1 = one_true (nat_eq x x) (eq-eqb x x refl) in
    let first : count x ys ≡ one_if (nat_eq x x) + count x xs = same x in
    let split = split_at x ys (omega arith) in
    let rest = as_long xs (split.before ++ split.behind) (λ n.
    let here : count n ys ≡ one_if (nat_eq x n) + count n xs = same n in
    let whole = ap (count n) split.are ∙ count_append n split.before (x ∷ split.behind) in
    let parts = count_append n split.before split.behind in
    omega (arith, here, whole, parts)) in
    let long = ap length split.are in
    omega (arith, rest, long, length-append split.before (x ∷ split.behind), length-append split.before split.behind)

-- ---- the whole
pub record AreTaken (front : List ℕ) (most : ℕ) (numbers : List ℕ) : Type 0 where
  pub count : length numbers ≡ min most (length front)
  pub each : AllByRecursion (λ n. has_number front n ≡ true) numbers
  pub once : are_distinct numbers ≡ true

pub taken_of_front : (front : List ℕ) (most : ℕ) (first numbers : List ℕ) → AreFirst front most first → IsPermutation numbers first → AreTaken front most numbers
taken_of_front front most first numbers are turned =
    let long = length_permutation numbers first turned in
    let short = ap length are.first ∙ length-take most are.all in
    let all : length are.all ≡ length front = as_long front are.all are.same in
    record {
      count = omega (arith, long, short, all);
      each = each_of front numbers (λ n there. has_of_count front n true (let some : 1 ≤ count n numbers = present_count numbers n there in let least = few n in let one = once n in omega arith));
      once = distinct_once numbers (λ n. let least = few n in let one = once n in omega arith);
    }
  where
    few : (n : ℕ) → count n numbers ≤ count n front
    few n = omega (arith, count_sorted numbers first turned n, ap (count n) are.first, count_take n most are.all, are.same n)

    once : (n : ℕ) → count n front ≤ 1
    once n = omega (arith, rising_once are.all are.rising n, are.same n)
