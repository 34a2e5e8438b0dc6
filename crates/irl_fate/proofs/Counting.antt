-- How often a number stands in a list.
use Rattle.std.proofs.Common.{◌≡◌, ◌∙◌, ℕ, ◌+◌, List, [], ◌∷◌, ◌++◌, length, sym, ap, arith, refl, Bool, true, false, cond, not, inl, inr, subst}
use Rattle.std.specs.Prelude.{◌&&◌, ◌||◌, nat_eq}
use Rattle.std.specs.List.{filter}
use Rattle.std.proofs.lemmas.Bool.{cases_Bool, and_parts, or_parts, or_from, or_left, or_right, eq-eqb, ne_eqb, eqb-true, eqb-false, not-true, cond-true, cond-false, not_from_false, false≢true}
use Rattle.std.proofs.lemmas.List.Filters.{length-filter_both}
use Rattle.irl_events.specs.Events.{has_number}
use Rattle.irl_events.specs.Legal.{are_distinct}
use Rattle.irl_fate.specs.Kept.{count, one_if}

pub nat_eq_sym : (a b : ℕ) → nat_eq a b ≡ nat_eq b a
nat_eq_sym a b = elim (cases_Bool (nat_eq a b)) [
  | inl e ↦ e ∙ sym (eq-eqb b a (sym (eqb-true a b e)))
  | inr e ↦ e ∙ sym (ne_eqb b a (λ h. eqb-false a b e (sym h)))
]

pub not_or : (a b : Bool) → not (a || b) ≡ (not a && not b)
not_or true b = refl
not_or false b = refl

pub one_true : (b : Bool) → b ≡ true → one_if b ≡ 1
one_true b e = ap one_if e

pub one_false : (b : Bool) → b ≡ false → one_if b ≡ 0
one_false b e = ap one_if e

pub count_push : (n m : ℕ) (xs : List ℕ) → count n (xs ++ m ∷ []) ≡ count n xs + one_if (nat_eq m n)
count_push n m [] = omega arith
count_push n m (x ∷ xs) = omega (arith, count_push n m xs)

count_one : (m : ℕ) (xs : List ℕ) → length (filter (λ n. nat_eq n m) xs) ≡ count m xs
count_one m [] = refl
count_one m (x ∷ xs) = elim (cases_Bool (nat_eq x m)) [
  | inl e ↦
      let one : one_if (nat_eq x m) ≡ 1 = one_true (nat_eq x m) e in
      let longer : length (x ∷ filter (λ n. nat_eq n m) xs) ≡ 1 + count m xs = omega (arith, count_one m xs) in
      ap length (cond-true (nat_eq x m) (x ∷ filter (λ n. nat_eq n m) xs) (filter (λ n. nat_eq n m) xs) e) ∙ longer ∙ omega arith
  | inr e ↦
      let none : one_if (nat_eq x m) ≡ 0 = one_false (nat_eq x m) e in
      ap length (cond-false (nat_eq x m) (x ∷ filter (λ n. nat_eq n m) xs) (filter (λ n. nat_eq n m) xs) e) ∙ count_one m xs ∙ omega arith
]

pub absent_count : (xs : List ℕ) (n : ℕ) → has_number xs n ≡ false → count n xs ≡ 0
absent_count [] n h = refl
absent_count (x ∷ xs) n h =
    let parts = or_parts (nat_eq x n) (has_number xs n) h in
    let none : one_if (nat_eq x n) ≡ 0 = one_false (nat_eq x n) parts.0 in
    omega (arith, absent_count xs n parts.1)

pub zero_absent : (xs : List ℕ) (n : ℕ) → count n xs ≡ 0 → has_number xs n ≡ false
zero_absent [] n h = refl
zero_absent (x ∷ xs) n h = elim (cases_Bool (nat_eq x n)) [
  | inl here ↦ let one : one_if (nat_eq x n) ≡ 1 = one_true (nat_eq x n) here in absurd (omega arith)
  | inr other ↦
      let none : one_if (nat_eq x n) ≡ 0 = one_false (nat_eq x n) other in
      or_from (nat_eq x n) (has_number xs n) other (zero_absent xs n (omega arith))
]

-- a number stands in a list as often as a test says: once, or not at all
pub has_of_count : (xs : List ℕ) (n : ℕ) (b : Bool) → count n xs ≡ one_if b → has_number xs n ≡ b
has_of_count xs n true h = elim (cases_Bool (has_number xs n)) [
  | inl there ↦ there
  | inr none ↦ let zero_count = absent_count xs n none in absurd (omega arith)
]
has_of_count xs n false h = zero_absent xs n h

-- numbers that pass a test
pub count_filter : (p : ℕ → Bool) (xs : List ℕ) (n : ℕ) → count n (filter p xs) ≡ cond (p n) (count n xs) 0
count_filter p [] n = elim (cases_Bool (p n)) [ inl e ↦ sym (cond-true (p n) 0 0 e) | inr e ↦ sym (cond-false (p n) 0 0 e) ]
count_filter p (x ∷ xs) n = elim (cases_Bool (nat_eq x n)) [
  | inl here ↦
      let same : x ≡ n = eqb-true x n here in
      elim (cases_Bool (p x)) [
        | inl e ↦
            let at : p n ≡ true = subst (λ (k : ℕ). p k ≡ true) same e in
            ap (count n) (cond-true (p x) (x ∷ filter p xs) (filter p xs) e)
            ∙ ap (λ k. one_if (nat_eq x n) + k) (count_filter p xs n ∙ cond-true (p n) (count n xs) 0 at)
            ∙ sym (cond-true (p n) (count n (x ∷ xs)) 0 at)
        | inr e ↦
            let at : p n ≡ false = subst (λ (k : ℕ). p k ≡ false) same e in
            ap (count n) (cond-false (p x) (x ∷ filter p xs) (filter p xs) e)
            ∙ count_filter p xs n ∙ cond-false (p n) (count n xs) 0 at ∙ sym (cond-false (p n) (count n (x ∷ xs)) 0 at)
      ]
  | inr other ↦
      let none : one_if (nat_eq x n) ≡ 0 = one_false (nat_eq x n) other in
      let skipped : count n (x ∷ xs) ≡ count n xs = omega arith in
      let rest : count n (filter p xs) ≡ cond (p n) (count n (x ∷ xs)) 0 = count_filter p xs n ∙ ap (λ k. cond (p n) k 0) (sym skipped) in
      elim (cases_Bool (p x)) [
        | inl e ↦
            let longer : count n (x ∷ filter p xs) ≡ count n (filter p xs) = omega arith in
            ap (count n) (cond-true (p x) (x ∷ filter p xs) (filter p xs) e) ∙ longer ∙ rest
        | inr e ↦ ap (count n) (cond-false (p x) (x ∷ filter p xs) (filter p xs) e) ∙ rest
      ]
]

pub filter_all : (p : ℕ → Bool) (xs : List ℕ) → ((n : ℕ) → has_number xs n ≡ true → p n ≡ true) → filter p xs ≡ xs
filter_all p [] h = refl
filter_all p (x ∷ xs) h =
    let here : p x ≡ true = h x (or_left (nat_eq x x) (has_number xs x) (eq-eqb x x refl)) in
    cond-true (p x) (x ∷ filter p xs) (filter p xs) here
    ∙ ap (λ (t : List ℕ). x ∷ t) (filter_all p xs (λ n there. h n (or_right (nat_eq x n) (has_number xs n) there)))

pub filter_same : {X : Type 0} (p q : X → Bool) (xs : List X) → ((n : X) → p n ≡ q n) → filter p xs ≡ filter q xs
filter_same p q [] h = refl
filter_same {X = X} p q (x ∷ xs) h =
    ap (λ b. cond b (x ∷ filter p xs) (filter p xs)) (h x) ∙ ap (λ (t : List X). cond (q x) (x ∷ t) t) (filter_same p q xs h)

pub filter_both : {X : Type 0} (p q : X → Bool) (xs : List X) → filter p (filter q xs) ≡ filter (λ n. q n && p n) xs
filter_both p q [] = refl
filter_both {X = X} p q (x ∷ xs) = elim (cases_Bool (q x)) [
  | inl e ↦
      ap (filter p) (cond-true (q x) (x ∷ filter q xs) (filter q xs) e)
      ∙ ap (λ (t : List X). cond (p x) (x ∷ t) t) (filter_both p q xs)
      ∙ ap (λ b. cond (b && p x) (x ∷ filter (λ n. q n && p n) xs) (filter (λ n. q n && p n) xs)) (sym e)
  | inr e ↦
      ap (filter p) (cond-false (q x) (x ∷ filter q xs) (filter q xs) e)
      ∙ filter_both p q xs
      ∙ ap (λ b. cond (b && p x) (x ∷ filter (λ n. q n && p n) xs) (filter (λ n. q n && p n) xs)) (sym e)
]

-- a list without numbers that each stand once in it
pub length_without : (ns xs : List ℕ) → are_distinct ns ≡ true → ((n : ℕ) → has_number ns n ≡ true → count n xs ≡ 1) → length (filter (λ n. not (has_number ns n)) xs) + length ns ≡ length xs
length_without [] xs d h =
    let all : length (filter (λ n. not (has_number [] n)) xs) ≡ length xs = ap length (filter_all (λ n. not (has_number [] n)) xs (λ n there. refl)) in
    omega arith
length_without (m ∷ ns) xs d h =
    let parts = and_parts (not (has_number ns m)) (are_distinct ns) d in
    let apart : has_number ns m ≡ false = not-true (has_number ns m) parts.0 in
    let others : List ℕ = filter (λ n. not (nat_eq m n)) xs in
    let once : count m xs ≡ 1 = h m (or_left (nat_eq m m) (has_number ns m) (eq-eqb m m refl)) in
    let both : length (filter (λ n. nat_eq n m) xs) + length (filter (λ n. not (nat_eq n m)) xs) ≡ length xs = length-filter_both (λ n. nat_eq n m) (λ n. not (nat_eq n m)) (λ n. refl) xs in
    let one : length (filter (λ n. nat_eq n m) xs) ≡ count m xs = count_one m xs in
    let turned : filter (λ n. not (nat_eq n m)) xs ≡ others = filter_same (λ n. not (nat_eq n m)) (λ n. not (nat_eq m n)) xs (λ n. ap not (nat_eq_sym n m)) in
    let less : length others + 1 ≡ length xs = omega (arith, ap length turned) in
    let rest = length_without ns others parts.1 (λ n there.
    count_filter (λ k. not (nat_eq m k)) xs n
    ∙ cond-true (not (nat_eq m n)) (count n xs) 0 (not_from_false (nat_eq m n) (ne_eqb m n (λ e. false≢true (sym apart ∙ ap (has_number ns) e ∙ there))))
    ∙ h n (or_right (nat_eq m n) (has_number ns n) there)) in
    let split : filter (λ n. not (has_number (m ∷ ns) n)) xs ≡ filter (λ n. not (has_number ns n)) others =
    filter_same (λ n. not (has_number (m ∷ ns) n)) (λ n. not (nat_eq m n) && not (has_number ns n)) xs (λ n. not_or (nat_eq m n) (has_number ns n))
    ∙ sym (filter_both (λ n. not (has_number ns n)) (λ n. not (nat_eq m n)) xs) in
    omega (arith, ap length split)

pub count_append : (n : ℕ) (xs ys : List ℕ) → count n (xs ++ ys) ≡ count n xs + count n ys
count_append n [] ys = omega arith
count_append n (x ∷ xs) ys = omega (arith, count_append n xs ys)

-- a number among numbers that differ
pub count_distinct : (ns : List ℕ) (n : ℕ) → are_distinct ns ≡ true → has_number ns n ≡ true → count n ns ≡ 1
count_distinct [] n d h = absurd (false≢true h)
count_distinct (m ∷ ns) n d h =
    let parts = and_parts (not (has_number ns m)) (are_distinct ns) d in
    elim (cases_Bool (nat_eq m n)) [
      | inl e ↦
          let one : one_if (nat_eq m n) ≡ 1 = one_true (nat_eq m n) e in
          let none : count n ns ≡ 0 = absent_count ns n (ap (has_number ns) (sym (eqb-true m n e)) ∙ not-true (has_number ns m) parts.0) in
          omega arith
      | inr e ↦
          let none : one_if (nat_eq m n) ≡ 0 = one_false (nat_eq m n) e in
          let there : has_number ns n ≡ true = ap (λ b. b || has_number ns n) (sym e) ∙ h in
          omega (arith, count_distinct ns n parts.1 there)
    ]
