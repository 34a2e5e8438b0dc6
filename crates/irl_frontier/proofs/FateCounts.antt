-- How many numbers have each fate, by how long the lists are.
use Rattle.std.proofs.Common.{◌≡◌, ◌∙◌, ℕ, zero, suc, ◌+◌, ◌-◌, ◌≤◌, List, [], ◌∷◌, ◌++◌, length, cond, refl, sym, ap, arith, Bool, true, false, inl, inr, length-append}
use Rattle.std.specs.Prelude.{◌||◌, nat_eq}
use Rattle.std.specs.List.{filter}
use Rattle.std.proofs.lemmas.Bool.{cases_Bool, cond-true, cond-false, eq-eqb, ne_eqb}
use Rattle.std.proofs.lemmas.List.{length-map}
use Rattle.irl_offer.specs.declared.outcome.Outcome.{Outcome}
use Rattle.irl_base.specs.Lists.{list_at}
use Rattle.irl_events.specs.Events.{Progress, has_number}
use Rattle.irl_events.specs.Legal.{are_distinct}
use Rattle.irl_fate.specs.Counting.{count_fate, came_to, is_fresh, is_last, is_queued, kind_of}
use Rattle.irl_fate.specs.declared.fate.Fate.{Fate}
use Rattle.irl_fate.specs.declared.fate.Fate.TheVariants.{Fresh, Queue, Last, Front, Done}
use Rattle.irl_fate.specs.Fates.{fate_of, waits_from, done_by}
use Rattle.irl_fate.specs.Kept.{is_front, is_done}
use Rattle.irl_fate.specs.Standing.{count, count_all, is_placed, one_if, read_count, stands, total}
use Rattle.irl_fate.proofs.Counting.{absent_count, count_append, zero_absent}
use Rattle.irl_fate.proofs.Fresh.{done_only}
use Rattle.irl_fate.proofs.Marking.{numbers_done, done_absent}
use Rattle.irl_fate.proofs.Sums.{all_kinds, count_has, done_has, fate_more, front_has, list_long, one_most, waits_kind}
use Rattle.irl_fate.proofs.Waiting.{present_count}
use Rattle.irl_frontier.specs.Tallies.{tallied}

-- ---- lists
abbrev flat : List (List ℕ) → List ℕ
flat [] = []
flat (list ∷ lists) = list ++ flat lists

count-flat : (n : ℕ) (lists : List (List ℕ)) → count n (flat lists) ≡ count_all n lists
count-flat n [] = refl
count-flat n (list ∷ lists) = omega (arith, count_append n list (flat lists), count-flat n lists)

length-flat : (lists : List (List ℕ)) → length (flat lists) ≡ total lists
length-flat [] = refl
length-flat (list ∷ lists) = omega (arith, length-append list (flat lists), length-flat lists)

count_at : (n : ℕ) (lists : List (List ℕ)) (k : ℕ) → count n (list_at lists k) ≤ count_all n lists
count_at n [] k = omega arith
count_at n (list ∷ lists) zero = omega arith
count_at n (list ∷ lists) (suc k) = omega (arith, count_at n lists k)

-- ---- the last list
last_waits : (j k : ℕ) (lists : List (List ℕ)) (n : ℕ) (other : Fate) → k + j ≡ 64 → length lists ≡ suc j → count_all n lists ≤ 1 → is_last other ≡ false
    → is_last (waits_from k lists n other) ≡ has_number (list_at lists j) n
last_waits j k [] n other at long most none = absurd (omega arith)
last_waits zero k (list ∷ []) n other at long most none =
    let last : nat_eq k 64 ≡ true = eq-eqb k 64 (omega arith) in
    ap (λ (t : Bool). is_last (cond (has_number list n) (cond t Last (Queue (k + 1))) other)) last ∙ by_test (has_number list n)
  where
    by_test : (b : Bool) → is_last (cond b Last other) ≡ b
    by_test true = refl
    by_test false = none
last_waits zero k (list ∷ l ∷ lists) n other at long most none = absurd (omega arith)
last_waits (suc j) k (list ∷ lists) n other at long most none = elim (cases_Bool (has_number list n)) [
  | inl there ↦
      let some : 1 ≤ count n list = present_count list n there in
      let rest : count n (list_at lists j) ≡ 0 = omega (arith, count_at n lists j) in
      let queue : nat_eq k 64 ≡ false = ne_eqb k 64 (λ e. omega arith) in
      ap is_last (cond-true (has_number list n) (cond (nat_eq k 64) Last (Queue (k + 1))) (waits_from (k + 1) lists n other) there)
      ∙ ap (λ (t : Bool). is_last (cond t Last (Queue (k + 1)))) queue ∙ sym (zero_absent (list_at lists j) n rest)
  | inr absent ↦
      ap is_last (cond-false (has_number list n) (cond (nat_eq k 64) Last (Queue (k + 1))) (waits_from (k + 1) lists n other) absent)
      ∙ last_waits j (k + 1) lists n other (omega arith) (omega arith) (omega arith) none
]

done_not_last : (outcomes : List (ℕ × Outcome)) (n : ℕ) → is_last (done_by outcomes n Fresh) ≡ false
done_not_last [] n = refl
done_not_last (d ∷ outcomes) n = by_test (nat_eq d.0 n) (done_not_last outcomes n)
  where
    by_test : (b : Bool) → is_last (done_by outcomes n Fresh) ≡ false → is_last (cond b (Done d.1) (done_by outcomes n Fresh)) ≡ false
    by_test true rest = refl
    by_test false rest = rest

last_has : (x : Progress) (n : ℕ) → stands x n ≤ 1 → length x.waiting.lists ≡ 65 → is_last (fate_of x n) ≡ has_number (list_at x.waiting.lists 64) n
last_has x n most many = elim (cases_Bool (has_number x.front n)) [
  | inl there ↦
      let some : 1 ≤ count n x.front = present_count x.front n there in
      let none : count n (list_at x.waiting.lists 64) ≡ 0 = omega (arith, count_at n x.waiting.lists 64) in
      ap is_last (cond-true (has_number x.front n) Front (waits_from 0 x.waiting.lists n (done_by x.done n Fresh)) there)
      ∙ sym (zero_absent (list_at x.waiting.lists 64) n none)
  | inr absent ↦
      ap is_last (cond-false (has_number x.front n) Front (waits_from 0 x.waiting.lists n (done_by x.done n Fresh)) absent)
      ∙ last_waits 64 0 x.waiting.lists n (done_by x.done n Fresh) refl many (omega arith) (done_not_last x.done n)
]

-- ---- what is done, by its kind
module _ (o : Outcome) where
  abbrev of_kind : List (ℕ × Outcome) → List (ℕ × Outcome)
  of_kind done = filter (λ d. nat_eq (kind_of o) (kind_of d.1)) done

  count_kind : (n : ℕ) (done : List (ℕ × Outcome)) → count n (numbers_done (of_kind done)) ≤ count n (numbers_done done)
  count_kind n [] = omega arith
  count_kind n (d ∷ done) = by_test (nat_eq (kind_of o) (kind_of d.1)) (count_kind n done)
    where
      by_test : (b : Bool) → count n (numbers_done (of_kind done)) ≤ count n (numbers_done done)
          → count n (numbers_done (cond b (d ∷ of_kind done) (of_kind done))) ≤ one_if (nat_eq d.0 n) + count n (numbers_done done)
      by_test true rest = omega arith
      by_test false rest = omega arith

  kind_done : (done : List (ℕ × Outcome)) (n : ℕ) → count n (numbers_done done) ≤ 1 → came_to o (done_by done n Fresh) ≡ has_number (numbers_done (of_kind done)) n
  kind_done [] n most = refl
  kind_done (d ∷ done) n most = elim (cases_Bool (nat_eq d.0 n)) [
    | inl here ↦
        let one : one_if (nat_eq d.0 n) ≡ 1 = ap one_if here in
        let none : has_number (numbers_done (of_kind done)) n ≡ false = zero_absent (numbers_done (of_kind done)) n (omega (arith, count_kind n done)) in
        ap (came_to o) (cond-true (nat_eq d.0 n) (Done d.1) (done_by done n Fresh) here) ∙ at_kind (nat_eq (kind_of o) (kind_of d.1)) here none
    | inr other ↦
        ap (came_to o) (cond-false (nat_eq d.0 n) (Done d.1) (done_by done n Fresh) other) ∙ kind_done done n (omega arith) ∙ past_kind (nat_eq (kind_of o) (kind_of d.1)) other
  ]
    where
      at_kind : (b : Bool) → nat_eq d.0 n ≡ true → has_number (numbers_done (of_kind done)) n ≡ false → b ≡ has_number (numbers_done (cond b (d ∷ of_kind done) (of_kind done))) n
      at_kind true here none = sym (ap (λ (t : Bool). t || has_number (numbers_done (of_kind done)) n) here)
      at_kind false here none = sym none

      past_kind : (b : Bool) → nat_eq d.0 n ≡ false → has_number (numbers_done (of_kind done)) n ≡ has_number (numbers_done (cond b (d ∷ of_kind done) (of_kind done))) n
      past_kind true other = sym (ap (λ (t : Bool). t || has_number (numbers_done (of_kind done)) n) other)
      past_kind false other = refl

  kind_has : (x : Progress) (n : ℕ) → stands x n ≤ 1 → came_to o (fate_of x n) ≡ has_number (numbers_done (of_kind x.done)) n
  kind_has x n most = elim (cases_Bool (has_number (numbers_done x.done) n)) [
    | inl there ↦ ap (came_to o) (done_only x n most (present_count (numbers_done x.done) n there)) ∙ kind_done x.done n (omega arith)
    | inr none ↦
        let rest : came_to o (waits_from 0 x.waiting.lists n (done_by x.done n Fresh)) ≡ false =
        waits_kind (came_to o) 0 x.waiting.lists n (done_by x.done n Fresh) (λ i. refl) refl (ap (came_to o) (done_absent x.done n Fresh none)) in
        let absent : count n (numbers_done x.done) ≡ 0 = absent_count (numbers_done x.done) n none in
        by_test (has_number x.front n) rest ∙ sym (zero_absent (numbers_done (of_kind x.done)) n (omega (arith, count_kind n x.done)))
  ]
    where
      by_test : (b : Bool) → came_to o (waits_from 0 x.waiting.lists n (done_by x.done n Fresh)) ≡ false → came_to o (cond b Front (waits_from 0 x.waiting.lists n (done_by x.done n Fresh))) ≡ false
      by_test true rest = refl
      by_test false rest = rest

-- ---- fresh or not
placed_or_fresh : (v : Fate) → one_if (is_fresh v) + one_if (is_placed v) ≡ 1
placed_or_fresh Fresh = refl
placed_or_fresh (Queue i) = refl
placed_or_fresh Last = refl
placed_or_fresh Front = refl
placed_or_fresh (Done outcome) = refl

all_placed : (x : Progress) (ns : List ℕ) → count_fate is_fresh x ns + count_fate is_placed x ns ≡ length ns
all_placed x [] = refl
all_placed x (n ∷ ns) =
    omega (arith, placed_or_fresh (fate_of x n), all_placed x ns, fate_more is_fresh x n ns, fate_more is_placed x n ns)

placed_not_fresh : (v : Fate) → is_placed v ≡ true → v ≡ Fresh → ⊥
placed_not_fresh Fresh h e = cc
placed_not_fresh (Queue i) h e = cc
placed_not_fresh Last h e = cc
placed_not_fresh Front h e = cc
placed_not_fresh (Done outcome) h e = cc

module _ (x : Progress) (once : (n : ℕ) → stands x n ≡ one_if (is_placed (fate_of x n))) (many : length x.waiting.lists ≡ 65) (numbers : List ℕ) (apart : are_distinct numbers ≡ true)
    (among : (n : ℕ) → (fate_of x n ≡ Fresh → ⊥) → has_number numbers n ≡ true) where
  most_once : (n : ℕ) → stands x n ≤ 1
  most_once n = omega (arith, once n, one_most (is_placed (fate_of x n)))

  there : (n : ℕ) → 1 ≤ stands x n → has_number numbers n ≡ true
  there n least = among n (λ e. let none : stands x n ≡ 0 = once n ∙ ap (λ (v : Fate). one_if (is_placed v)) e in omega arith)

  -- a list has the numbers of a fate, each of which stands in it as often as anywhere at most
  counted : (p : Fate → Bool) (xs : List ℕ) → ((n : ℕ) → p (fate_of x n) ≡ has_number xs n) → ((n : ℕ) → count n xs ≤ stands x n) → count_fate p x numbers ≡ length xs
  counted p xs has within =
      list_long (λ n. p (fate_of x n)) xs numbers
      (λ n. count_has xs n (omega (arith, within n, most_once n)) ∙ ap one_if (sym (has n))) apart
      (λ n h. let some : 1 ≤ count n xs = present_count xs n (sym (has n) ∙ h) in there n (omega (arith, within n)))

  pub front_counted : count_fate is_front x numbers ≡ length x.front
  front_counted = counted is_front x.front (front_has x) (λ n. omega arith)

  pub last_counted : count_fate is_last x numbers ≡ length (list_at x.waiting.lists 64)
  last_counted = counted is_last (list_at x.waiting.lists 64) (λ n. last_has x n (most_once n) many) (λ n. omega (arith, count_at n x.waiting.lists 64))

  pub done_counted : count_fate is_done x numbers ≡ length x.done
  done_counted =
      counted is_done (numbers_done x.done) (λ n. done_has x n (most_once n)) (λ n. omega arith) ∙ length-map x.done (λ (d : ℕ × Outcome). d.0)

  pub kind_counted : (o : Outcome) → count_fate (came_to o) x numbers ≡ tallied (kind_of o) x.done
  kind_counted o =
      counted (came_to o) (numbers_done (of_kind o x.done)) (λ n. kind_has o x n (most_once n)) (λ n. omega (arith, count_kind o n x.done))
      ∙ length-map (of_kind o x.done) (λ (d : ℕ × Outcome). d.0)

  placed_counted : count_fate is_placed x numbers ≡ read_count x
  placed_counted =
      let all : List ℕ = x.front ++ (flat x.waiting.lists ++ numbers_done x.done) in
      let counts = λ (n : ℕ). (
      let here : count n all ≡ stands x n =
      omega (arith, count_append n x.front (flat x.waiting.lists ++ numbers_done x.done), count_append n (flat x.waiting.lists) (numbers_done x.done), count-flat n x.waiting.lists) in
      here ∙ once n) in
      list_long (λ n. is_placed (fate_of x n)) all numbers counts apart (λ n h. among n (placed_not_fresh (fate_of x n) h))
      ∙ omega (
        arith,
        length-append x.front (flat x.waiting.lists ++ numbers_done x.done),
        length-append (flat x.waiting.lists) (numbers_done x.done),
        length-flat x.waiting.lists,
        length-map x.done (λ (d : ℕ × Outcome). d.0),
      )

  pub fresh_counted : count_fate is_fresh x numbers ≡ length numbers - read_count x
  fresh_counted = omega (arith, all_placed x numbers, placed_counted)

  pub queued_counted : count_fate is_queued x numbers ≡ read_count x - length x.front - length (list_at x.waiting.lists 64) - length x.done
  queued_counted = omega (arith, all_placed x numbers, placed_counted, all_kinds x numbers, front_counted, last_counted, done_counted)
