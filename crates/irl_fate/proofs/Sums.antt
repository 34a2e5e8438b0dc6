-- Counts by fate add up.
use Rattle.std.proofs.Common.{◌≡◌, ◌∙◌, ℕ, ◌+◌, ◌≤◌, List, [], ◌∷◌, length, sym, ap, arith, refl, Bool, true, false, cond, not, inl, inr}
use Rattle.std.specs.Prelude.{◌&&◌, nat_eq}
use Rattle.std.specs.List.{filter}
use Rattle.std.proofs.lemmas.Bool.{cases_Bool, or_left, or_right, eq-eqb, cond-true, cond-false, false≢true, not_from_true}
use Rattle.std.proofs.lemmas.List.{length-map}
use Rattle.irl_offer.specs.declared.outcome.Outcome.{Outcome}
use Rattle.irl_offer.specs.declared.outcome.Outcome.TheVariants.{Page, Moved, Status, Denied, Shut, Lost, Bad, Large, Coded}
use Rattle.irl_events.specs.Events.{Happened, Progress, has_number, progress}
use Rattle.irl_events.specs.Legal.{are_distinct}
use Rattle.irl_fate.specs.Counting.{CountFates, count_fate, are_alike, came_to, is_fresh, is_queued, is_last}
use Rattle.irl_fate.specs.declared.counts.Counts.{Counts}
use Rattle.irl_fate.specs.declared.fate.Fate.{Fate}
use Rattle.irl_fate.specs.declared.fate.Fate.TheVariants.{Fresh, Queue, Last, Front, Done}
use Rattle.irl_fate.specs.Fates.{fate_of, waits_from, done_by}
use Rattle.irl_fate.specs.Kept.{is_front, is_done}
use Rattle.irl_fate.specs.Reads.{was_read, IsCrawl}
use Rattle.irl_fate.specs.Standing.{count, one_if, stands}
use Rattle.irl_fate.proofs.Counting.{one_true, absent_count, count_filter, count_distinct, has_of_count, length_without}
use Rattle.irl_fate.proofs.Crawls.{crawl_once}
use Rattle.irl_fate.proofs.Fresh.{done_only}
use Rattle.irl_fate.proofs.Marking.{numbers_done, done_absent}
use Rattle.irl_fate.proofs.Settling.{came_of}
use Rattle.irl_fate.proofs.Waiting.{present_count}

one_more : (t : ℕ → Bool) (n : ℕ) (ns : List ℕ) → length (filter t (n ∷ ns)) ≡ one_if (t n) + length (filter t ns)
one_more t n ns = by_test (t n)
  where
    by_test : (b : Bool) → length (cond b (n ∷ filter t ns) (filter t ns)) ≡ one_if b + length (filter t ns)
    by_test true = omega arith
    by_test false = omega arith

pub fate_more : (test : Fate → Bool) (x : Progress) (n : ℕ) (ns : List ℕ) → count_fate test x (n ∷ ns) ≡ one_if (test (fate_of x n)) + count_fate test x ns
fate_more test x n ns = one_more (λ m. test (fate_of x m)) n ns

kinds : (v : Fate) → one_if (is_fresh v) + one_if (is_queued v) + one_if (is_last v) + one_if (is_front v) + one_if (is_done v) ≡ 1
kinds Fresh = refl
kinds (Queue i) = refl
kinds Last = refl
kinds Front = refl
kinds (Done outcome) = refl

pub all_kinds : (x : Progress) (ns : List ℕ) → count_fate is_fresh x ns + count_fate is_queued x ns + count_fate is_last x ns + count_fate is_front x ns + count_fate is_done x ns ≡ length ns
all_kinds x [] = refl
all_kinds x (n ∷ ns) =
    omega (arith, kinds (fate_of x n), all_kinds x ns, fate_more is_fresh x n ns, fate_more is_queued x n ns, fate_more is_last x n ns, fate_more is_front x n ns, fate_more is_done x n ns)

outcomes_of : (o : Outcome) → one_if (are_alike Page o) + one_if (are_alike Moved o) + one_if (are_alike (Status 0) o) + one_if (are_alike (Denied 0) o) + one_if (are_alike Shut o) + one_if
    (are_alike Lost o) + one_if (are_alike Bad o) + one_if (are_alike Large o) + one_if (are_alike Coded o) ≡ 1
outcomes_of Page = refl
outcomes_of Moved = refl
outcomes_of (Status n) = refl
outcomes_of (Denied n) = refl
outcomes_of Shut = refl
outcomes_of Lost = refl
outcomes_of Bad = refl
outcomes_of Large = refl
outcomes_of Coded = refl

outcome_kinds : (v : Fate) → one_if (came_to Page v) + one_if (came_to Moved v) + one_if (came_to (Status 0) v) + one_if (came_to (Denied 0) v) + one_if (came_to Shut v) + one_if
    (came_to Lost v) + one_if (came_to Bad v) + one_if (came_to Large v) + one_if (came_to Coded v) ≡ one_if (is_done v)
outcome_kinds Fresh = refl
outcome_kinds (Queue i) = refl
outcome_kinds Last = refl
outcome_kinds Front = refl
outcome_kinds (Done o) = outcomes_of o

all_outcomes : (x : Progress) (ns : List ℕ) → count_fate (came_to Page) x ns + count_fate (came_to Moved) x ns + count_fate (came_to (Status 0)) x ns + count_fate (came_to (Denied 0)) x
    ns + count_fate (came_to Shut) x ns + count_fate (came_to Lost) x ns + count_fate (came_to Bad) x ns + count_fate (came_to Large) x ns + count_fate (came_to Coded) x ns ≡ count_fate is_done x ns
all_outcomes x [] = refl
all_outcomes x (n ∷ ns) =
    omega (
      arith,
      outcome_kinds (fate_of x n),
      all_outcomes x ns,
      fate_more (came_to Page) x n ns,
      fate_more (came_to Moved) x n ns,
      fate_more (came_to (Status 0)) x n ns,
      fate_more (came_to (Denied 0)) x n ns,
      fate_more (came_to Shut) x n ns,
      fate_more (came_to Lost) x n ns,
      fate_more (came_to Bad) x n ns,
      fate_more (came_to Large) x n ns,
      fate_more (came_to Coded) x n ns,
      fate_more is_done x n ns,
    )

pub fates_add_up : (counts : Counts) (x : Progress) (numbers : List ℕ) → CountFates counts x numbers → counts.fresh + counts.queued + counts.last + counts.front + counts.done ≡ counts.unique
fates_add_up counts x numbers is = omega (arith, is.unique, is.fresh, is.queued, is.last, is.front, is.done, all_kinds x numbers)

pub outcomes_add_up : (counts : Counts) (x : Progress) (numbers : List ℕ) → CountFates counts x numbers
    → counts.page + counts.moved + counts.status + counts.denied + counts.shut + counts.lost + counts.bad + counts.large + counts.coded ≡ counts.done
outcomes_add_up counts x numbers is = omega (arith, is.page, is.moved, is.status, is.denied, is.shut, is.lost, is.bad, is.large, is.coded, is.done, all_outcomes x numbers)

-- ---- lists
none_of : (p : ℕ → Bool) (ns : List ℕ) → ((n : ℕ) → has_number ns n ≡ true → p n ≡ false) → length (filter p ns) ≡ 0
none_of p [] h = refl
none_of p (m ∷ ns) h =
    ap length (cond-false (p m) (m ∷ filter p ns) (filter p ns) (h m (or_left (nat_eq m m) (has_number ns m) (eq-eqb m m refl))))
    ∙ none_of p ns (λ n there. h n (or_right (nat_eq m n) (has_number ns n) there))

distinct_of : (xs : List ℕ) → ((n : ℕ) → count n xs ≤ 1) → are_distinct xs ≡ true
distinct_of [] once = refl
distinct_of (x ∷ xs) once =
    let here : one_if (nat_eq x x) ≡ 1 = one_true (nat_eq x x) (eq-eqb x x refl) in
    let all : one_if (nat_eq x x) + count x xs ≤ 1 = once x in
    let none : has_number xs x ≡ false = has_of_count xs x false (omega arith) in
    ap (λ (b : Bool). not b && are_distinct xs) none
    ∙ distinct_of xs (λ n. let whole : one_if (nat_eq x n) + count n xs ≤ 1 = once n in omega arith)

pub one_most : (b : Bool) → one_if b ≤ 1
one_most true = omega arith
one_most false = omega arith

-- a list that has the numbers of which a test holds, each once, is as long as those of them among numbers that differ
pub list_long : (p : ℕ → Bool) (xs numbers : List ℕ) → ((n : ℕ) → count n xs ≡ one_if (p n)) → are_distinct numbers ≡ true → ((n : ℕ) → p n ≡ true → has_number numbers n ≡ true)
    → length (filter p numbers) ≡ length xs
list_long p xs numbers counts apart among =
    let kept : List ℕ = filter p numbers in
    let has = λ (n : ℕ). has_of_count xs n (p n) (counts n) in
    let distinct = distinct_of xs (λ n. omega (arith, counts n, one_most (p n))) in
    let once = λ (n : ℕ) (there : has_number xs n ≡ true). (
    let holds : p n ≡ true = sym (has n) ∙ there in
    count_filter p numbers n ∙ cond-true (p n) (count n numbers) 0 holds ∙ count_distinct numbers n apart (among n holds)) in
    let split : length (filter (λ n. not (has_number xs n)) kept) + length xs ≡ length kept = length_without xs kept distinct once in
    let rest : length (filter (λ n. not (has_number xs n)) kept) ≡ 0 = none_of (λ n. not (has_number xs n)) kept (λ n there. elim (cases_Bool (p n)) [
      | inl holds ↦ not_from_true (has_number xs n) (has n ∙ holds)
      | inr fails ↦
          let zero_count : count n kept ≡ 0 = count_filter p numbers n ∙ cond-false (p n) (count n numbers) 0 fails in
          absurd (false≢true (sym (has_of_count kept n false zero_count) ∙ there))
    ]) in
    omega arith

-- ---- the front, and what is done
pub waits_kind : (test : Fate → Bool) (k : ℕ) (lists : List (List ℕ)) (n : ℕ) (other : Fate) → ((i : ℕ) → test (Queue i) ≡ false) → test Last ≡ false → test other ≡ false
    → test (waits_from k lists n other) ≡ false
waits_kind test k [] n other queues last h = h
waits_kind test k (list ∷ lists) n other queues last h = by_test (has_number list n) (nat_eq k 64) (waits_kind test (k + 1) lists n other queues last h)
  where
    by_test : (b t : Bool) → test (waits_from (k + 1) lists n other) ≡ false → test (cond b (cond t Last (Queue (k + 1))) (waits_from (k + 1) lists n other)) ≡ false
    by_test true true rest = last
    by_test true false rest = queues (k + 1)
    by_test false t rest = rest

done_not_front : (outcomes : List (ℕ × Outcome)) (n : ℕ) → is_front (done_by outcomes n Fresh) ≡ false
done_not_front [] n = refl
done_not_front (d ∷ outcomes) n = by_test (nat_eq d.0 n) (done_not_front outcomes n)
  where
    by_test : (b : Bool) → is_front (done_by outcomes n Fresh) ≡ false → is_front (cond b (Done d.1) (done_by outcomes n Fresh)) ≡ false
    by_test true rest = refl
    by_test false rest = rest

pub front_has : (x : Progress) (n : ℕ) → is_front (fate_of x n) ≡ has_number x.front n
front_has x n = by_test (has_number x.front n) (waits_kind is_front 0 x.waiting.lists n (done_by x.done n Fresh) (λ i. refl) refl (done_not_front x.done n))
  where
    by_test : (b : Bool) → is_front (waits_from 0 x.waiting.lists n (done_by x.done n Fresh)) ≡ false → is_front (cond b Front (waits_from 0 x.waiting.lists n (done_by x.done n Fresh))) ≡ b
    by_test true rest = refl
    by_test false rest = rest

pub done_has : (x : Progress) (n : ℕ) → stands x n ≤ 1 → is_done (fate_of x n) ≡ has_number (numbers_done x.done) n
done_has x n most = elim (cases_Bool (has_number (numbers_done x.done) n)) [
  | inl there ↦
      ap is_done (done_only x n most (present_count (numbers_done x.done) n there) ∙ (came_of x.done n Fresh there).fate) ∙ sym there
  | inr none ↦
      let rest : is_done (waits_from 0 x.waiting.lists n (done_by x.done n Fresh)) ≡ false =
      waits_kind is_done 0 x.waiting.lists n (done_by x.done n Fresh) (λ i. refl) refl (ap is_done (done_absent x.done n Fresh none)) in
      by_test (has_number x.front n) rest ∙ sym none
]
  where
    by_test : (b : Bool) → is_done (waits_from 0 x.waiting.lists n (done_by x.done n Fresh)) ≡ false → is_done (cond b Front (waits_from 0 x.waiting.lists n (done_by x.done n Fresh))) ≡ false
    by_test true rest = refl
    by_test false rest = rest

-- a number that stands once at most stands in a list as often as the list has it
pub count_has : (xs : List ℕ) (n : ℕ) → count n xs ≤ 1 → count n xs ≡ one_if (has_number xs n)
count_has xs n most = elim (cases_Bool (has_number xs n)) [
  | inl there ↦
      let one : one_if (has_number xs n) ≡ 1 = one_true (has_number xs n) there in
      omega (arith, present_count xs n there)
  | inr none ↦ absent_count xs n none ∙ sym (ap one_if none)
]

module _ (queues buckets : ℕ) (events : List Happened) (numbers : List ℕ) (is : IsCrawl queues buckets events) (apart : are_distinct numbers ≡ true) (among : (n : ℕ) → was_read events n ≡ true
    → has_number numbers n ≡ true) where
  abbrev x : Progress
  x = progress queues buckets events

  most_once : (n : ℕ) → stands x n ≤ 1
  most_once n = omega (arith, crawl_once queues buckets events n is, one_most (was_read events n))

  -- a number that stands somewhere is among the URLs
  stands_among : (n : ℕ) → 1 ≤ stands x n → has_number numbers n ≡ true
  stands_among n least = elim (cases_Bool (was_read events n)) [
    | inl there ↦ among n there
    | inr none ↦
        let nowhere : stands x n ≡ 0 = crawl_once queues buckets events n is ∙ ap one_if none in
        absurd (omega arith)
  ]

  pub front_long : count_fate is_front x numbers ≡ length x.front
  front_long = list_long (λ n. is_front (fate_of x n)) x.front numbers
      (λ n. count_has x.front n (omega (arith, most_once n)) ∙ ap one_if (sym (front_has x n))) apart
      (λ n h. let some : 1 ≤ count n x.front = present_count x.front n (sym (front_has x n) ∙ h) in stands_among n (omega arith))

  pub done_long : count_fate is_done x numbers ≡ length x.done
  done_long =
      list_long (λ n. is_done (fate_of x n)) (numbers_done x.done) numbers
      (λ n. count_has (numbers_done x.done) n (omega (arith, most_once n)) ∙ ap one_if (sym (done_has x n (most_once n)))) apart
      (λ n h. let some : 1 ≤ count n (numbers_done x.done) = present_count (numbers_done x.done) n (sym (done_has x n (most_once n)) ∙ h) in stands_among n (omega arith))
      ∙ length-map x.done (λ (d : ℕ × Outcome). d.0)
