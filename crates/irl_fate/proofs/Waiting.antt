-- What a pass and a settle make of the lists in which numbers stand.
use Rattle.std.proofs.Common.{◌≡◌, ◌∙◌, ℕ, ◌+◌, ◌-◌, ◌*◌, ◌<◌, ◌≤◌, zero, suc, min, List, [], ◌∷◌, ◌++◌, length, set, sym, ap, arith, refl, Bool, true, false, cond, not, inl, inr}
use Rattle.std.specs.Prelude.{nat_eq, nat_le, nat_lt, if◌then◌else◌}
use Rattle.std.specs.List.{filter, list_all}
use Rattle.std.proofs.lemmas.Bool.{cases_Bool, cases_lt, cases_eq, and_parts, or_cases, eqb-true, ltb-true, ltb-false, lt-leb, le-leb, cond-true, cond-false, false≢true, not_from_true, not_from_false}
use Rattle.std.proofs.lemmas.List.{length-set, get_or-set_same, get_or-set_other, map-append}
use Rattle.irl_offer.specs.declared.outcome.Outcome.{Outcome}
use Rattle.irl_offer.specs.declared.place.Place.{Place}
use Rattle.irl_offer.specs.declared.place.Slot.{Slot}
use Rattle.irl_offer.specs.declared.place.Slot.TheVariants.{Front, Queue, Last}
use Rattle.irl_base.specs.Lists.{list_at, with_one}
use Rattle.irl_events.specs.Queues.{Waiting, put, delivered, round_ended, next_queues, FitsSlot}
use Rattle.irl_events.specs.Events.{Pass, Settle, Progress, has_number, is_in_front, numbers_of, without, after_event}
use Rattle.irl_events.specs.Legal.{are_read, is_slot_within}
use Rattle.irl_fate.specs.Standing.{count, count_all, one_if, stands, IsWaiting}
use Rattle.irl_fate.proofs.Agreeing.{length-put}
use Rattle.irl_fate.proofs.Counting.{one_true, count_push, count_append, count_filter, count_distinct, absent_count}
use Rattle.irl_fate.proofs.Marking.{numbers_done}
use Rattle.irl_fate.proofs.Reading.{slot_fits, read_absent, delivered_before, delivered_after}
use Rattle.irl_fate.proofs.Settling.{SettleParts}
use Rattle.irl_fate.proofs.Steps.{PassParts}

-- ---- counts
pub present_count : (xs : List ℕ) (n : ℕ) → has_number xs n ≡ true → 1 ≤ count n xs
present_count [] n h = absurd (false≢true h)
present_count (x ∷ xs) n h = elim (or_cases (nat_eq x n) (has_number xs n) h) [
  | inl here ↦ let one : one_if (nat_eq x n) ≡ 1 = one_true (nat_eq x n) here in omega arith
  | inr there ↦ omega (arith, present_count xs n there)
]

-- one list in place of another
count_all_set : (n : ℕ) (lists : List (List ℕ)) (at : ℕ) (list : List ℕ) → at < length lists → count_all n (set lists at list) + count n (list_at lists at) ≡ count_all n lists + count n list
count_all_set n [] at list lt = absurd (omega arith)
count_all_set n (l ∷ lists) zero list lt = omega arith
count_all_set n (l ∷ lists) (suc at) list lt =
    let rest : count_all n (set lists at list) + count n (list_at lists at) ≡ count_all n lists + count n list = count_all_set n lists at list (omega arith) in
    omega arith

pub count_at_most : (n : ℕ) (lists : List (List ℕ)) (at : ℕ) → count n (list_at lists at) ≤ count_all n lists
count_at_most n [] at = omega arith
count_at_most n (l ∷ lists) zero = omega arith
count_at_most n (l ∷ lists) (suc at) =
    let rest : count n (list_at lists at) ≤ count_all n lists = count_at_most n lists at in
    omega arith

with_one_count : (n m : ℕ) (lists : List (List ℕ)) (at : ℕ) → at < length lists → count_all n (with_one lists at m) ≡ count_all n lists + one_if (nat_eq m n)
with_one_count n m lists at lt =
    let whole = count_all_set n lists at (list_at lists at ++ m ∷ []) lt in
    let longer = count_push n m (list_at lists at) in
    omega arith

-- ---- places
-- how often a number in its slot comes to the front
abbrev in_front : ℕ → ℕ → Slot → ℕ
in_front n m s = cond (is_in_front s) (one_if (nat_eq m n)) 0

put_count : (n m : ℕ) (lists : List (List ℕ)) (s : Slot) → length lists ≡ 65 → FitsSlot s → count_all n (put lists m s) + in_front n m s ≡ count_all n lists + one_if (nat_eq m n)
put_count n m lists Front many fits = refl
put_count n m lists (Queue i) many fits =
    let least : 1 ≤ i = fits.0 in
    let most : i ≤ 64 = fits.1 in
    let one = with_one_count n m lists (i - 1) (omega arith) in
    omega arith
put_count n m lists Last many fits =
    let one = with_one_count n m lists 64 (omega arith) in
    omega arith

-- the numbers that places put into the front
abbrev pub front_numbers : List Place → List ℕ
front_numbers places = numbers_of (filter (λ place. is_in_front place.slot) places)

front_more : (n : ℕ) (place : Place) (places : List Place) → count n (front_numbers (place ∷ places)) ≡ in_front n place.number place.slot + count n (front_numbers places)
front_more n place places = by_test (is_in_front place.slot)
  where
    by_test : (b : Bool) → count n (numbers_of (cond b (place ∷ filter (λ p. is_in_front p.slot) places) (filter (λ p. is_in_front p.slot) places)))
        ≡ cond b (one_if (nat_eq place.number n)) 0 + count n (front_numbers places)
    by_test true = refl
    by_test false = omega arith

length-delivered : (lists : List (List ℕ)) (places : List Place) → length (delivered lists (numbers_of places) places) ≡ length lists
unfolding delivered
length-delivered lists [] = refl
length-delivered lists (place ∷ places) = length-delivered (put lists place.number place.slot) places ∙ length-put lists place.number place.slot

-- each number comes into its list, or into the front
delivered_count : (n from to : ℕ) (lists : List (List ℕ)) (places : List Place) → length lists ≡ 65 → 1 ≤ from → to ≤ 64 → list_all (λ place. is_slot_within from to place.slot) places ≡ true
    → count_all n (delivered lists (numbers_of places) places) + count n (front_numbers places) ≡ count_all n lists + count n (numbers_of places)
unfolding delivered
delivered_count n from to lists [] many least most within = refl
delivered_count n from to lists (place ∷ places) many least most within =
    let parts = and_parts (is_slot_within from to place.slot) (list_all (λ p. is_slot_within from to p.slot) places) within in
    let after = put lists place.number place.slot in
    let rest : count_all n (delivered after (numbers_of places) places) + count n (front_numbers places) ≡ count_all n after + count n (numbers_of places) =
    delivered_count n from to after places (length-put lists place.number place.slot ∙ many) least most parts.1 in
    let one = put_count n place.number lists place.slot many (slot_fits from to place.slot least most parts.0) in
    let front = front_more n place places in
    omega arith

-- ---- the end of a round
abbrev ended_by : Bool → List (List ℕ) → ℕ → ℕ → Waiting ℕ
ended_by b lists queues passes =
    if b then record { lists = lists; queues = queues; passes = passes }
    else record { lists = set (set lists 64 []) 0 (list_at lists 64); queues = next_queues queues (list_at lists 64); passes = 0 }

-- no queue but the first is other than it was
pub turned_unused : (lists : List (List ℕ)) (k : ℕ) → 0 < k → k < 64 → list_at lists k ≡ [] → list_at (set (set lists 64 []) 0 (list_at lists 64)) k ≡ []
turned_unused lists k least lt empty =
    get_or-set_other (set lists 64 []) 0 k (list_at lists 64) [] (λ e. omega arith)
    ∙ get_or-set_other lists 64 k [] [] (λ e. omega arith) ∙ empty

turned_count : (n : ℕ) (lists : List (List ℕ)) → length lists ≡ 65 → list_at lists 0 ≡ [] → count_all n (set (set lists 64 []) 0 (list_at lists 64)) ≡ count_all n lists
turned_count n lists many empty =
    let cut = set lists 64 [] in
    let one : count_all n cut + count n (list_at lists 64) ≡ count_all n lists + 0 = count_all_set n lists 64 [] (omega arith) in
    let none : list_at cut 0 ≡ [] = get_or-set_other lists 64 0 [] [] (λ e. omega arith) ∙ empty in
    let nothing : count n (list_at cut 0) ≡ 0 = ap (count n) none in
    let two : count_all n (set cut 0 (list_at lists 64)) + count n (list_at cut 0) ≡ count_all n cut + count n (list_at lists 64) =
    count_all_set n cut 0 (list_at lists 64) (omega (arith, length-set lists 64 [])) in
    omega arith

ended_count : (n : ℕ) (lists : List (List ℕ)) (queues passes : ℕ) → length lists ≡ 65 → (queues ≤ passes → list_at lists 0 ≡ [])
    → count_all n (round_ended lists queues passes).lists ≡ count_all n lists
ended_count n lists queues passes many empty = by_test (nat_lt passes queues) refl
  where
    by_test : (b : Bool) → nat_lt passes queues ≡ b → count_all n (ended_by b lists queues passes).lists ≡ count_all n lists
    by_test true e = refl
    by_test false e = turned_count n lists many (empty (ltb-false passes queues e))

next_least : (queues n : ℕ) → 1 ≤ queues → 0 < cond (nat_eq n 0) queues (min (2 * queues) 64)
next_least queues n least = by_test (nat_eq n 0)
  where
    by_test : (b : Bool) → 0 < cond b queues (min (2 * queues) 64)
    by_test true = omega arith
    by_test false = omega arith

next_most : (queues n : ℕ) → queues ≤ 64 → cond (nat_eq n 0) queues (min (2 * queues) 64) ≤ 64
next_most queues n most = by_test (nat_eq n 0)
  where
    by_test : (b : Bool) → cond b queues (min (2 * queues) 64) ≤ 64
    by_test true = omega arith
    by_test false = omega arith

next_grows : (queues n : ℕ) → queues ≤ 64 → queues ≤ cond (nat_eq n 0) queues (min (2 * queues) 64)
next_grows queues n most = by_test (nat_eq n 0)
  where
    by_test : (b : Bool) → queues ≤ cond b queues (min (2 * queues) 64)
    by_test true = omega arith
    by_test false = omega arith

pub ended_waiting : (lists : List (List ℕ)) (queues passes : ℕ) → length lists ≡ 65 → 1 ≤ queues → queues ≤ 64 → ((k : ℕ) → k < passes → list_at lists k ≡ [])
    → ((k : ℕ) → queues ≤ k → k < 64 → list_at lists k ≡ []) → IsWaiting (round_ended lists queues passes)
ended_waiting lists queues passes many least most spent unused = by_test (nat_lt passes queues) refl
  where
    by_test : (b : Bool) → nat_lt passes queues ≡ b → IsWaiting (ended_by b lists queues passes)
    by_test true e = record { lists = many; round = ltb-true passes queues e; most = most; spent = spent; unused = unused }
    by_test false e = record {
      lists = length-set (set lists 64 []) 0 (list_at lists 64) ∙ length-set lists 64 [] ∙ many;
      round = next_least queues (length (list_at lists 64)) least;
      most = next_most queues (length (list_at lists 64)) most;
      spent = λ k lt. absurd (omega arith);
      unused = λ k le lt. (
          let grows = next_grows queues (length (list_at lists 64)) most in
          let above : queues ≤ k = omega arith in
          turned_unused lists k (omega arith) lt (unused k above lt));
    }

-- ---- what a pass reads
pub read_below : (queue : List ℕ) (from to : ℕ) (ns : List ℕ) (n : ℕ) → are_read queue from to ns ≡ true → n < from → count n ns ≡ count n queue
read_below [] from to ns n h lt = absent_count ns n (read_absent [] from to ns n h refl (inl lt))
read_below (q ∷ queue) from to [] n h lt = absurd (false≢true h)
read_below (q ∷ queue) from to (m ∷ ns) n h lt =
    let parts = and_parts (nat_eq q m) (are_read queue from to ns) h in
    let same : q ≡ m = eqb-true q m parts.0 in
    let one : one_if (nat_eq q n) ≡ one_if (nat_eq m n) = ap (λ (k : ℕ). one_if (nat_eq k n)) same in
    let rest : count n ns ≡ count n queue = read_below queue from to ns n parts.1 lt in
    omega arith

read_count : (queue : List ℕ) (from to : ℕ) (ns : List ℕ) (n : ℕ) → are_read queue from to ns ≡ true → (from ≤ n → count n queue ≡ 0)
    → count n ns ≡ count n queue + count n (filter (λ m. nat_le from m) ns)
read_count queue from to ns n h none = elim (cases_lt n from) [
  | inl lt ↦
      let few : count n (filter (λ m. nat_le from m) ns) ≡ 0 = count_filter (λ m. nat_le from m) ns n ∙ cond-false (nat_le from n) (count n ns) 0 (lt-leb from n lt) in
      let same : count n ns ≡ count n queue = read_below queue from to ns n h lt in
      omega arith
  | inr le ↦
      let all : count n (filter (λ m. nat_le from m) ns) ≡ count n ns = count_filter (λ m. nat_le from m) ns n ∙ cond-true (nat_le from n) (count n ns) 0 (le-leb from n le) in
      let zero_count : count n queue ≡ 0 = none le in
      omega arith
]

-- the queues up to the one that is read are empty once it is taken out
cleared_spent : (lists : List (List ℕ)) (p k : ℕ) → p < length lists → ((i : ℕ) → i < p → list_at lists i ≡ []) → k ≤ p → list_at (set lists p []) k ≡ []
cleared_spent lists p k within spent le = elim (cases_eq k p) [
  | inl here ↦ ap (list_at (set lists p [])) here ∙ get_or-set_same lists p [] [] within
  | inr other ↦ get_or-set_other lists p k [] [] other ∙ spent k (omega arith)
]

module _ (x : Progress) (q : ℕ) (places : List Place) (is : IsWaiting x.waiting) (parts : PassParts (record x { begun = true; sent = q }) q places) where
  abbrev p : ℕ
  p = x.waiting.passes

  abbrev j : ℕ
  j = x.waiting.queues

  abbrev lists : List (List ℕ)
  lists = x.waiting.lists

  abbrev cleared : List (List ℕ)
  cleared = set lists p []

  abbrev after : List (List ℕ)
  after = delivered cleared (numbers_of places) places

  within : p < length lists
  within = omega (arith, is.lists, is.round, is.most)

  many_cleared : length cleared ≡ 65
  many_cleared = length-set lists p [] ∙ is.lists

  many_after : length after ≡ 65
  many_after = length-delivered cleared places ∙ many_cleared

  spent_after : (k : ℕ) → k < p + 1 → list_at after k ≡ []
  spent_after k lt =
      delivered_before cleared places (p + 2) j k parts.slots (omega arith) (omega (arith, is.round, is.most))
      ∙ cleared_spent lists p k within is.spent (omega arith)

  unused_after : (k : ℕ) → j ≤ k → k < 64 → list_at after k ≡ []
  unused_after k le lt =
      delivered_after cleared places (p + 2) j k (omega arith) parts.slots le lt
      ∙ get_or-set_other lists p k [] [] (λ e. omega (arith, is.round)) ∙ is.unused k le lt

  pub pass_stands : (n : ℕ) → (x.read ≤ n → stands x n ≡ 0) → stands (after_event x (Pass q) places) n ≡ stands x n + count n (filter (λ m. nat_le x.read m) (numbers_of places))
  pass_stands n none =
      let queue = list_at lists p in
      let cut : count_all n cleared + count n queue ≡ count_all n lists + 0 = count_all_set n lists p [] within in
      let given : count_all n after + count n (front_numbers places) ≡ count_all n cleared + count n (numbers_of places) =
      delivered_count n (p + 2) j cleared places many_cleared (omega arith) is.most parts.slots in
      let unread : x.read ≤ n → count n queue ≡ 0 = λ le. (
      let nowhere : stands x n ≡ 0 = none le in
      let part = count_at_most n lists p in
      omega arith) in
      let told = read_count queue x.read q (numbers_of places) n parts.numbers unread in
      let whole : count_all n (round_ended after j (p + 1)).lists ≡ count_all n after = ended_count n after j (p + 1) many_after (λ le. spent_after 0 (omega arith)) in
      let front : count n (x.front ++ front_numbers places) ≡ count n (front_numbers places) = ap (λ (f : List ℕ). count n (f ++ front_numbers places)) parts.none in
      let before : count n x.front ≡ 0 = ap (count n) parts.none in
      omega arith

  pub pass_waiting : IsWaiting (after_event x (Pass q) places).waiting
  pass_waiting = ended_waiting after j (p + 1) many_after (omega (arith, is.round)) is.most spent_after unused_after

-- ---- what a settle takes out
all_in_front : (front : List ℕ) (outcomes : List (ℕ × Outcome)) (n : ℕ) → list_all (λ d. has_number front d.0) outcomes ≡ true → has_number (numbers_done outcomes) n ≡ true → has_number front n ≡ true
all_in_front front [] n all h = absurd (false≢true h)
all_in_front front (d ∷ outcomes) n all h =
    let parts = and_parts (has_number front d.0) (list_all (λ o. has_number front o.0) outcomes) all in
    elim (or_cases (nat_eq d.0 n) (has_number (numbers_done outcomes) n) h) [
      | inl here ↦ ap (has_number front) (sym (eqb-true d.0 n here)) ∙ parts.0
      | inr there ↦ all_in_front front outcomes n parts.1 there
    ]

pub settle_stands : (x : Progress) (fronts : List ℕ) (outcomes : List (ℕ × Outcome)) (n : ℕ) → SettleParts x outcomes → stands x n ≤ 1
    → stands (after_event x (Settle fronts outcomes) []) n ≡ stands x n
settle_stands x fronts outcomes n parts once =
    let ns = numbers_done outcomes in
    let left : count n (without x.front outcomes) ≡ cond (not (has_number ns n)) (count n x.front) 0 = count_filter (λ k. not (has_number ns k)) x.front n in
    let all : count n (numbers_done (x.done ++ outcomes)) ≡ count n (numbers_done x.done) + count n ns = ap (count n) (map-append (λ (d : ℕ × Outcome). d.0) x.done outcomes)
    ∙ count_append n (numbers_done x.done) ns in
    elim (cases_Bool (has_number ns n)) [
      | inl there ↦
          let gone : count n (without x.front outcomes) ≡ 0 = left ∙ cond-false (not (has_number ns n)) (count n x.front) 0 (not_from_true (has_number ns n) there) in
          let one : count n ns ≡ 1 = count_distinct ns n parts.distinct there in
          let least : 1 ≤ count n x.front = present_count x.front n (all_in_front x.front outcomes n parts.front there) in
          omega arith
      | inr none ↦
          let kept : count n (without x.front outcomes) ≡ count n x.front = left ∙ cond-true (not (has_number ns n)) (count n x.front) 0 (not_from_false (has_number ns n) none) in
          let nothing : count n ns ≡ 0 = absent_count ns n none in
          omega arith
    ]
