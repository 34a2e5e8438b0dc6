-- Where a number stands, by its fate: a fresh one nowhere, one of a queue in a queue that is in use, one that is done among what
-- is done.
use Rattle.std.proofs.Common.{◌≡◌, ◌≢◌, ◌∙◌, ℕ, zero, suc, ◌+◌, ◌<◌, ◌≤◌, List, [], ◌∷◌, ◌++◌, length, sym, ap, subst, arith, refl, Bool, true, false, cond, inl, inr}
use Rattle.std.specs.Prelude.{nat_eq}
use Rattle.std.proofs.lemmas.Bool.{cases_Bool, cases_lt, cond-true, cond-false, eqb-false, false≢true}
use Rattle.irl_offer.specs.declared.outcome.Outcome.{Outcome}
use Rattle.irl_events.specs.Events.{Progress, has_number}
use Rattle.irl_base.specs.Lists.{list_at}
use Rattle.irl_fate.specs.declared.fate.Fate.{Fate}
use Rattle.irl_fate.specs.declared.fate.Fate.TheVariants.{Fresh, Queue, Last, Front, Done}
use Rattle.irl_fate.specs.Fates.{fate_of, waits_from, done_by}
use Rattle.irl_fate.specs.Standing.{count, count_all, one_if, stands, IsWaiting}
use Rattle.irl_fate.proofs.Counting.{one_true, one_false, absent_count, zero_absent}
use Rattle.irl_fate.proofs.Marking.{numbers_done, done_absent}

waits_nowhere : (k : ℕ) (lists : List (List ℕ)) (n : ℕ) (other : Fate) → count_all n lists ≡ 0 → waits_from k lists n other ≡ other
waits_nowhere k [] n other none = refl
waits_nowhere k (list ∷ lists) n other none =
    let here : count n list ≡ 0 = omega arith in
    cond-false (has_number list n) (cond (nat_eq k 64) Last (Queue (k + 1))) (waits_from (k + 1) lists n other) (zero_absent list n here)
    ∙ waits_nowhere (k + 1) lists n other (omega arith)

pub nowhere_fresh : (p : Progress) (n : ℕ) → stands p n ≡ 0 → fate_of p n ≡ Fresh
nowhere_fresh p n none =
    let front : count n p.front ≡ 0 = omega arith in
    let lists : count_all n p.waiting.lists ≡ 0 = omega arith in
    let done : count n (numbers_done p.done) ≡ 0 = omega arith in
    cond-false (has_number p.front n) Front (waits_from 0 p.waiting.lists n (done_by p.done n Fresh)) (zero_absent p.front n front)
    ∙ waits_nowhere 0 p.waiting.lists n (done_by p.done n Fresh) lists
    ∙ done_absent p.done n Fresh (zero_absent (numbers_done p.done) n done)

waiting_fresh : (b : Bool) (k : ℕ) → cond b Last (Queue k) ≡ Fresh → ⊥
waiting_fresh true k e = cc
waiting_fresh false k e = cc

fresh_waits : (k : ℕ) (lists : List (List ℕ)) (n : ℕ) (other : Fate) → waits_from k lists n other ≡ Fresh → (count_all n lists ≡ 0) × (other ≡ Fresh)
fresh_waits k [] n other h = (refl, h)
fresh_waits k (list ∷ lists) n other h = elim (cases_Bool (has_number list n)) [
  | inl there ↦
      absurd (waiting_fresh (nat_eq k 64) (k + 1) (sym (cond-true (has_number list n) (cond (nat_eq k 64) Last (Queue (k + 1))) (waits_from (k + 1) lists n other) there) ∙ h))
  | inr none ↦
      let rest = fresh_waits (k + 1) lists n other (sym (cond-false (has_number list n) (cond (nat_eq k 64) Last (Queue (k + 1))) (waits_from (k + 1) lists n other) none) ∙ h) in
      let here : count n list ≡ 0 = absent_count list n none in
      let others : count_all n lists ≡ 0 = rest.0 in
      (omega arith, rest.1)
]

done_fresh : (outcome : Outcome) → Done outcome ≡ Fresh → ⊥
done_fresh outcome e = cc

fresh_done : (outcomes : List (ℕ × Outcome)) (n : ℕ) → done_by outcomes n Fresh ≡ Fresh → count n (numbers_done outcomes) ≡ 0
fresh_done [] n h = refl
fresh_done (d ∷ outcomes) n h = elim (cases_Bool (nat_eq d.0 n)) [
  | inl there ↦ absurd (done_fresh d.1 (sym (cond-true (nat_eq d.0 n) (Done d.1) (done_by outcomes n Fresh) there) ∙ h))
  | inr none ↦
      let rest : count n (numbers_done outcomes) ≡ 0 = fresh_done outcomes n (sym (cond-false (nat_eq d.0 n) (Done d.1) (done_by outcomes n Fresh) none) ∙ h) in
      let here : one_if (nat_eq d.0 n) ≡ 0 = one_false (nat_eq d.0 n) none in
      omega arith
]

front_fresh : Front ≡ Fresh → ⊥
front_fresh e = cc

pub fresh_nowhere : (p : Progress) (n : ℕ) → fate_of p n ≡ Fresh → stands p n ≡ 0
fresh_nowhere p n h = elim (cases_Bool (has_number p.front n)) [
  | inl there ↦
      absurd (front_fresh (sym (cond-true (has_number p.front n) Front (waits_from 0 p.waiting.lists n (done_by p.done n Fresh)) there) ∙ h))
  | inr none ↦
      let rest = fresh_waits 0 p.waiting.lists n (done_by p.done n Fresh) (sym (cond-false (has_number p.front n) Front (waits_from 0 p.waiting.lists n (done_by p.done n Fresh)) none) ∙ h) in
      let front : count n p.front ≡ 0 = absent_count p.front n none in
      let lists : count_all n p.waiting.lists ≡ 0 = rest.0 in
      let done : count n (numbers_done p.done) ≡ 0 = fresh_done p.done n rest.1 in
      omega arith
]

-- ---- queues
get_or_past : (lists : List (List ℕ)) (at : ℕ) → length lists ≤ at → list_at lists at ≡ []
get_or_past [] at le = refl
get_or_past (list ∷ lists) zero le = absurd (omega arith)
get_or_past (list ∷ lists) (suc at) le = get_or_past lists at (omega arith)

-- a number that waits in a queue stands in the list of its place
record IsAt (k i n : ℕ) (lists : List (List ℕ)) : Type 0 where
  place : ℕ
  is : k + place + 1 ≡ i
  other : k + place ≢ 64
  there : has_number (list_at lists place) n ≡ true

queue_is : (b : Bool) (k i : ℕ) → nat_eq k 64 ≡ b → cond b Last (Queue (k + 1)) ≡ Queue i → (k + 1 ≡ i) × (k ≢ 64)
queue_is true k i e h = absurd (cc)
queue_is false k i e h = (cc, eqb-false k 64 e)

queue_at : (k : ℕ) (lists : List (List ℕ)) (n i : ℕ) (other : Fate) → (other ≢ Queue i) → waits_from k lists n other ≡ Queue i → IsAt k i n lists
queue_at k [] n i other none h = absurd (none h)
queue_at k (list ∷ lists) n i other none h = elim (cases_Bool (has_number list n)) [
  | inl there ↦
      let here = queue_is (nat_eq k 64) k i refl (sym (cond-true (has_number list n) (cond (nat_eq k 64) Last (Queue (k + 1))) (waits_from (k + 1) lists n other) there) ∙ h) in
      let is : k + 1 ≡ i = here.0 in
      record { place = 0; is = omega arith; other = λ e. here.1 (omega arith); there = there }
  | inr absent ↦
      let rest = queue_at (k + 1) lists n i other none (sym (cond-false (has_number list n) (cond (nat_eq k 64) Last (Queue (k + 1))) (waits_from (k + 1) lists n other) absent) ∙ h) in
      let is : k + 1 + rest.place + 1 ≡ i = rest.is in
      record { place = suc rest.place; is = omega arith; other = λ e. rest.other (omega arith); there = rest.there }
]

done_not_queue : (outcomes : List (ℕ × Outcome)) (n i : ℕ) → done_by outcomes n Fresh ≢ Queue i
done_not_queue [] n i h = cc
done_not_queue (d ∷ outcomes) n i h = by_test (nat_eq d.0 n) (done_not_queue outcomes n i) h
  where
    by_test : (b : Bool) → (done_by outcomes n Fresh ≢ Queue i) → cond b (Done d.1) (done_by outcomes n Fresh) ≡ Queue i → ⊥
    by_test true rest e = cc
    by_test false rest e = rest e

front_not_queue : (i : ℕ) → Front ≢ Queue i
front_not_queue i e = cc

within_lists : (lists : List (List ℕ)) (at n : ℕ) → has_number (list_at lists at) n ≡ true → length lists ≡ 65 → at < 65
within_lists lists at n there many = elim (cases_lt at (length lists)) [
  | inl lt ↦ omega arith
  | inr le ↦ absurd (false≢true (ap (λ (l : List ℕ). has_number l n) (sym (get_or_past lists at le)) ∙ there))
]

-- a queue that holds a number is one that is in use and was not read in this round
pub queue_within : (p : Progress) (n i : ℕ) → IsWaiting p.waiting → fate_of p n ≡ Queue i → (p.waiting.passes < i) × (i ≤ p.waiting.queues)
queue_within p n i waits h =
    elim (cases_Bool (has_number p.front n)) [
      | inl there ↦
          absurd (front_not_queue i (sym (cond-true (has_number p.front n) Front (waits_from 0 p.waiting.lists n (done_by p.done n Fresh)) there) ∙ h))
      | inr none ↦
          let at = queue_at 0 p.waiting.lists n i (done_by p.done n Fresh) (done_not_queue p.done n i)
          (sym (cond-false (has_number p.front n) Front (waits_from 0 p.waiting.lists n (done_by p.done n Fresh)) none) ∙ h) in
          let is : 0 + at.place + 1 ≡ i = at.is in
          let empty : list_at p.waiting.lists at.place ≡ [] → ⊥ = λ e. false≢true (ap (λ (l : List ℕ). has_number l n) (sym e) ∙ at.there) in
          let short : at.place < 65 = within_lists p.waiting.lists at.place n at.there waits.lists in
          let not_last : at.place ≢ 64 = λ e. at.other (omega arith) in
          let least : p.waiting.passes ≤ at.place = elim (cases_lt at.place p.waiting.passes) [ inl lt ↦ absurd (empty (waits.spent at.place lt)) | inr le ↦ le ] in
          let most : at.place < p.waiting.queues = elim (cases_lt at.place p.waiting.queues) [ inl lt ↦ lt | inr le ↦ absurd (empty (waits.unused at.place le (omega arith))) ] in
          (omega arith, omega arith)
    ]

-- ---- what is done
-- the fate of a number that stands among what is done, and nowhere else, is what came of it
pub done_only : (p : Progress) (n : ℕ) → stands p n ≤ 1 → 1 ≤ count n (numbers_done p.done) → fate_of p n ≡ done_by p.done n Fresh
done_only p n once there =
    let front : count n p.front ≡ 0 = omega arith in
    let lists : count_all n p.waiting.lists ≡ 0 = omega arith in
    cond-false (has_number p.front n) Front (waits_from 0 p.waiting.lists n (done_by p.done n Fresh)) (zero_absent p.front n front)
    ∙ waits_nowhere 0 p.waiting.lists n (done_by p.done n Fresh) lists

front_not_done : (outcome : Outcome) → Front ≢ Done outcome
front_not_done outcome e = cc

waiting_not_done : (b : Bool) (k : ℕ) (outcome : Outcome) → cond b Last (Queue k) ≢ Done outcome
waiting_not_done true k outcome e = cc
waiting_not_done false k outcome e = cc

waits_done : (k : ℕ) (lists : List (List ℕ)) (n : ℕ) (other : Fate) (outcome : Outcome) → waits_from k lists n other ≡ Done outcome → other ≡ Done outcome
waits_done k [] n other outcome h = h
waits_done k (list ∷ lists) n other outcome h = elim (cases_Bool (has_number list n)) [
  | inl there ↦
      absurd (waiting_not_done (nat_eq k 64) (k + 1) outcome (sym (cond-true (has_number list n) (cond (nat_eq k 64) Last (Queue (k + 1))) (waits_from (k + 1) lists n other) there) ∙ h))
  | inr none ↦
      waits_done (k + 1) lists n other outcome (sym (cond-false (has_number list n) (cond (nat_eq k 64) Last (Queue (k + 1))) (waits_from (k + 1) lists n other) none) ∙ h)
]

done_is : (p : Progress) (n : ℕ) (outcome : Outcome) → fate_of p n ≡ Done outcome → done_by p.done n Fresh ≡ Done outcome
done_is p n outcome h = elim (cases_Bool (has_number p.front n)) [
  | inl there ↦
      absurd (front_not_done outcome (sym (cond-true (has_number p.front n) Front (waits_from 0 p.waiting.lists n (done_by p.done n Fresh)) there) ∙ h))
  | inr none ↦
      waits_done 0 p.waiting.lists n (done_by p.done n Fresh) outcome (sym (cond-false (has_number p.front n) Front (waits_from 0 p.waiting.lists n (done_by p.done n Fresh)) none) ∙ h)
]

fresh_not_done : (outcome : Outcome) → Fresh ≢ Done outcome
fresh_not_done outcome e = cc

-- more outcomes behind those in which it stands change nothing, and it stands in all of them
done_longer : (done more : List (ℕ × Outcome)) (n : ℕ) (outcome : Outcome) → done_by done n Fresh ≡ Done outcome → (done_by (done ++ more) n Fresh ≡ Done outcome)
    × (1 ≤ count n (numbers_done (done ++ more)))
done_longer [] more n outcome h = absurd (fresh_not_done outcome h)
done_longer (d ∷ done) more n outcome h = elim (cases_Bool (nat_eq d.0 n)) [
  | inl here ↦
      let one : one_if (nat_eq d.0 n) ≡ 1 = one_true (nat_eq d.0 n) here in
      (cond-true (nat_eq d.0 n) (Done d.1) (done_by (done ++ more) n Fresh) here ∙ sym (cond-true (nat_eq d.0 n) (Done d.1) (done_by done n Fresh) here) ∙ h, omega arith)
  | inr other ↦
      let rest = done_longer done more n outcome (sym (cond-false (nat_eq d.0 n) (Done d.1) (done_by done n Fresh) other) ∙ h) in
      let least : 1 ≤ count n (numbers_done (done ++ more)) = rest.1 in
      (cond-false (nat_eq d.0 n) (Done d.1) (done_by (done ++ more) n Fresh) other ∙ rest.0, omega arith)
]

-- what is done stays done, where later outcomes stand behind it and each number stands once
pub done_stays : (p q : Progress) (more : List (ℕ × Outcome)) (n : ℕ) (outcome : Outcome) → q.done ≡ p.done ++ more → stands q n ≤ 1 → fate_of p n ≡ Done outcome → fate_of q n ≡ Done outcome
done_stays p q more n outcome is once h =
    let both = done_longer p.done more n outcome (done_is p n outcome h) in
    done_only q n once (subst (λ (ds : List (ℕ × Outcome)). 1 ≤ count n (numbers_done ds)) (sym is) both.1)
    ∙ ap (λ (ds : List (ℕ × Outcome)). done_by ds n Fresh) is ∙ both.0
