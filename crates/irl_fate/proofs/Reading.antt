-- What a pass reads: its numbers differ, and none stands in a list once the queue is taken out.
use Rattle.std.proofs.Common.{◌≡◌, ◌∙◌, ℕ, ◌+◌, ◌-◌, ◌<◌, ◌≤◌, zero, suc, List, [], ◌∷◌, ◌++◌, length, get_or, sym, ap, arith, refl, Bool, true, false, cond, inl, inr, subst, append_assoc, append-nil}
use Rattle.std.specs.Prelude.{◌&&◌, ◌⊎◌, nat_eq, nat_le, nat_lt}
use Rattle.std.specs.List.{filter, list_all}
use Rattle.std.proofs.lemmas.Bool.{cases_Bool, and_parts, or_parts, or_from, or_left, or_right, ne_eqb, eqb-true, eqb-false, ltb-true, leb-true, cond-true, cond-false, false≢true}
use Rattle.std.proofs.lemmas.List.{get_or-set_other}
use Rattle.irl_offer.specs.declared.outcome.Outcome.{Outcome}
use Rattle.irl_offer.specs.declared.place.Place.{Place}
use Rattle.irl_offer.specs.declared.place.Slot.{Slot}
use Rattle.irl_offer.specs.declared.place.Slot.TheVariants.{Front as InFront, Queue as InQueue, Last as InLast}
use Rattle.irl_base.specs.Lists.{list_at}
use Rattle.irl_events.specs.Queues.{put, delivered, FitsSlot}
use Rattle.irl_events.specs.Events.{has_number, is_in_front, numbers_of}
use Rattle.irl_events.specs.Legal.{are_rising, are_read, is_slot_within}
use Rattle.irl_fate.specs.declared.fate.Fate.{Fate}
use Rattle.irl_fate.specs.declared.fate.Fate.TheVariants.{Fresh}
use Rattle.irl_fate.specs.Kept.{count, one_if, Agree, fate_of_slot, placed_by}
use Rattle.irl_fate.proofs.Counting.{zero_absent, one_true}
use Rattle.irl_fate.proofs.Agreeing.{placed_at, front_with, put_one}

-- ---- slots
pub slot_fits : (from to : ℕ) (s : Slot) → 1 ≤ from → to ≤ 64 → is_slot_within from to s ≡ true → FitsSlot s
slot_fits from to InFront least most h = tt
slot_fits from to (InQueue i) least most h =
    let parts = and_parts (nat_le from i) (nat_le i to) h in
    let low : from ≤ i = leb-true from i parts.0 in
    let high : i ≤ to = leb-true i to parts.1 in
    (omega arith, omega arith)
slot_fits from to InLast least most h = tt

pub slots_fit : (from to : ℕ) (places : List Place) → 1 ≤ from → to ≤ 64 → list_all (λ p. is_slot_within from to p.slot) places ≡ true → (i : ℕ) (d : Place) → i < length places
    → FitsSlot (get_or places i d).slot
slots_fit from to [] least most h i d lt = absurd (omega arith)
slots_fit from to (place ∷ places) least most h zero d lt =
    slot_fits from to place.slot least most (and_parts (is_slot_within from to place.slot) (list_all (λ p. is_slot_within from to p.slot) places) h).0
slots_fit from to (place ∷ places) least most h (suc i) d lt =
    slots_fit from to places least most (and_parts (is_slot_within from to place.slot) (list_all (λ p. is_slot_within from to p.slot) places) h).1 i d (omega arith)

-- ---- numbers that are read
-- out of a stretch of numbers
abbrev pub IsOutside : ℕ → ℕ → ℕ → Type 0
IsOutside from to n = (n < from) ⊎ (to ≤ n)

pub rising_absent : (from to : ℕ) (ns : List ℕ) (n : ℕ) → are_rising from to ns ≡ true → IsOutside from to n → has_number ns n ≡ false
rising_absent from to [] n h out = refl
rising_absent from to (m ∷ ns) n h out =
    let parts = and_parts (nat_le from m && nat_lt m to) (are_rising (m + 1) to ns) h in
    let bounds = and_parts (nat_le from m) (nat_lt m to) parts.0 in
    let low : from ≤ m = leb-true from m bounds.0 in
    let high : m < to = ltb-true m to bounds.1 in
    or_from (nat_eq m n) (has_number ns n)
    (ne_eqb m n (λ e. elim out [ inl below ↦ absurd (omega arith) | inr above ↦ absurd (omega arith) ]))
    (rising_absent (m + 1) to ns n parts.1 (elim out [ inl below ↦ inl (omega arith) | inr above ↦ inr above ]))

pub read_absent : (queue : List ℕ) (from to : ℕ) (ns : List ℕ) (n : ℕ) → are_read queue from to ns ≡ true → has_number queue n ≡ false → IsOutside from to n → has_number ns n ≡ false
read_absent [] from to ns n h none out = rising_absent from to ns n h out
read_absent (q ∷ queue) from to [] n h none out = refl
read_absent (q ∷ queue) from to (m ∷ ns) n h none out =
    let parts = and_parts (nat_eq q m) (are_read queue from to ns) h in
    let apart = or_parts (nat_eq q n) (has_number queue n) none in
    or_from (nat_eq m n) (has_number ns n)
    (ne_eqb m n (λ e. eqb-false q n apart.0 (eqb-true q m parts.0 ∙ e)))
    (read_absent queue from to ns n parts.1 apart.1 out)

-- each number of the queue is read
pub read_whole : (queue : List ℕ) (from to : ℕ) (ns : List ℕ) (n : ℕ) → are_read queue from to ns ≡ true → has_number ns n ≡ false → has_number queue n ≡ false
read_whole [] from to ns n h none = refl
read_whole (q ∷ queue) from to [] n h none = absurd (false≢true h)
read_whole (q ∷ queue) from to (m ∷ ns) n h none =
    let parts = and_parts (nat_eq q m) (are_read queue from to ns) h in
    let apart = or_parts (nat_eq m n) (has_number ns n) none in
    or_from (nat_eq q n) (has_number queue n)
    (ne_eqb q n (λ e. eqb-false m n apart.0 (sym (eqb-true q m parts.0) ∙ e)))
    (read_whole queue from to ns n parts.1 apart.1)

-- places whose numbers differ and are fresh
abbrev pub Clear : (ℕ → Fate) → List Place → Type 0
Clear f [] = Unit {0}
Clear f (place ∷ places) =
    (f place.number ≡ Fresh) × (has_number (numbers_of places) place.number ≡ false) × FitsSlot place.slot × Clear f places

module _ (low high : ℕ) (least : 1 ≤ low) (most : high ≤ 64) (f : ℕ → Fate) where
  abbrev within : List Place → Bool
  within places = list_all (λ p. is_slot_within low high p.slot) places

  clear_rising : (from to : ℕ) (places : List Place) → ((n : ℕ) → from ≤ n → f n ≡ Fresh) → are_rising from to (numbers_of places) ≡ true → within places ≡ true → Clear f places
  clear_rising from to [] fresh h slots = tt
  clear_rising from to (place ∷ places) fresh h slots =
      let m = place.number in
      let parts = and_parts (nat_le from m && nat_lt m to) (are_rising (m + 1) to (numbers_of places)) h in
      let at_least : from ≤ m = leb-true from m (and_parts (nat_le from m) (nat_lt m to) parts.0).0 in
      let fit = and_parts (is_slot_within low high place.slot) (within places) slots in (
        fresh m at_least,
        rising_absent (m + 1) to (numbers_of places) m parts.1 (inl (omega arith)),
        slot_fits low high place.slot least most fit.0,
        clear_rising (m + 1) to places (λ n le. fresh n (omega arith)) parts.1 fit.1,
      )

  pub clear_read : (queue : List ℕ) (from to : ℕ) (places : List Place) → ((n : ℕ) → count n queue ≤ 1) → ((n : ℕ) → has_number queue n ≡ true → n < from)
      → ((n : ℕ) → has_number queue n ≡ true → f n ≡ Fresh) → ((n : ℕ) → from ≤ n → f n ≡ Fresh) → are_read queue from to (numbers_of places) ≡ true → within places ≡ true → Clear f places
  clear_read [] from to places once below out fresh h slots = clear_rising from to places fresh h slots
  clear_read (q ∷ queue) from to [] once below out fresh h slots = tt
  clear_read (q ∷ queue) from to (place ∷ places) once below out fresh h slots =
      let m = place.number in
      let parts = and_parts (nat_eq q m) (are_read queue from to (numbers_of places)) h in
      let same : q ≡ m = eqb-true q m parts.0 in
      let one : one_if (nat_eq q m) ≡ 1 = one_true (nat_eq q m) parts.0 in
      let counted : one_if (nat_eq q m) + count m queue ≤ 1 = once m in
      let alone : count m queue ≡ 0 = omega arith in
      let here : has_number (q ∷ queue) m ≡ true = or_left (nat_eq q m) (has_number queue m) parts.0 in
      let fit = and_parts (is_slot_within low high place.slot) (within places) slots in (
        out m here,
        read_absent queue from to (numbers_of places) m parts.1 (zero_absent queue m alone) (inl (below m here)),
        slot_fits low high place.slot least most fit.0,
        clear_read queue from to places (λ n. let all : one_if (nat_eq q n) + count n queue ≤ 1 = once n in omega arith)
            (λ n there. below n (or_right (nat_eq q n) (has_number queue n) there))
            (λ n there. out n (or_right (nat_eq q n) (has_number queue n) there)) fresh parts.1 fit.1,
      )

-- ---- all are put in their places
clear_step : (f : ℕ → Fate) (n : ℕ) (s : Slot) (places : List Place) → has_number (numbers_of places) n ≡ false → Clear f places → Clear (placed_at f n s) places
clear_step f n s [] none clear = tt
clear_step f n s (place ∷ places) none clear =
    let parts = or_parts (nat_eq place.number n) (has_number (numbers_of places) n) none in
    let other : nat_eq n place.number ≡ false = ne_eqb n place.number (λ e. eqb-false place.number n parts.0 (sym e)) in (
      cond-false (nat_eq n place.number) (fate_of_slot s) (f place.number) other ∙ clear.0,
      clear.1,
      clear.2,
      clear_step f n s places parts.1 clear.3,
    )

abbrev pub front_places : List Place → List ℕ
front_places places = numbers_of (filter (λ p. is_in_front p.slot) places)

front_more : (front : List ℕ) (place : Place) (places : List Place) → front_with front place.number place.slot ++ front_places places ≡ front ++ front_places (place ∷ places)
front_more front place places = elim (cases_Bool (is_in_front place.slot)) [
  | inl e ↦
      ap (λ b. (front ++ cond b (place.number ∷ []) []) ++ front_places places) e
      ∙ append_assoc front (place.number ∷ []) (front_places places)
      ∙ ap (λ b. front ++ numbers_of (cond b (place ∷ filter (λ p. is_in_front p.slot) places) (filter (λ p. is_in_front p.slot) places))) (sym e)
  | inr e ↦
      ap (λ b. (front ++ cond b (place.number ∷ []) []) ++ front_places places) e
      ∙ ap (λ (t : List ℕ). t ++ front_places places) (append-nil front)
      ∙ ap (λ b. front ++ numbers_of (cond b (place ∷ filter (λ p. is_in_front p.slot) places) (filter (λ p. is_in_front p.slot) places))) (sym e)
]

pub put_places : (f : ℕ → Fate) (front : List ℕ) (lists : List (List ℕ)) (done : List (ℕ × Outcome)) (places : List Place) → Clear f places → Agree f front lists done
    → Agree (λ q. placed_by places q (f q)) (front ++ front_places places) (delivered lists (numbers_of places) places) done
unfolding delivered
put_places f front lists done [] clear a = subst (λ (t : List ℕ). Agree f t lists done) (sym (append-nil front)) a
put_places f front lists done (place ∷ places) clear a =
    let n = place.number in
    let s = place.slot in
    subst (λ (t : List ℕ). Agree (λ q. placed_by places q (placed_at f n s q)) t (delivered (put lists n s) (numbers_of places) places) done)
    (front_more front place places)
    (put_places (placed_at f n s) (front_with front n s) (put lists n s) done places (clear_step f n s places clear.1 clear.3) (put_one n s clear.2 clear.0 a))

-- ---- a number that is in no place, and one whose fate was another before
pub placed_none : (places : List Place) (q : ℕ) (f : Fate) → has_number (numbers_of places) q ≡ false → placed_by places q f ≡ f
placed_none [] q f h = refl
placed_none (place ∷ places) q f h =
    let parts = or_parts (nat_eq place.number q) (has_number (numbers_of places) q) h in
    ap (placed_by places q) (cond-false (nat_eq place.number q) (fate_of_slot place.slot) f parts.0) ∙ placed_none places q f parts.1

pub placed_same : (places : List Place) (q : ℕ) (f g : Fate) → (has_number (numbers_of places) q ≡ false → f ≡ g) → placed_by places q f ≡ placed_by places q g
placed_same [] q f g h = h refl
placed_same (place ∷ places) q f g h =
    placed_same places q (cond (nat_eq place.number q) (fate_of_slot place.slot) f) (cond (nat_eq place.number q) (fate_of_slot place.slot) g) (λ none.
    elim (cases_Bool (nat_eq place.number q)) [
      | inl e ↦
          cond-true (nat_eq place.number q) (fate_of_slot place.slot) f e
          ∙ sym (cond-true (nat_eq place.number q) (fate_of_slot place.slot) g e)
      | inr e ↦
          cond-false (nat_eq place.number q) (fate_of_slot place.slot) f e
          ∙ h (or_from (nat_eq place.number q) (has_number (numbers_of places) q) e none)
          ∙ sym (cond-false (nat_eq place.number q) (fate_of_slot place.slot) g e)
    ])

-- ---- the lists in front of the slots stay
put_before : (lists : List (List ℕ)) (n : ℕ) (s : Slot) (from to k : ℕ) → is_slot_within from to s ≡ true → k + 1 < from → k < 64 → list_at (put lists n s) k ≡ list_at lists k
put_before lists n InFront from to k h lt below = refl
put_before lists n (InQueue i) from to k h lt below =
    let low : from ≤ i = leb-true from i (and_parts (nat_le from i) (nat_le i to) h).0 in
    get_or-set_other lists (i - 1) k (list_at lists (i - 1) ++ n ∷ []) [] (λ e. omega arith)
put_before lists n InLast from to k h lt below = get_or-set_other lists 64 k (list_at lists 64 ++ n ∷ []) [] (λ e. omega arith)

pub delivered_before : (lists : List (List ℕ)) (places : List Place) (from to k : ℕ) → list_all (λ p. is_slot_within from to p.slot) places ≡ true → k + 1 < from → k < 64
    → list_at (delivered lists (numbers_of places) places) k ≡ list_at lists k
unfolding delivered
delivered_before lists [] from to k h lt below = refl
delivered_before lists (place ∷ places) from to k h lt below =
    let parts = and_parts (is_slot_within from to place.slot) (list_all (λ p. is_slot_within from to p.slot) places) h in
    delivered_before (put lists place.number place.slot) places from to k parts.1 lt below
    ∙ put_before lists place.number place.slot from to k parts.0 lt below

-- ---- so do the queues behind the slots
put_after : (lists : List (List ℕ)) (n : ℕ) (s : Slot) (from to k : ℕ) → 1 ≤ from → is_slot_within from to s ≡ true → to ≤ k → k < 64 → list_at (put lists n s) k ≡ list_at lists k
put_after lists n InFront from to k least h le below = refl
put_after lists n (InQueue i) from to k least h le below =
    let parts = and_parts (nat_le from i) (nat_le i to) h in
    let low : from ≤ i = leb-true from i parts.0 in
    let high : i ≤ to = leb-true i to parts.1 in
    get_or-set_other lists (i - 1) k (list_at lists (i - 1) ++ n ∷ []) [] (λ e. omega arith)
put_after lists n InLast from to k least h le below = get_or-set_other lists 64 k (list_at lists 64 ++ n ∷ []) [] (λ e. omega arith)

pub delivered_after : (lists : List (List ℕ)) (places : List Place) (from to k : ℕ) → 1 ≤ from → list_all (λ p. is_slot_within from to p.slot) places ≡ true → to ≤ k → k < 64
    → list_at (delivered lists (numbers_of places) places) k ≡ list_at lists k
unfolding delivered
delivered_after lists [] from to k least h le below = refl
delivered_after lists (place ∷ places) from to k least h le below =
    let parts = and_parts (is_slot_within from to place.slot) (list_all (λ p. is_slot_within from to p.slot) places) h in
    delivered_after (put lists place.number place.slot) places from to k least parts.1 le below
    ∙ put_after lists place.number place.slot from to k least parts.0 le below
