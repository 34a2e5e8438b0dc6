-- Each number stands once where its fate says, whatever is done.
use Rattle.std.proofs.Common.{◌≡◌, ◌∙◌, ℕ, ◌+◌, ◌-◌, ◌<◌, ◌≤◌, zero, suc, List, [], ◌∷◌, ◌++◌, length, set, sym, ap, arith, refl, Bool, true, false, cond, inl, inr, subst}
use Rattle.std.specs.Prelude.{nat_eq, Option, None, Some}
use Rattle.std.proofs.lemmas.Bool.{cases_Bool, cases_eq, eq-eqb, ne_eqb, eqb-true, cond-true, cond-false, false≢true}
use Rattle.std.proofs.lemmas.List.{append-nil, length-set, get_or-set_same, get_or-set_other}
use Rattle.irl_offer.specs.declared.outcome.Outcome.{Outcome}
use Rattle.irl_offer.specs.declared.place.Slot.{Slot}
use Rattle.irl_offer.specs.declared.place.Slot.TheVariants.{Front as InFront, Queue as InQueue, Last as InLast}
use Rattle.irl_base.specs.Lists.{list_at}
use Rattle.irl_events.specs.Queues.{put, FitsSlot}
use Rattle.irl_events.specs.Events.{has_number, is_in_front}
use Rattle.irl_fate.specs.declared.fate.Fate.{Fate}
use Rattle.irl_fate.specs.declared.fate.Fate.TheVariants.{Fresh, Queue, Last, Front, Done}
use Rattle.irl_fate.specs.Fates.{done_by, waits_from}
use Rattle.irl_fate.specs.Kept.{is_front, is_listed, is_done, outcome_at, FitsFate, count, one_if, outcome_of, Agree, fate_of_slot}
use Rattle.irl_fate.proofs.Counting.{count_push, has_of_count}

-- ---- fates by themselves
no_front : (v : Fate) → v ≡ Fresh → is_front v ≡ false
no_front v e = ap is_front e

no_list : (k : ℕ) (v : Fate) → v ≡ Fresh → is_listed k v ≡ false
no_list k v e = ap (is_listed k) e

no_outcome : (v : Fate) → v ≡ Fresh → outcome_at v ≡ None
no_outcome v e = ap outcome_at e

pub front_only : (v : Fate) → is_front v ≡ true → v ≡ Front
front_only Fresh h = absurd (false≢true h)
front_only (Queue i) h = absurd (false≢true h)
front_only Last h = absurd (false≢true h)
front_only Front h = refl
front_only (Done o) h = absurd (false≢true h)

-- a number of one list is in no other
record OnlyListed (p : ℕ) (v : Fate) : Type 0 where
  front : is_front v ≡ false
  outcome : outcome_at v ≡ None
  open_yet : is_done v ≡ false
  others : (k : ℕ) → (k ≡ p → ⊥) → is_listed k v ≡ false

listed_only : (p : ℕ) (v : Fate) → is_listed p v ≡ true → OnlyListed p v
listed_only p Fresh h = absurd (false≢true h)
listed_only p (Queue i) h = record {
  front = refl;
  outcome = refl;
  open_yet = refl;
  others = λ k other. ne_eqb (k + 1) i (λ e. other (let at : p + 1 ≡ i = eqb-true (p + 1) i h in omega arith));
}
listed_only p Last h = record {
  front = refl;
  outcome = refl;
  open_yet = refl;
  others = λ k other. ne_eqb k 64 (λ e. other (e ∙ sym (eqb-true p 64 h)));
}
listed_only p Front h = absurd (false≢true h)
listed_only p (Done o) h = absurd (false≢true h)

module _ {f : ℕ → Fate} {front : List ℕ} {lists : List (List ℕ)} {done : List (ℕ × Outcome)} where
  pub in_front : Agree f front lists done → (n : ℕ) → has_number front n ≡ is_front (f n)
  in_front a n = has_of_count front n (is_front (f n)) (a.front_is n)

  pub in_list : Agree f front lists done → (k n : ℕ) → has_number (list_at lists k) n ≡ is_listed k (f n)
  in_list a k n = has_of_count (list_at lists k) n (is_listed k (f n)) (a.lists_are k n)

  pub same_fates : (g : ℕ → Fate) → ((n : ℕ) → g n ≡ f n) → Agree f front lists done → Agree g front lists done
  same_fates g h a = record {
    front_is = λ n. a.front_is n ∙ ap (λ (v : Fate). one_if (is_front v)) (sym (h n));
    lists_are = λ k n. a.lists_are k n ∙ ap (λ (v : Fate). one_if (is_listed k v)) (sym (h n));
    done_is = λ n. a.done_is n ∙ ap outcome_at (sym (h n));
    done_once = λ n. a.done_once n ∙ ap (λ (v : Fate). one_if (is_done v)) (sym (h n));
    fits = λ n. subst FitsFate (sym (h n)) (a.fits n);
    many = a.many;
  }

-- ---- the fate of a number is where it stands
abbrev done_or : Option Outcome → Fate → Fate
done_or None other = other
done_or (Some o) other = Done o

done_lookup : (outcomes : List (ℕ × Outcome)) (n : ℕ) (other : Fate) → done_by outcomes n other ≡ done_or (outcome_of outcomes n) other
done_lookup [] n other = refl
done_lookup (d ∷ outcomes) n other = elim (cases_Bool (nat_eq d.0 n)) [
  | inl e ↦
      cond-true (nat_eq d.0 n) (Done d.1) (done_by outcomes n other) e
      ∙ ap (λ (o : Option Outcome). done_or o other) (sym (cond-true (nat_eq d.0 n) (Some d.1) (outcome_of outcomes n) e))
  | inr e ↦
      cond-false (nat_eq d.0 n) (Done d.1) (done_by outcomes n other) e
      ∙ done_lookup outcomes n other
      ∙ ap (λ (o : Option Outcome). done_or o other) (sym (cond-false (nat_eq d.0 n) (Some d.1) (outcome_of outcomes n) e))
]

waits_none : (k : ℕ) (lists : List (List ℕ)) (n : ℕ) (other : Fate) → ((j : ℕ) → has_number (list_at lists j) n ≡ false) → waits_from k lists n other ≡ other
waits_none k [] n other h = refl
waits_none k (list ∷ lists) n other h =
    cond-false (has_number list n) (cond (nat_eq k 64) Last (Queue (k + 1))) (waits_from (k + 1) lists n other) (h 0)
    ∙ waits_none (k + 1) lists n other (λ j. h (suc j))

waits_at : (k : ℕ) (lists : List (List ℕ)) (n : ℕ) (other : Fate) (j at : ℕ) → j < length lists → at ≡ k + j → has_number (list_at lists j) n ≡ true
    → ((i : ℕ) → i < j → has_number (list_at lists i) n ≡ false) → waits_from k lists n other ≡ cond (nat_eq at 64) Last (Queue (at + 1))
waits_at k [] n other j at lt is h before = absurd (omega arith)
waits_at k (list ∷ lists) n other zero at lt is h before =
    let same : at ≡ k = omega arith in
    cond-true (has_number list n) (cond (nat_eq k 64) Last (Queue (k + 1))) (waits_from (k + 1) lists n other) h
    ∙ ap (λ m. cond (nat_eq m 64) Last (Queue (m + 1))) (sym same)
waits_at k (list ∷ lists) n other (suc j) at lt is h before =
    cond-false (has_number list n) (cond (nat_eq k 64) Last (Queue (k + 1))) (waits_from (k + 1) lists n other) (before 0 (omega arith))
    ∙ waits_at (k + 1) lists n other j at (omega arith) (omega arith) h (λ i below. before (suc i) (omega arith))

abbrev stands : List ℕ → List (List ℕ) → List (ℕ × Outcome) → ℕ → Fate
stands front lists done n = cond (has_number front n) Front (waits_from 0 lists n (done_by done n Fresh))

module _ {f : ℕ → Fate} {front : List ℕ} {lists : List (List ℕ)} {done : List (ℕ × Outcome)} where
  behind : Agree f front lists done → (n : ℕ) (v : Fate) → f n ≡ v → is_front v ≡ false → stands front lists done n ≡ waits_from 0 lists n (done_by done n Fresh)
  behind a n v e outside =
      cond-false (has_number front n) Front (waits_from 0 lists n (done_by done n Fresh)) (in_front a n ∙ ap is_front e ∙ outside)

  unlisted : Agree f front lists done → (n : ℕ) (v : Fate) → f n ≡ v → ((k : ℕ) → is_listed k v ≡ false) → waits_from 0 lists n (done_by done n Fresh) ≡ done_or (outcome_at v) Fresh
  unlisted a n v e nowhere =
      waits_none 0 lists n (done_by done n Fresh) (λ k. in_list a k n ∙ ap (is_listed k) e ∙ nowhere k)
      ∙ done_lookup done n Fresh ∙ ap (λ (o : Option Outcome). done_or o Fresh) (a.done_is n ∙ ap outcome_at e)

  stands_at : Agree f front lists done → (n : ℕ) (v : Fate) → f n ≡ v → stands front lists done n ≡ v
  stands_at a n Fresh e = behind a n Fresh e refl ∙ unlisted a n Fresh e (λ k. refl)
  stands_at a n (Queue i) e =
      let fits : (1 ≤ i) × (i ≤ 64) = subst FitsFate e (a.fits n) in
      let least : 1 ≤ i = fits.0 in
      let most : i ≤ 64 = fits.1 in
      behind a n (Queue i) e refl
      ∙ waits_at 0 lists n (done_by done n Fresh) (i - 1) (i - 1) (omega (arith, a.many)) (omega arith)
      (in_list a (i - 1) n ∙ ap (is_listed (i - 1)) e ∙ eq-eqb (i - 1 + 1) i (omega arith))
      (λ k below. in_list a k n ∙ ap (is_listed k) e ∙ ne_eqb (k + 1) i (λ h. omega arith))
      ∙ cond-false (nat_eq (i - 1) 64) Last (Queue (i - 1 + 1)) (ne_eqb (i - 1) 64 (λ h. omega arith))
      ∙ ap Queue (omega arith)
  stands_at a n Last e =
      behind a n Last e refl
      ∙ waits_at 0 lists n (done_by done n Fresh) 64 64 (omega (arith, a.many)) refl (in_list a 64 n ∙ ap (is_listed 64) e)
      (λ k below. in_list a k n ∙ ap (is_listed k) e ∙ ne_eqb k 64 (λ h. omega arith))
  stands_at a n Front e =
      cond-true (has_number front n) Front (waits_from 0 lists n (done_by done n Fresh)) (in_front a n ∙ ap is_front e)
  stands_at a n (Done o) e = behind a n (Done o) e refl ∙ unlisted a n (Done o) e (λ k. refl)

  pub stands_where : Agree f front lists done → (n : ℕ) → f n ≡ cond (has_number front n) Front (waits_from 0 lists n (done_by done n Fresh))
  stands_where a n = sym (stands_at a n (f n) refl)

-- ---- a list is taken out
abbrev pub cleared : (ℕ → Fate) → List ℕ → ℕ → Fate
cleared f list n = cond (has_number list n) Fresh (f n)

module _ {f : ℕ → Fate} {front : List ℕ} {lists : List (List ℕ)} {done : List (ℕ × Outcome)} where
  pub take_out : (p : ℕ) → p < 65 → Agree f front lists done → Agree (cleared f (list_at lists p)) front (set lists p []) done
  take_out p lt a =
      let out : List ℕ = list_at lists p in
      let within : p < length lists = omega (arith, a.many) in
      let gone = λ (n : ℕ) (e : has_number out n ≡ true). cond-true (has_number out n) Fresh (f n) e in
      let stays = λ (n : ℕ) (e : has_number out n ≡ false). cond-false (has_number out n) Fresh (f n) e in
      let only = λ (n : ℕ) (e : has_number out n ≡ true). listed_only p (f n) (sym (in_list a p n) ∙ e) in
      record {
        front_is = λ n. elim (cases_Bool (has_number out n)) [
          | inl e ↦ a.front_is n ∙ ap one_if ((only n e).front ∙ sym (ap is_front (gone n e)))
          | inr e ↦ a.front_is n ∙ ap one_if (ap is_front (sym (stays n e)))
        ];
        lists_are = λ k n. elim (cases_eq k p) [
          | inl here ↦
              ap (count n) (ap (list_at (set lists p [])) here ∙ get_or-set_same lists p [] [] within)
              ∙ elim (cases_Bool (has_number out n)) [
                | inl e ↦ sym (ap one_if (ap (is_listed k) (gone n e)))
                | inr e ↦ sym (ap one_if (ap (is_listed k) (stays n e) ∙ ap (λ (m : ℕ). is_listed m (f n)) here ∙ sym (in_list a p n) ∙ e))
              ]
          | inr other ↦
              ap (count n) (get_or-set_other lists p k [] [] other) ∙ a.lists_are k n
              ∙ elim (cases_Bool (has_number out n)) [
                | inl e ↦ ap one_if ((only n e).others k other ∙ sym (ap (is_listed k) (gone n e)))
                | inr e ↦ ap one_if (ap (is_listed k) (sym (stays n e)))
              ]
        ];
        done_is = λ n. a.done_is n ∙ elim (cases_Bool (has_number out n)) [
          | inl e ↦ (only n e).outcome ∙ sym (ap outcome_at (gone n e))
          | inr e ↦ ap outcome_at (sym (stays n e))
        ];
        done_once = λ n. a.done_once n ∙ elim (cases_Bool (has_number out n)) [
          | inl e ↦ ap one_if ((only n e).open_yet ∙ sym (ap is_done (gone n e)))
          | inr e ↦ ap one_if (ap is_done (sym (stays n e)))
        ];
        fits = λ n. elim (cases_Bool (has_number out n)) [
          | inl e ↦ subst FitsFate (sym (gone n e)) tt
          | inr e ↦ subst FitsFate (sym (stays n e)) (a.fits n)
        ];
        many = length-set lists p [] ∙ a.many;
      }

-- ---- a number is put in its place
front_slot : (s : Slot) → is_front (fate_of_slot s) ≡ is_in_front s
front_slot InFront = refl
front_slot (InQueue i) = refl
front_slot InLast = refl

no_outcome_slot : (s : Slot) → outcome_at (fate_of_slot s) ≡ None
no_outcome_slot InFront = refl
no_outcome_slot (InQueue i) = refl
no_outcome_slot InLast = refl

not_done_slot : (s : Slot) → is_done (fate_of_slot s) ≡ false
not_done_slot InFront = refl
not_done_slot (InQueue i) = refl
not_done_slot InLast = refl

fits_slot : (s : Slot) → FitsSlot s → FitsFate (fate_of_slot s)
fits_slot InFront h = tt
fits_slot (InQueue i) h = h
fits_slot InLast h = tt

-- one more in a list at a place, or none
abbrev more_if : Bool → Bool → ℕ
more_if same there = cond same (one_if there) 0

plus_none : (a b : ℕ) → b ≡ 0 → a ≡ a + b
plus_none a b e = omega arith

none_and : (n : ℕ) → 0 + n ≡ n
none_and n = omega arith

none_more : (b : Bool) → more_if b false ≡ 0
none_more true = refl
none_more false = refl

one_more : (b : Bool) → more_if b true ≡ one_if b
one_more true = refl
one_more false = refl

count_at : (lists : List (List ℕ)) (at n k q : ℕ) (b : Bool) → at < length lists → ((k ≡ at) → b ≡ true) → ((k ≡ at → ⊥) → b ≡ false)
    → count q (list_at (set lists at (list_at lists at ++ n ∷ [])) k) ≡ count q (list_at lists k) + more_if (nat_eq n q) b
count_at lists at n k q b lt here there = elim (cases_eq k at) [
  | inl e ↦
      let set_here : list_at (set lists at (list_at lists at ++ n ∷ [])) k ≡ list_at lists at ++ n ∷ [] = ap (list_at (set lists at (list_at lists at ++ n ∷ []))) e
      ∙ get_or-set_same lists at (list_at lists at ++ n ∷ []) [] lt in
      ap (count q) set_here ∙ count_push q n (list_at lists at)
      ∙ ap (λ (m : ℕ). count q (list_at lists m) + one_if (nat_eq n q)) (sym e)
      ∙ ap (λ (m : ℕ). count q (list_at lists k) + m) (sym (one_more (nat_eq n q)) ∙ ap (more_if (nat_eq n q)) (sym (here e)))
  | inr e ↦
      ap (count q) (get_or-set_other lists at k (list_at lists at ++ n ∷ []) [] e)
      ∙ plus_none (count q (list_at lists k)) (more_if (nat_eq n q) b) (ap (more_if (nat_eq n q)) (there e) ∙ none_more (nat_eq n q))
]

pub count_put : (lists : List (List ℕ)) (n : ℕ) (s : Slot) → length lists ≡ 65 → FitsSlot s → (k q : ℕ)
    → count q (list_at (put lists n s) k) ≡ count q (list_at lists k) + more_if (nat_eq n q) (is_listed k (fate_of_slot s))
count_put lists n InFront many fits k q = plus_none _ _ (none_more (nat_eq n q))
count_put lists n (InQueue i) many fits k q =
    let least : 1 ≤ i = fits.0 in
    let most : i ≤ 64 = fits.1 in
    count_at lists (i - 1) n k q (nat_eq (k + 1) i) (omega arith) (λ e. eq-eqb (k + 1) i (omega arith)) (λ e. ne_eqb (k + 1) i (λ h. e (omega arith)))
count_put lists n InLast many fits k q = count_at lists 64 n k q (nat_eq k 64) (omega arith) (λ e. eq-eqb k 64 e) (λ e. ne_eqb k 64 e)

pub length-put : (lists : List (List ℕ)) (n : ℕ) (s : Slot) → length (put lists n s) ≡ length lists
length-put lists n InFront = refl
length-put lists n (InQueue i) = length-set lists (i - 1) (list_at lists (i - 1) ++ n ∷ [])
length-put lists n InLast = length-set lists 64 (list_at lists 64 ++ n ∷ [])

-- the front after one more place
abbrev pub front_with : List ℕ → ℕ → Slot → List ℕ
front_with front n s = front ++ cond (is_in_front s) (n ∷ []) []

count_front : (front : List ℕ) (n q : ℕ) (b : Bool) → count q (front ++ cond b (n ∷ []) []) ≡ count q front + more_if (nat_eq n q) b
count_front front n q true =
    count_push q n front ∙ ap (λ (m : ℕ). count q front + m) (sym (one_more (nat_eq n q)))
count_front front n q false =
    ap (count q) (append-nil front) ∙ plus_none (count q front) (more_if (nat_eq n q) false) (none_more (nat_eq n q))

abbrev pub placed_at : (ℕ → Fate) → ℕ → Slot → ℕ → Fate
placed_at f n s q = cond (nat_eq n q) (fate_of_slot s) (f q)

module _ {f : ℕ → Fate} {front : List ℕ} {lists : List (List ℕ)} {done : List (ℕ × Outcome)} where
  pub put_one : (n : ℕ) (s : Slot) → FitsSlot s → f n ≡ Fresh → Agree f front lists done → Agree (placed_at f n s) (front_with front n s) (put lists n s) done
  put_one n s slot free a =
      let now = λ (q : ℕ) (e : nat_eq n q ≡ true). cond-true (nat_eq n q) (fate_of_slot s) (f q) e in
      let stays = λ (q : ℕ) (e : nat_eq n q ≡ false). cond-false (nat_eq n q) (fate_of_slot s) (f q) e in
      let was = λ (q : ℕ) (e : nat_eq n q ≡ true). subst (λ (m : ℕ). f m ≡ Fresh) (eqb-true n q e) free in
      record {
        front_is = λ q. count_front front n q (is_in_front s) ∙ elim (cases_Bool (nat_eq n q)) [
          | inl e ↦
              ap (λ (m : ℕ). m + more_if (nat_eq n q) (is_in_front s)) (a.front_is q ∙ ap one_if (no_front (f q) (was q e)))
              ∙ ap (λ b. 0 + more_if b (is_in_front s)) e ∙ none_and (one_if (is_in_front s))
              ∙ ap one_if (sym (front_slot s) ∙ ap is_front (sym (now q e)))
          | inr e ↦
              ap (λ b. count q front + more_if b (is_in_front s)) e ∙ sym (plus_none (count q front) 0 refl) ∙ a.front_is q
              ∙ ap one_if (ap is_front (sym (stays q e)))
        ];
        lists_are = λ k q. count_put lists n s a.many slot k q ∙ elim (cases_Bool (nat_eq n q)) [
          | inl e ↦
              ap (λ (m : ℕ). m + more_if (nat_eq n q) (is_listed k (fate_of_slot s))) (a.lists_are k q ∙ ap one_if (no_list k (f q) (was q e)))
              ∙ ap (λ b. 0 + more_if b (is_listed k (fate_of_slot s))) e ∙ none_and (one_if (is_listed k (fate_of_slot s)))
              ∙ ap one_if (ap (is_listed k) (sym (now q e)))
          | inr e ↦
              ap (λ b. count q (list_at lists k) + more_if b (is_listed k (fate_of_slot s))) e ∙ sym (plus_none (count q (list_at lists k)) 0 refl)
              ∙ a.lists_are k q ∙ ap one_if (ap (is_listed k) (sym (stays q e)))
        ];
        done_is = λ q. a.done_is q ∙ elim (cases_Bool (nat_eq n q)) [
          | inl e ↦ no_outcome (f q) (was q e) ∙ sym (no_outcome_slot s) ∙ ap outcome_at (sym (now q e))
          | inr e ↦ ap outcome_at (sym (stays q e))
        ];
        done_once = λ q. a.done_once q ∙ elim (cases_Bool (nat_eq n q)) [
          | inl e ↦ ap one_if (ap is_done (was q e) ∙ sym (not_done_slot s) ∙ ap is_done (sym (now q e)))
          | inr e ↦ ap one_if (ap is_done (sym (stays q e)))
        ];
        fits = λ q. elim (cases_Bool (nat_eq n q)) [
          | inl e ↦ subst FitsFate (sym (now q e)) (fits_slot s slot)
          | inr e ↦ subst FitsFate (sym (stays q e)) (a.fits q)
        ];
        many = length-put lists n s ∙ a.many;
      }

-- ---- the last list becomes queue 1, which is empty
abbrev pub turned : (ℕ → Fate) → List ℕ → ℕ → Fate
turned f last n = cond (has_number last n) (Queue 1) (f n)

module _ {f : ℕ → Fate} {front : List ℕ} {lists : List (List ℕ)} {done : List (ℕ × Outcome)} where
  pub turn : list_at lists 0 ≡ [] → Agree f front lists done → Agree (turned f (list_at lists 64)) front (set (set lists 64 []) 0 (list_at lists 64)) done
  turn empty a =
      let last : List ℕ = list_at lists 64 in
      let out : List (List ℕ) = set lists 64 [] in
      let many : length lists ≡ 65 = a.many in
      let now = λ (n : ℕ) (e : has_number last n ≡ true). cond-true (has_number last n) (Queue 1) (f n) e in
      let stays = λ (n : ℕ) (e : has_number last n ≡ false). cond-false (has_number last n) (Queue 1) (f n) e in
      let only = λ (n : ℕ) (e : has_number last n ≡ true). listed_only 64 (f n) (sym (in_list a 64 n) ∙ e) in
      let first : list_at (set out 0 last) 0 ≡ last = get_or-set_same out 0 last [] (omega (arith, length-set lists 64 [])) in
      record {
        front_is = λ n. a.front_is n ∙ elim (cases_Bool (has_number last n)) [
          | inl e ↦ ap one_if ((only n e).front ∙ sym (ap is_front (now n e)))
          | inr e ↦ ap one_if (ap is_front (sym (stays n e)))
        ];
        lists_are = λ k n. elim (cases_eq k 0) [
          | inl here ↦
              ap (count n) (ap (list_at (set out 0 last)) here ∙ first) ∙ a.lists_are 64 n ∙ ap one_if (sym (in_list a 64 n))
              ∙ elim (cases_Bool (has_number last n)) [
                | inl e ↦ ap one_if (e ∙ sym (eq-eqb (k + 1) 1 (omega arith)) ∙ ap (is_listed k) (sym (now n e)))
                | inr e ↦
                    let none : has_number (list_at lists 0) n ≡ false = ap (λ (t : List ℕ). has_number t n) empty in
                    ap one_if (e ∙ sym none ∙ in_list a 0 n ∙ ap (λ (m : ℕ). is_listed m (f n)) (sym here) ∙ ap (is_listed k) (sym (stays n e)))
              ]
          | inr other ↦
              ap (count n) (get_or-set_other out 0 k last [] other)
              ∙ elim (cases_eq k 64) [
                | inl there ↦
                    ap (count n) (ap (list_at out) there ∙ get_or-set_same lists 64 [] [] (omega arith))
                    ∙ elim (cases_Bool (has_number last n)) [
                      | inl e ↦ ap one_if (sym (ne_eqb (k + 1) 1 (λ h. omega arith)) ∙ ap (is_listed k) (sym (now n e)))
                      | inr e ↦ ap one_if (sym e ∙ in_list a 64 n ∙ ap (λ (m : ℕ). is_listed m (f n)) (sym there) ∙ ap (is_listed k) (sym (stays n e)))
                    ]
                | inr between ↦
                    ap (count n) (get_or-set_other lists 64 k [] [] between) ∙ a.lists_are k n
                    ∙ elim (cases_Bool (has_number last n)) [
                      | inl e ↦ ap one_if ((only n e).others k between ∙ sym (ne_eqb (k + 1) 1 (λ h. other (omega arith))) ∙ ap (is_listed k) (sym (now n e)))
                      | inr e ↦ ap one_if (ap (is_listed k) (sym (stays n e)))
                    ]
              ]
        ];
        done_is = λ n. a.done_is n ∙ elim (cases_Bool (has_number last n)) [
          | inl e ↦ (only n e).outcome ∙ sym (ap outcome_at (now n e))
          | inr e ↦ ap outcome_at (sym (stays n e))
        ];
        done_once = λ n. a.done_once n ∙ elim (cases_Bool (has_number last n)) [
          | inl e ↦ ap one_if ((only n e).open_yet ∙ sym (ap is_done (now n e)))
          | inr e ↦ ap one_if (ap is_done (sym (stays n e)))
        ];
        fits = λ n. elim (cases_Bool (has_number last n)) [
          | inl e ↦ subst FitsFate (sym (now n e)) (omega arith, omega arith)
          | inr e ↦ subst FitsFate (sym (stays n e)) (a.fits n)
        ];
        many = length-set out 0 last ∙ length-set lists 64 [] ∙ many;
      }

  -- what is in the front stays there
  pub turn_front : Agree f front lists done → (n : ℕ) → is_front (turned f (list_at lists 64) n) ≡ is_front (f n)
  turn_front a n = elim (cases_Bool (has_number (list_at lists 64) n)) [
    | inl e ↦
        ap is_front (cond-true (has_number (list_at lists 64) n) (Queue 1) (f n) e)
        ∙ sym (listed_only 64 (f n) (sym (in_list a 64 n) ∙ e)).front
    | inr e ↦ ap is_front (cond-false (has_number (list_at lists 64) n) (Queue 1) (f n) e)
  ]
