-- Entries that rise by number: what a search finds, and what a change leaves.
use Rattle.std.proofs.Common.{◌≡◌, ◌≢◌, ◌∙◌, ℕ, ◌+◌, ◌<◌, ◌≤◌, zero, suc, List, [], ◌∷◌, ◌++◌, length, get_or, set, sym, ap, arith, refl, Bool, true, false, cond, inl, inr}
use Rattle.std.specs.Prelude.{Result, Ok, Err, IfOk, IfErr, ◌&&◌, nat_eq, nat_le, nat_lt, Vec}
use Rattle.std.specs.Vec.{with_items}
use Rattle.std.specs.Ordering.{nat_cmp, ordering_index}
use Rattle.std.specs.List.Sorted.{IsSearchInRange, IsBinarySearchResult, IsNonDecreasingBy}
use Rattle.std.proofs.lemmas.Cmp.{ranked}
use Rattle.std.proofs.lemmas.Bool.{cases_Bool, cases_eq, cases_lt, and_parts, or_parts, or_from, ne_eqb, eq-eqb, eqb-true, leb-true, cond-true, cond-false}
use Rattle.std.proofs.lemmas.Bool.Decides.{nat_tests}
use Rattle.std.proofs.lemmas.List.{get_or-map, length-map, with_items_is}
use Rattle.std.proofs.lemmas.List.Sorted.{IsNonDecreasingBy-from_default}
use Rattle.std.proofs.Math.Seq.{map-set_same}
use Rattle.irl_events.specs.Events.{has_number}
use Rattle.irl_events.specs.Legal.{are_rising}
use Rattle.irl_fate.specs.declared.fate.Fate.{Fate}
use Rattle.irl_fate.specs.declared.fate.Fate.TheVariants.{Fresh}
use Rattle.irl_fate.specs.Kept.{fate_in, numbers_in, AreSorted, HasEntry, IsAt}

-- ---- numbers
absent_by : (ns : List ℕ) (n : ℕ) → ((i : ℕ) → i < length ns → get_or ns i 0 ≢ n) → has_number ns n ≡ false
absent_by [] n h = refl
absent_by (m ∷ ns) n h =
    or_from (nat_eq m n) (has_number ns n) (ne_eqb m n (h 0 (omega arith))) (absent_by ns n (λ i lt. h (suc i) (omega arith)))

-- numbers that rise are at least the one from which on
rising_least : (from to : ℕ) (ns : List ℕ) (i : ℕ) → are_rising from to ns ≡ true → i < length ns → from ≤ get_or ns i 0
rising_least from to [] i h lt = absurd (omega arith)
rising_least from to (m ∷ ns) zero h lt =
    leb-true from m (and_parts (nat_le from m) (nat_lt m to) (and_parts (nat_le from m && nat_lt m to) (are_rising (m + 1) to ns) h).0).0
rising_least from to (m ∷ ns) (suc i) h lt =
    let parts = and_parts (nat_le from m && nat_lt m to) (are_rising (m + 1) to ns) h in
    let low : from ≤ m = leb-true from m (and_parts (nat_le from m) (nat_lt m to) parts.0).0 in
    let rest : m + 1 ≤ get_or ns i 0 = rising_least (m + 1) to ns i parts.1 (omega arith) in
    omega arith

pub rising_sorted : (from to : ℕ) (ns : List ℕ) → are_rising from to ns ≡ true → AreSorted ns
rising_sorted from to [] h i j lt within = absurd (omega arith)
rising_sorted from to (m ∷ ns) h zero zero lt within = absurd (omega arith)
rising_sorted from to (m ∷ ns) h zero (suc j) lt within =
    let rest : m + 1 ≤ get_or ns j 0 = rising_least (m + 1) to ns j (and_parts (nat_le from m && nat_lt m to) (are_rising (m + 1) to ns) h).1 (omega arith) in
    omega arith
rising_sorted from to (m ∷ ns) h (suc i) zero lt within = absurd (omega arith)
rising_sorted from to (m ∷ ns) h (suc i) (suc j) lt within =
    rising_sorted (m + 1) to ns (and_parts (nat_le from m && nat_lt m to) (are_rising (m + 1) to ns) h).1 i j (omega arith) (omega arith)

rises : (ns : List ℕ) → AreSorted ns → (i j : ℕ) → i ≤ j → j < length ns → get_or ns i 0 ≤ get_or ns j 0
rises ns sorted i j le lt = elim (cases_eq i j) [
  | inl same ↦ let at : get_or ns i 0 ≡ get_or ns j 0 = ap (λ k. get_or ns k 0) same in omega arith
  | inr other ↦ let less : get_or ns i 0 < get_or ns j 0 = sorted i j (omega arith) lt in omega arith
]

-- ---- entries
key_at : (l : List (ℕ × Fate)) (i : ℕ) (d : ℕ × Fate) → i < length l → get_or (numbers_in l) i 0 ≡ (get_or l i d).0
key_at l i d lt = get_or-map (λ (e : ℕ × Fate). e.0) l i d 0 lt

pub count_in : (l : List (ℕ × Fate)) → length (numbers_in l) ≡ length l
count_in l = length-map l (λ (e : ℕ × Fate). e.0)

pub fate_absent : (l : List (ℕ × Fate)) (n : ℕ) → has_number (numbers_in l) n ≡ false → fate_in l n ≡ Fresh
fate_absent [] n h = refl
fate_absent (e ∷ l) n h =
    let parts = or_parts (nat_eq e.0 n) (has_number (numbers_in l) n) h in
    cond-false (nat_eq e.0 n) e.1 (fate_in l n) parts.0 ∙ fate_absent l n parts.1

-- a number that isn't fresh has an entry
pub entry_of : (l : List (ℕ × Fate)) (n : ℕ) → fate_in l n ≢ Fresh → HasEntry l n
entry_of l n h = elim (cases_Bool (has_number (numbers_in l) n)) [
  | inl there ↦ there
  | inr none ↦ absurd (h (fate_absent l n none))
]

-- the first entry of a number
abbrev NoneBefore : List (ℕ × Fate) → ℕ → ℕ → Type 0
NoneBefore l n i = (j : ℕ) → j < i → get_or (numbers_in l) j 0 ≢ n

fate_first : (l : List (ℕ × Fate)) (n i : ℕ) (d : ℕ × Fate) → IsAt l n i → NoneBefore l n i → fate_in l n ≡ (get_or l i d).1
fate_first [] n i d at none = absurd (omega (arith, at.within))
fate_first (e ∷ l) n zero d at none = cond-true (nat_eq e.0 n) e.1 (fate_in l n) (eq-eqb e.0 n at.number)
fate_first (e ∷ l) n (suc i) d at none =
    cond-false (nat_eq e.0 n) e.1 (fate_in l n) (ne_eqb e.0 n (none 0 (omega arith)))
    ∙ fate_first l n i d (record { within = omega (arith, at.within); number = at.number }) (λ j lt. none (suc j) (omega arith))

two_fates : (a b : Bool) (x y z : Fate) → (a ≡ true → b ≡ true → x ≡ y) → cond a x (cond b y z) ≡ cond b y (cond a x z)
two_fates true true x y z h = h refl refl
two_fates true false x y z h = refl
two_fates false true x y z h = refl
two_fates false false x y z h = refl

fate_set : (l : List (ℕ × Fate)) (n i : ℕ) (f : Fate) (q : ℕ) → IsAt l n i → NoneBefore l n i → fate_in (set l i (n, f)) q ≡ cond (nat_eq n q) f (fate_in l q)
fate_set [] n i f q at none = absurd (omega (arith, at.within))
fate_set (e ∷ l) n zero f q at none = elim (cases_Bool (nat_eq n q)) [
  | inl here ↦
      cond-true (nat_eq n q) f (fate_in l q) here ∙ sym (cond-true (nat_eq n q) f (cond (nat_eq e.0 q) e.1 (fate_in l q)) here)
  | inr other ↦
      let apart : nat_eq e.0 q ≡ false = ap (λ m. nat_eq m q) at.number ∙ other in
      cond-false (nat_eq n q) f (fate_in l q) other
      ∙ sym (cond-false (nat_eq n q) f (cond (nat_eq e.0 q) e.1 (fate_in l q)) other ∙ cond-false (nat_eq e.0 q) e.1 (fate_in l q) apart)
]
fate_set (e ∷ l) n (suc i) f q at none =
    ap (cond (nat_eq e.0 q) e.1) (fate_set l n i f q (record { within = omega (arith, at.within); number = at.number }) (λ j lt. none (suc j) (omega arith)))
    ∙ two_fates (nat_eq e.0 q) (nat_eq n q) e.1 f (fate_in l q) (λ a b. absurd (none 0 (omega arith) (eqb-true e.0 q a ∙ sym (eqb-true n q b))))

module _ (l : List (ℕ × Fate)) (sorted : AreSorted (numbers_in l)) (n : ℕ) where
  comparisons_rise : IsNonDecreasingBy (λ (e : ℕ × Fate). ordering_index (nat_cmp e.0 n)) l
  comparisons_rise =
      IsNonDecreasingBy-from_default (λ (e : ℕ × Fate). ordering_index (nat_cmp e.0 n)) l (0, Fresh) (λ i j le within.
      let keys : get_or (numbers_in l) i 0 ≤ get_or (numbers_in l) j 0 = rises (numbers_in l) sorted i j le (omega (arith, count_in l)) in
      let one : get_or (numbers_in l) i 0 ≡ (get_or l i (0, Fresh)).0 = key_at l i (0, Fresh) (omega arith) in
      let other : get_or (numbers_in l) j 0 ≡ (get_or l j (0, Fresh)).0 = key_at l j (0, Fresh) within in
      let keys_rise : (get_or l i (0, Fresh)).0 ≤ (get_or l j (0, Fresh)).0 = omega arith in
      grind (arith, nat_tests))

  -- a binary search by number ends at its entry, or there is none
  pub searched : (r : Result ℕ ℕ) → IsSearchInRange r (length l) → IsBinarySearchResult (λ (e : ℕ × Fate). nat_cmp e.0 n) l r
      → record { found : IfOk r (λ at. IsAt l n at); absent : IfErr r (λ _. has_number (numbers_in l) n ≡ false) }
  searched (Ok at) within equal = record {
    found = record { within = within; number = key_at l at (0, Fresh) within ∙ ranked _ n _ (sym (equal (0, Fresh))) };
    absent = tt;
  }
  searched (Err at) within parted = record {
    found = tt;
    absent = absent_by (numbers_in l) n (λ j lt same.
        let inside : j < length l = omega (arith, count_in l) in
        let key : get_or (numbers_in l) j 0 ≡ (get_or l j (0, Fresh)).0 = key_at l j (0, Fresh) inside in
        elim (cases_lt j at) [
          | inl before ↦
              let less : (get_or l j (0, Fresh)).0 < n = ranked _ n _ (sym ((parted comparisons_rise).0 j (0, Fresh) (omega arith) before)) in
              omega arith
          | inr behind ↦
              let more : n < (get_or l j (0, Fresh)).0 = ranked _ n _ (sym ((parted comparisons_rise).1 j (0, Fresh) behind inside)) in
              omega arith
        ]);
  }

  none_before : (at : ℕ) → IsAt l n at → NoneBefore l n at
  none_before at is j lt same =
      let less : get_or (numbers_in l) j 0 < get_or (numbers_in l) at 0 = sorted j at lt (omega (arith, is.within, count_in l)) in
      omega (arith, is.number)

  pub fate_there : (at : ℕ) (d : ℕ × Fate) → IsAt l n at → fate_in l n ≡ (get_or l at d).1
  fate_there at d is = fate_first l n at d is (none_before at is)

  pub fate_written : (at : ℕ) (f : Fate) → IsAt l n at → (q : ℕ) → fate_in (set l at (n, f)) q ≡ cond (nat_eq n q) f (fate_in l q)
  fate_written at f is q = fate_set l n at f q is (none_before at is)

  pub numbers_written : (at : ℕ) (f : Fate) → IsAt l n at → numbers_in (set l at (n, f)) ≡ numbers_in l
  numbers_written at f is =
      map-set_same (λ (e : ℕ × Fate). e.0) l at (n, f) (0, Fresh) (sym is.number ∙ key_at l at (0, Fresh) is.within)

-- a vector whose entries were given other fates
pub with_same : {A : Type 0} (v : Vec (ℕ × Fate) A) (lent new : List (ℕ × Fate)) → lent ≡ v.items → numbers_in new ≡ numbers_in lent → (with_items v new).items ≡ new
with_same v lent new same numbers = with_items_is v new (sym (count_in new) ∙ ap length numbers ∙ count_in lent ∙ ap length same ∙ sym v.ok.0)

-- ---- one more
pub fate_fresh_more : (l : List (ℕ × Fate)) (n q : ℕ) → fate_in (l ++ (n, Fresh) ∷ []) q ≡ fate_in l q
fate_fresh_more [] n q = elim (cases_Bool (nat_eq n q)) [
  | inl here ↦ cond-true (nat_eq n q) Fresh Fresh here
  | inr other ↦ cond-false (nat_eq n q) Fresh Fresh other
]
fate_fresh_more (e ∷ l) n q = ap (cond (nat_eq e.0 q) e.1) (fate_fresh_more l n q)
