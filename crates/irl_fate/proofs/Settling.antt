-- Numbers of the front are done.
use Rattle.std.proofs.Common.{◌≡◌, ◌∙◌, ℕ, ◌+◌, List, [], ◌∷◌, ◌++◌, length, sym, ap, arith, refl, Bool, true, false, cond, not, inl, inr, subst}
use Rattle.std.specs.Prelude.{◌&&◌, ◌||◌, nat_eq, nat_lt, Option, None, Some}
use Rattle.std.specs.Option.{option_or}
use Rattle.std.specs.List.{list_all}
use Rattle.std.proofs.lemmas.Bool.{cases_Bool, and_parts, or_parts, or_cases, eqb-true, cond-true, cond-false, false≢true}
use Rattle.std.proofs.lemmas.List.{length-map, map-append}
use Rattle.irl_offer.specs.declared.outcome.Outcome.{Outcome}
use Rattle.irl_events.specs.Events.{Progress, Settle, has_number, without}
use Rattle.irl_events.specs.Legal.{are_distinct, none_fell, one_rose, settles}
use Rattle.irl_fate.specs.declared.fate.Fate.{Fate}
use Rattle.irl_fate.specs.declared.fate.Fate.TheVariants.{Fresh, Front, Done}
use Rattle.irl_fate.specs.Fates.{done_by}
use Rattle.irl_fate.specs.Kept.{fate_in, front_left, is_front, is_listed, is_done, outcome_at, FitsFate, count, one_if, outcome_of, Agree}
use Rattle.irl_fate.proofs.Counting.{count_filter, filter_same, filter_both, one_true, length_without, count_append, count_distinct, absent_count}
use Rattle.irl_fate.proofs.Marking.{numbers_done, done_absent}
use Rattle.irl_fate.proofs.Agreeing.{front_only}

-- what came of a number that is among some outcomes
pub record CameOf (outcomes : List (ℕ × Outcome)) (n : ℕ) (other : Fate) : Type 0 where
  outcome : Outcome
  pub fate : done_by outcomes n other ≡ Done outcome
  looked : outcome_of outcomes n ≡ Some outcome

pub came_of : (outcomes : List (ℕ × Outcome)) (n : ℕ) (other : Fate) → has_number (numbers_done outcomes) n ≡ true → CameOf outcomes n other
came_of [] n other h = absurd (false≢true h)
came_of (d ∷ outcomes) n other h = elim (cases_Bool (nat_eq d.0 n)) [
  | inl e ↦ record {
    outcome = d.1;
    fate = cond-true (nat_eq d.0 n) (Done d.1) (done_by outcomes n other) e;
    looked = cond-true (nat_eq d.0 n) (Some d.1) (outcome_of outcomes n) e;
  }
  | inr e ↦
      let there : has_number (numbers_done outcomes) n ≡ true = ap (λ b. b || has_number (numbers_done outcomes) n) (sym e) ∙ h in
      let rest = came_of outcomes n other there in
      record {
        outcome = rest.outcome;
        fate = cond-false (nat_eq d.0 n) (Done d.1) (done_by outcomes n other) e ∙ rest.fate;
        looked = cond-false (nat_eq d.0 n) (Some d.1) (outcome_of outcomes n) e ∙ rest.looked;
      }
]

outcome_absent : (outcomes : List (ℕ × Outcome)) (n : ℕ) → has_number (numbers_done outcomes) n ≡ false → outcome_of outcomes n ≡ None
outcome_absent [] n h = refl
outcome_absent (d ∷ outcomes) n h =
    let parts = or_parts (nat_eq d.0 n) (has_number (numbers_done outcomes) n) h in
    cond-false (nat_eq d.0 n) (Some d.1) (outcome_of outcomes n) parts.0 ∙ outcome_absent outcomes n parts.1

outcome_both : (done outcomes : List (ℕ × Outcome)) (n : ℕ) → outcome_of (done ++ outcomes) n ≡ option_or (outcome_of done n) (outcome_of outcomes n)
outcome_both [] outcomes n = refl
outcome_both (d ∷ done) outcomes n = elim (cases_Bool (nat_eq d.0 n)) [
  | inl e ↦
      cond-true (nat_eq d.0 n) (Some d.1) (outcome_of (done ++ outcomes) n) e
      ∙ ap (λ (o : Option Outcome). option_or o (outcome_of outcomes n)) (sym (cond-true (nat_eq d.0 n) (Some d.1) (outcome_of done n) e))
  | inr e ↦
      cond-false (nat_eq d.0 n) (Some d.1) (outcome_of (done ++ outcomes) n) e ∙ outcome_both done outcomes n
      ∙ ap (λ (o : Option Outcome). option_or o (outcome_of outcomes n)) (sym (cond-false (nat_eq d.0 n) (Some d.1) (outcome_of done n) e))
]

or_none : (o : Option Outcome) → option_or o None ≡ o
or_none None = refl
or_none (Some x) = refl

-- each of the numbers is in the front
was_front : (f : ℕ → Fate) (outcomes : List (ℕ × Outcome)) (n : ℕ) → list_all (λ d. is_front (f d.0)) outcomes ≡ true → has_number (numbers_done outcomes) n ≡ true → is_front (f n) ≡ true
was_front f [] n all there = absurd (false≢true there)
was_front f (d ∷ outcomes) n all there =
    let parts = and_parts (is_front (f d.0)) (list_all (λ o. is_front (f o.0)) outcomes) all in
    elim (or_cases (nat_eq d.0 n) (has_number (numbers_done outcomes) n) there) [
      | inl here ↦ subst (λ (m : ℕ). is_front (f m) ≡ true) (eqb-true d.0 n here) parts.0
      | inr later ↦ was_front f outcomes n parts.1 later
    ]

settled_at : (f : ℕ → Fate) (outcomes : List (ℕ × Outcome)) (n : ℕ) → list_all (λ d. is_front (f d.0)) outcomes ≡ true → has_number (numbers_done outcomes) n ≡ true → f n ≡ Front
settled_at f outcomes n all there = front_only (f n) (was_front f outcomes n all there)

module _ {f : ℕ → Fate} {front : List ℕ} {lists : List (List ℕ)} {done : List (ℕ × Outcome)} (outcomes : List (ℕ × Outcome)) where
  pub settle_agree : list_all (λ d. is_front (f d.0)) outcomes ≡ true → are_distinct (numbers_done outcomes) ≡ true → Agree f front lists done
      → Agree (λ n. done_by outcomes n (f n)) (without front outcomes) lists (done ++ outcomes)
  settle_agree all apart a =
      let has : ℕ → Bool = λ n. has_number (numbers_done outcomes) n in
      let now = λ (n : ℕ) (e : has_number (numbers_done outcomes) n ≡ true). came_of outcomes n (f n) e in
      let was = λ (n : ℕ) (e : has_number (numbers_done outcomes) n ≡ true). settled_at f outcomes n all e in
      let stays = λ (n : ℕ) (e : has_number (numbers_done outcomes) n ≡ false). done_absent outcomes n (f n) e in
      record {
        front_is = λ n. count_filter (λ m. not (has m)) front n ∙ elim (cases_Bool (has_number (numbers_done outcomes) n)) [
          | inl e ↦ ap (λ b. cond (not b) (count n front) 0) e ∙ sym (ap one_if (ap is_front (now n e).fate))
          | inr e ↦ ap (λ b. cond (not b) (count n front) 0) e ∙ a.front_is n ∙ ap one_if (ap is_front (sym (stays n e)))
        ];
        lists_are = λ k n. a.lists_are k n ∙ elim (cases_Bool (has_number (numbers_done outcomes) n)) [
          | inl e ↦ ap one_if (ap (is_listed k) (was n e) ∙ sym (ap (is_listed k) (now n e).fate))
          | inr e ↦ ap one_if (ap (is_listed k) (sym (stays n e)))
        ];
        done_is = λ n. outcome_both done outcomes n ∙ elim (cases_Bool (has_number (numbers_done outcomes) n)) [
          | inl e ↦
              ap (λ (o : Option Outcome). option_or o (outcome_of outcomes n)) (a.done_is n ∙ ap outcome_at (was n e))
              ∙ (now n e).looked ∙ sym (ap outcome_at (now n e).fate)
          | inr e ↦
              ap (option_or (outcome_of done n)) (outcome_absent outcomes n e) ∙ or_none (outcome_of done n) ∙ a.done_is n
              ∙ ap outcome_at (sym (stays n e))
        ];
        done_once = λ n. ap (count n) (map-append (λ (d : ℕ × Outcome). d.0) done outcomes)
            ∙ count_append n (numbers_done done) (numbers_done outcomes) ∙ elim (cases_Bool (has_number (numbers_done outcomes) n)) [
              | inl e ↦
                  let before : count n (numbers_done done) ≡ 0 = a.done_once n ∙ ap one_if (ap is_done (was n e)) in
                  let one : count n (numbers_done outcomes) ≡ 1 = count_distinct (numbers_done outcomes) n apart e in
                  let all_in : count n (numbers_done done) + count n (numbers_done outcomes) ≡ 1 = omega arith in
                  all_in ∙ sym (ap one_if (ap is_done (now n e).fate))
              | inr e ↦
                  let none : count n (numbers_done outcomes) ≡ 0 = absent_count (numbers_done outcomes) n e in
                  let same : count n (numbers_done done) + count n (numbers_done outcomes) ≡ count n (numbers_done done) = omega arith in
                  same ∙ a.done_once n ∙ ap one_if (ap is_done (sym (stays n e)))
            ];
        fits = λ n. elim (cases_Bool (has_number (numbers_done outcomes) n)) [
          | inl e ↦ subst FitsFate (sym (now n e).fate) tt
          | inr e ↦ subst FitsFate (sym (stays n e)) (a.fits n)
        ];
        many = a.many;
      }

  pub settle_left : list_all (λ d. is_front (f d.0)) outcomes ≡ true → are_distinct (numbers_done outcomes) ≡ true → Agree f front lists done
      → length (without front outcomes) + length outcomes ≡ length front
  settle_left all apart a =
      let count_all = length_without (numbers_done outcomes) front apart (λ n there. a.front_is n ∙ one_true (is_front (f n)) (was_front f outcomes n all there)) in
      omega (arith, length-map outcomes (λ (d : ℕ × Outcome). d.0))

and_false : (b : Bool) → (b && false) ≡ false
and_false true = refl
and_false false = refl

and_true : (b : Bool) → (b && true) ≡ b
and_true true = refl
and_true false = refl

-- what is left of the front
pub settle_front : (old new : List (ℕ × Fate)) (front : List ℕ) (outcomes : List (ℕ × Outcome)) → ((q : ℕ) → fate_in new q ≡ done_by outcomes q (fate_in old q))
    → front_left new front ≡ without (front_left old front) outcomes
settle_front old new front outcomes h =
    filter_same (λ n. is_front (fate_in new n)) (λ n. is_front (fate_in old n) && not (has_number (numbers_done outcomes) n)) front (λ n.
    ap is_front (h n) ∙ elim (cases_Bool (has_number (numbers_done outcomes) n)) [
      | inl e ↦
          ap is_front (came_of outcomes n (fate_in old n) e).fate
          ∙ sym (ap (λ b. is_front (fate_in old n) && not b) e ∙ and_false (is_front (fate_in old n)))
      | inr e ↦
          ap is_front (done_absent outcomes n (fate_in old n) e)
          ∙ sym (ap (λ b. is_front (fate_in old n) && not b) e ∙ and_true (is_front (fate_in old n)))
    ])
    ∙ sym (filter_both (λ n. not (has_number (numbers_done outcomes) n)) (λ n. is_front (fate_in old n)) front)

-- a number that was fresh still is
pub settle_fresh : (f : ℕ → Fate) (outcomes : List (ℕ × Outcome)) (n : ℕ) → list_all (λ d. is_front (f d.0)) outcomes ≡ true → f n ≡ Fresh → done_by outcomes n (f n) ≡ Fresh
settle_fresh f outcomes n all fresh = elim (cases_Bool (has_number (numbers_done outcomes) n)) [
  | inl e ↦ absurd (false≢true (sym (ap is_front fresh) ∙ was_front f outcomes n all e))
  | inr e ↦ done_absent outcomes n (f n) e ∙ fresh
]

-- and one that wasn't in the front still isn't
pub settle_passed : (f : ℕ → Fate) (outcomes : List (ℕ × Outcome)) (n : ℕ) → list_all (λ d. is_front (f d.0)) outcomes ≡ true → is_front (f n) ≡ false
    → is_front (done_by outcomes n (f n)) ≡ false
settle_passed f outcomes n all out = elim (cases_Bool (has_number (numbers_done outcomes) n)) [
  | inl e ↦ absurd (false≢true (sym out ∙ was_front f outcomes n all e))
  | inr e ↦ ap is_front (done_absent outcomes n (f n) e) ∙ out
]

-- each number is in the front by the lists where it is by its fate
pub all_same : {X : Type 0} (p q : X → Bool) (xs : List X) → ((x : X) → p x ≡ q x) → list_all p xs ≡ list_all q xs
all_same p q [] h = refl
all_same p q (x ∷ xs) h = ap (λ b. b && list_all p xs) (h x) ∙ ap (λ b. q x && b) (all_same p q xs h)

-- what the fifth rule says of a Settle
pub record SettleParts (x : Progress) (outcomes : List (ℕ × Outcome)) : Type 0 where
  pub front : list_all (λ d. has_number x.front d.0) outcomes ≡ true
  pub distinct : are_distinct (numbers_done outcomes) ≡ true

pub settle_parts : (x : Progress) (fronts : List ℕ) (outcomes : List (ℕ × Outcome)) → settles x (Settle fronts outcomes) ≡ true → SettleParts x outcomes
settle_parts x fronts outcomes h =
    let moves = nat_lt 0 (length outcomes) || one_rose x.fronts fronts in
    let front = list_all (λ d. has_number x.front d.0) outcomes in
    let distinct = are_distinct (numbers_done outcomes) in
    let all = and_parts (moves && front && distinct) (none_fell x.fronts fronts) h in
    let three = and_parts (moves && front) distinct all.0 in
    record {
      front = (and_parts moves front three.0).1;
      distinct = three.1;
    }
