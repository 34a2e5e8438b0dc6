-- What is done, by its kinds.
use Rattle.std.proofs.Common.{◌≡◌, ◌∙◌, ℕ, ◌+◌, ◌<◌, List, [], ◌∷◌, ◌++◌, length, get_or, set, cond, refl, sym, ap, arith, Bool, true, false, inl, inr}
use Rattle.std.specs.Prelude.{nat_eq}
use Rattle.std.specs.List.{filter}
use Rattle.std.proofs.lemmas.Bool.{cases_eq, eq-eqb, ne_eqb}
use Rattle.std.proofs.lemmas.List.{length-set, get_or-set_same, get_or-set_other}
use Rattle.irl_offer.specs.declared.outcome.Outcome.{Outcome}
use Rattle.irl_fate.specs.Counting.{kind_of}
use Rattle.irl_frontier.specs.Tallies.{HasTally, tallied}

tallied-push : (kind : ℕ) (done : List (ℕ × Outcome)) (d : ℕ × Outcome) → tallied kind (done ++ d ∷ []) ≡ tallied kind done + cond (nat_eq kind (kind_of d.1)) 1 0
tallied-push kind [] d = by_test (nat_eq kind (kind_of d.1))
  where
    by_test : (b : Bool) → length (cond b (d ∷ []) []) ≡ 0 + cond b 1 0
    by_test true = refl
    by_test false = refl
tallied-push kind (o ∷ done) d = by_test (nat_eq kind (kind_of o.1)) (tallied-push kind done d)
  where
    by_test : (b : Bool) → tallied kind (done ++ d ∷ []) ≡ tallied kind done + cond (nat_eq kind (kind_of d.1)) 1 0
        → length (cond b (o ∷ filter (λ e. nat_eq kind (kind_of e.1)) (done ++ d ∷ [])) (filter (λ e. nat_eq kind (kind_of e.1)) (done ++ d ∷ [])))
        ≡ length (cond b (o ∷ filter (λ e. nat_eq kind (kind_of e.1)) done) (filter (λ e. nat_eq kind (kind_of e.1)) done)) + cond (nat_eq kind (kind_of d.1)) 1 0
    by_test true rest = omega arith
    by_test false rest = rest

-- one more is done
pub tally_more : (tally new : List ℕ) (done : List (ℕ × Outcome)) (d : ℕ × Outcome) (at : ℕ) → at ≡ kind_of d.1 → at < 9 → new ≡ set tally at (get_or tally at 0 + 1) → HasTally tally done
    → HasTally new (done ++ d ∷ [])
tally_more tally new done d at kind lt is has = record {
  many = ap length is ∙ length-set tally at (get_or tally at 0 + 1) ∙ has.many;
  each = λ k below. ap (λ (t : List ℕ). get_or t k 0) is ∙ elim (cases_eq k at) [
    | inl here ↦
        let one : cond {A = ℕ} (nat_eq k (kind_of d.1)) 1 0 ≡ 1 = ap (λ (b : Bool). cond {A = ℕ} b 1 0) (eq-eqb k (kind_of d.1) (here ∙ kind)) in
        let was : get_or tally at 0 ≡ tallied k done = ap (λ (m : ℕ). get_or tally m 0) (sym here) ∙ has.each k below in
        ap (λ (m : ℕ). get_or (set tally at (get_or tally at 0 + 1)) m 0) here ∙ get_or-set_same tally at (get_or tally at 0 + 1) 0 (omega (arith, has.many))
        ∙ ap (λ (m : ℕ). m + 1) was ∙ ap (λ (m : ℕ). tallied k done + m) (sym one) ∙ sym (tallied-push k done d)
    | inr other ↦
        let none : cond {A = ℕ} (nat_eq k (kind_of d.1)) 1 0 ≡ 0 = ap (λ (b : Bool). cond {A = ℕ} b 1 0) (ne_eqb k (kind_of d.1) (λ e. other (e ∙ sym kind))) in
        get_or-set_other tally at k (get_or tally at 0 + 1) 0 other ∙ has.each k below
        ∙ (let none_more : tallied k done ≡ tallied k done + 0 = omega arith in none_more) ∙ ap (λ (m : ℕ). tallied k done + m) (sym none) ∙ sym (tallied-push k done d)
  ];
}
