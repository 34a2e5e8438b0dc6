-- The turns that were put in so far.
use Rattle.std.proofs.Common.{◌≡◌, ◌∙◌, ℕ, ◌+◌, ◌<◌, ◌≤◌, cond, List, [], ◌∷◌, length, Option, Some, None, refl, sym, ap, subst, inl, inr, ◌⊎◌, arith}
use Rattle.std.specs.Prelude.{slice_get, nat_eq}
use Rattle.std.specs.List.{All}
use Rattle.std.specs.List.Sorted.{IsPermutation}
use Rattle.std.proofs.lemmas.Bool.{cases_eq}
use Rattle.std.proofs.lemmas.List.Elements.{All-nil, All-cons}
use Rattle.std.proofs.lemmas.List.Sorted.{All-permutation, sum_by-IsPermutation, length_permutation}
use Rattle.irl_polite.specs.declared.hosts.Host.{Host}
use Rattle.irl_polite.specs.declared.slots.Slot.{Slot}
use Rattle.irl_polite.specs.Inside.{IsLeft, IsFirst, AreFirsts, IsTurn, AreTurns, IsReady, IsBegun, Turn, item_at, turns_at}
use Rattle.irl_polite.proofs.Lists.{get_within, same_some}
use Rattle.irl_polite.proofs.TurnLemmas.{at_it, cases_at, turns_more}

-- those of hosts whose first item stands before a place
pub record AreBegun (hosts : List Host) (turns : List Turn) (at : ℕ) : Type 0 where
  pub only : All (IsTurn hosts) turns
  pub once : (k : ℕ) → turns_at k turns ≤ 1
  pub none : (k : ℕ) → at ≤ k → turns_at k turns ≡ 0
  pub each : (place : ℕ) (owner : Host) (k : ℕ) → slice_get hosts place ≡ Some owner → owner.first ≡ Some k → k < at → 1 ≤ turns_at k turns
  pub few : length turns ≤ at

pub begun_none : (hosts : List Host) (turns : List Turn) → turns ≡ [] → AreBegun hosts turns 0
begun_none hosts turns empty = record {
  only = subst (All (IsTurn hosts)) (sym empty) (All-nil (IsTurn hosts));
  once = λ k. let e : turns_at k turns ≡ 0 = ap (turns_at k) empty in omega arith;
  none = λ k le. ap (turns_at k) empty;
  each = λ place owner k st fi lt. absurd (omega arith);
  few = let e : length turns ≡ 0 = ap length empty in omega arith;
}

cases_first : (f : Option ℕ) (at : ℕ) → (f ≡ Some at) ⊎ (f ≡ Some at → ⊥)
cases_first None at = inr (λ e. cc)
cases_first (Some n) at = elim (cases_eq n at) [
  | inl same ↦ inl (ap Some same)
  | inr other ↦ inr (λ e. other (same_some n at e))
]

module _ (hosts : List Host) (slots : List Slot) (turns new : List Turn) (at place : ℕ) (owner : Host) (held : slice_get hosts place ≡ Some owner) (ready : IsReady owner)
    (there : IsLeft slots at place) (firsts : AreFirsts hosts slots 0) (begun : AreBegun hosts turns at) (step : IsBegun turns owner at new) where
  put_in : owner.first ≡ Some at → AreBegun hosts new (at + 1)
  put_in first =
      let turn : Turn = record { 0 = (owner.due, at) } in
      let perm : IsPermutation (turn ∷ turns) new = step.put first in
      let mine : IsTurn hosts turn = record { place = place; owner = owner; stands = held; first = first; ready = ready; due = refl } in
      let count : (k : ℕ) → turns_at k new ≡ turns_at k (turn ∷ turns) = λ k. sum_by-IsPermutation (λ turn. cond (nat_eq (item_at turn) k) 1 0) (turn ∷ turns) new perm in
      record {
        only = All-permutation (IsTurn hosts) (turn ∷ turns) new perm (All-cons (IsTurn hosts) turn turns mine begun.only);
        once = λ k.
            let a : turns_at k new ≡ turns_at k (turn ∷ turns) = count k in
            let b : turns_at k (turn ∷ turns) ≡ at_it k turn + turns_at k turns = turns_more k turn turns in
            let d : turns_at k turns ≤ 1 = begun.once k in
            elim (cases_at k turn) [
              | inl (same, one) ↦ let z : turns_at k turns ≡ 0 = begun.none k (omega arith) in omega arith
              | inr (other, nil) ↦ omega arith
            ];
        none = λ k le.
            let a : turns_at k new ≡ turns_at k (turn ∷ turns) = count k in
            let b : turns_at k (turn ∷ turns) ≡ at_it k turn + turns_at k turns = turns_more k turn turns in
            let z : turns_at k turns ≡ 0 = begun.none k (omega arith) in
            elim (cases_at k turn) [
              | inl (same, one) ↦ absurd (omega arith)
              | inr (other, nil) ↦ omega arith
            ];
        each = λ p o k st fi lt.
            let a : turns_at k new ≡ turns_at k (turn ∷ turns) = count k in
            let b : turns_at k (turn ∷ turns) ≡ at_it k turn + turns_at k turns = turns_more k turn turns in
            elim (cases_at k turn) [
              | inl (same, one) ↦ omega arith
              | inr (other, nil) ↦
                  let apart : k ≡ at → ⊥ = λ e. other (sym e) in
                  let some : 1 ≤ turns_at k turns = begun.each p o k st fi (omega arith) in omega arith
            ];
        few = let l : length new ≡ length (turn ∷ turns) = length_permutation (turn ∷ turns) new perm in let f : length turns ≤ at = begun.few in omega arith;
      }

  left_out : (owner.first ≡ Some at → ⊥) → AreBegun hosts new (at + 1)
  left_out other =
      let e : new ≡ turns = step.stays other in
      subst (λ ts. AreBegun hosts ts (at + 1)) (sym e) (record {
        only = begun.only;
        once = begun.once;
        none = λ k le. begun.none k (omega arith);
        each = λ p o k st fi lt. elim (cases_eq k at) [
          | inl same ↦
              let f : IsFirst slots p 0 (Some k) = subst (IsFirst slots p 0) fi (firsts p o st) in
              let l : IsLeft slots at p = subst (λ n. IsLeft slots n p) same f.1 in
              let one : p ≡ place = sym l.owner ∙ ap (λ (x : Slot). x.host) (same_some l.slot there.slot (sym l.stands ∙ there.stands)) ∙ there.owner in
              let is : o ≡ owner = same_some o owner (sym st ∙ ap (slice_get hosts) one ∙ held) in
              absurd (other (ap (λ (h : Host). h.first) (sym is) ∙ fi ∙ ap Some same))
          | inr apart ↦ begun.each p o k st fi (omega arith)
        ];
        few = let f : length turns ≤ at = begun.few in omega arith;
      })

  pub begun_more : AreBegun hosts new (at + 1)
  begun_more = elim (cases_first owner.first at) [
    | inl first ↦ put_in first
    | inr other ↦ left_out other
  ]

pub begun_all : (hosts : List Host) (slots : List Slot) (turns : List Turn) (at : ℕ) → length slots ≤ at → AreFirsts hosts slots 0 → AreBegun hosts turns at → AreTurns hosts turns
begun_all hosts slots turns at past firsts begun = record {
  only = begun.only;
  once = begun.once;
  each = λ p o k st fi re.
      let f : IsFirst slots p 0 (Some k) = subst (IsFirst slots p 0) fi (firsts p o st) in
      let lt : k < length slots = get_within slots k f.1.slot f.1.stands in
      begun.each p o k st fi (omega arith);
}
