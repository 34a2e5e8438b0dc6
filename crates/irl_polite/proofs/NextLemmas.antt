-- The first turn is that of the item that comes next.
use Rattle.std.proofs.Common.{◌≡◌, ◌∙◌, ℕ, suc, ◌+◌, ◌<◌, ◌≤◌, true, false, List, [], ◌∷◌, set, take, drop, Option, Some, None, refl, sym, ap, subst, inl, inr, ◌⊎◌, arith}
use Rattle.std.specs.Prelude.{slice_get}
use Rattle.std.specs.List.{All}
use Rattle.std.proofs.lemmas.Bool.{cases_Bool, cases_lt}
use Rattle.irl_key.specs.declared.web.Work.{Work}
use Rattle.irl_key.specs.Web.{IsHost}
use Rattle.irl_polite.specs.declared.hosts.Host.{Host}
use Rattle.irl_polite.specs.declared.slots.Slot.{Slot}
use Rattle.irl_polite.specs.Schedule.{Schedule, host}
use Rattle.irl_polite.specs.Answers.{IsNext, IsReady, due_of, AllAwaited}
use Rattle.irl_polite.specs.Inside.{items_of, schedule_of, seen, seen_at, IsLeft, IsFirst, AreFirsts, AreOwned, IsTable, IsTop, IsTurn, AreTurns, Turn, item_at, due_at, turns_at}
use Rattle.irl_polite.proofs.Lists.{get_some, get_take, get_drop, same_some}
use Rattle.irl_polite.proofs.Tables.{seen_here}
use Rattle.irl_polite.proofs.Links.{one_first, items_split, items_without, all_items}
use Rattle.irl_polite.proofs.TurnLemmas.{some_at}

module _ (agent : List ℕ) (delay moment : ℕ) (names : List ℕ → Option ℕ) (hosts : List Host) (slots : List Slot) (turns : List Turn)
    (table : IsTable names hosts) (owned : AreOwned names slots) (firsts : AreFirsts hosts slots 0) (all : AreTurns hosts turns) where
  abbrev now : Schedule
  now = schedule_of agent delay moment names hosts slots

  -- an item that is left is of a host, of which the first item stands there or before it
  pub record Stood (k : ℕ) (work : Work) : Type 0 where
    pub place : ℕ
    pub owner : Host
    pub at : ℕ
    pub held : slice_get hosts place ≡ Some owner
    pub sees : seen_at names hosts (host work) ≡ seen (Some owner)
    pub first : owner.first ≡ Some at
    pub upto : at ≤ k

  pub stood : (k : ℕ) (slot : Slot) (work : Work) → slice_get slots k ≡ Some slot → slot.work ≡ Some work → Stood k work
  stood k slot work stands left =
      let named : names (host work) ≡ Some slot.host = (owned k slot work stands left).named in
      let some = get_some hosts slot.host (table.within (host work) slot.host named) in
      let owner : Host = some.0 in
      let held : slice_get hosts slot.host ≡ Some owner = some.1 in
      let here : IsLeft slots k slot.host = record { slot = slot; work = work; stands = stands; left = left; owner = refl } in
      by_first owner.first owner refl held here (seen_here names hosts table (host work) slot.host named owner held)
    where
      by_first : (f : Option ℕ) (owner : Host) → owner.first ≡ f → slice_get hosts slot.host ≡ Some owner → IsLeft slots k slot.host → seen_at names hosts (host work) ≡ seen (Some owner)
          → Stood k work
      by_first None owner is held here sees = absurd (subst (IsFirst slots slot.host 0) is (firsts slot.host owner held) k (omega arith) here)
      by_first (Some at) owner is held here sees =
          let f : IsFirst slots slot.host 0 (Some at) = subst (IsFirst slots slot.host 0) is (firsts slot.host owner held) in
          record {
            place = slot.host;
            owner = owner;
            at = at;
            held = held;
            sees = sees;
            first = is;
            upto = elim (cases_lt k at) [
              | inl lt ↦ absurd (f.2 k (omega arith) lt here)
              | inr ge ↦ ge
            ];
          }

  -- where there is no turn, each item's host is awaited
  pub none_waits : turns ≡ [] → AllAwaited now
  none_waits empty = all_items (λ (w : Work). now.awaited (host w) ≡ true) slots
      (λ k slot work stands left.
      let s = stood k slot work stands left in
      elim (cases_Bool s.owner.awaited) [
        | inl asked ↦ ap (λ x. x.awaited) s.sees ∙ asked
        | inr ready ↦
            let some : 1 ≤ turns_at s.at turns = all.each s.place s.owner s.at s.held s.first ready in
            let none : turns_at s.at turns ≡ 0 = ap (turns_at s.at) empty in
            absurd (omega arith)
      ])

  module _ (due at : ℕ) (top : IsTop turns (due, at)) where
    -- whose turn it is
    pub record IsPicked : Type 0 where
      pub place : ℕ
      pub owner : Host
      pub slot : Slot
      pub work : Work
      pub held : slice_get hosts place ≡ Some owner
      pub first : owner.first ≡ Some at
      pub ready : owner.awaited ≡ false
      pub is_due : owner.due ≡ due
      pub stands : slice_get slots at ≡ Some slot
      pub left : slot.work ≡ Some work
      pub owns : slot.host ≡ place
      pub named : names (host work) ≡ Some place
      pub given : IsHost (host work)
      pub sees : seen_at names hosts (host work) ≡ seen (Some owner)

    pub picked : IsPicked
    picked =
        let t : Turn = record { 0 = (due, at) } in
        let is : IsTurn hosts t = at_front turns top.stands all.only in
        let first : IsFirst slots is.place 0 (Some at) = subst (IsFirst slots is.place 0) is.first (firsts is.place is.owner is.stands) in
        let l = first.1 in
        let o = owned at l.slot l.work l.stands l.left in
        let named : names (host l.work) ≡ Some is.place = o.named ∙ ap Some l.owner in
        record {
          place = is.place;
          owner = is.owner;
          slot = l.slot;
          work = l.work;
          held = is.stands;
          first = is.first;
          ready = is.ready;
          is_due = is.due;
          stands = l.stands;
          left = l.left;
          owns = l.owner;
          named = named;
          given = o.given;
          sees = seen_here names hosts table (host l.work) is.place named is.owner is.stands;
        }
      where
        at_front : (ts : List Turn) → slice_get ts 0 ≡ Some (record { 0 = (due, at) }) → All (IsTurn hosts) ts → IsTurn hosts (record { 0 = (due, at) })
        at_front [] e a = cc
        at_front (x ∷ xs) e a = subst (IsTurn hosts) (same_some x (record { 0 = (due, at) }) e) (a 0 x (omega arith))

    -- no item that is ready comes before it
    beats : (k : ℕ) (slot : Slot) (work : Work) → slice_get slots k ≡ Some slot → slot.work ≡ Some work → IsReady now work
        → (due < due_of now work) ⊎ ((due ≡ due_of now work) × (at ≤ k))
    beats k slot work stands left ready =
        let s = stood k slot work stands left in
        let r : s.owner.awaited ≡ false = sym (ap (λ x. x.awaited) s.sees) ∙ ready in
        let theirs : due_of now work ≡ s.owner.due = ap (λ x. x.due) s.sees in
        let P : Turn → Type 0 = λ (t : Turn). IsTurn hosts t × ((due < due_at t) ⊎ ((due ≡ due_at t) × (at ≤ item_at t))) in
        let found = some_at P s.at turns (all.each s.place s.owner s.at s.held s.first r) (λ i d h. (all.only i d h, top.least i d h)) in
        let t : Turn = found.0 in
        let is : IsTurn hosts t = found.2.0 in
        let one : is.place ≡ s.place = one_first hosts slots firsts is.place s.place s.at is.owner s.owner is.stands s.held (is.first ∙ ap Some found.1) s.first in
        let same : is.owner ≡ s.owner = same_some is.owner s.owner (sym is.stands ∙ ap (slice_get hosts) one ∙ s.held) in
        let dues : due_at t ≡ due_of now work = sym is.due ∙ ap (λ (h : Host). h.due) same ∙ sym theirs in
        let there : item_at t ≤ k = subst (λ n. n ≤ k) (sym found.1) s.upto in
        elim found.2.1 [
          | inl less ↦ inl (subst (λ n. due < n) dues less)
          | inr (even, stood_at) ↦ inr (even ∙ dues, omega arith)
        ]

    pub is_next : (gone : Slot) → gone.work ≡ None → IsNext now picked.work (items_of (set slots at gone))
    unfolding picked
    is_next gone none =
        let p = picked in
        let mine : due_of now p.work ≡ due = ap (λ x. x.due) p.sees ∙ p.is_due in
        record {
          before = items_of (take at slots);
          behind = items_of (drop (suc at) slots);
          stands = items_split slots at p.slot p.work p.stands p.left;
          others = items_without slots at p.slot gone p.stands none;
          ready = ap (λ x. x.awaited) p.sees ∙ p.ready;
          earlier = all_items (λ other. IsReady now other → due_of now p.work < due_of now other) (take at slots)
              (λ k slot work stands left ready.
              let t = get_take at slots k slot stands in
              let k_before : k < at = t.0 in
              elim (beats k slot work t.1 left ready) [
                | inl less ↦ omega arith
                | inr (even, upto) ↦ absurd (omega arith)
              ]);
          later = all_items (λ other. IsReady now other → due_of now p.work ≤ due_of now other) (drop (suc at) slots)
              (λ k slot work stands left ready.
              elim (beats (suc at + k) slot work (sym (get_drop (suc at) slots k) ∙ stands) left ready) [
                | inl less ↦ omega arith
                | inr (even, upto) ↦ omega arith
              ]);
        }
