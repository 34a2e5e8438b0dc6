-- The first items of hosts and the next ones, after an item was answered.
use Rattle.std.proofs.Common.{◌≡◌, ◌∙◌, ℕ, ◌+◌, ◌≤◌, List, [], ◌∷◌, ◌++◌, set, take, drop, zero, suc, Option, Some, None, refl, sym, ap, subst, inl, inr, arith}
use Rattle.std.proofs.lemmas.Bool.{cases_eq, cases_order}
use Rattle.std.specs.Prelude.{slice_get, option_to_list}
use Rattle.std.specs.List.{All}
use Rattle.std.proofs.lemmas.List.{append_assoc}
use Rattle.std.proofs.lemmas.List.Elements.{All-nil, All-cons}
use Rattle.irl_key.specs.declared.web.Work.{Work}
use Rattle.irl_polite.specs.declared.hosts.Host.{Host}
use Rattle.irl_polite.specs.declared.slots.Slot.{Slot}
use Rattle.irl_polite.specs.Schedule.{host}
use Rattle.irl_polite.specs.Inside.{items_of, IsLeft, IsFirst, AreFirsts, AreNexts, AreOwned}
use Rattle.irl_polite.proofs.Lists.{get_set_same, get_set_other, get_within, same_some}

-- an item has one host
pub one_owner : (slots : List Slot) (at a b : ℕ) → IsLeft slots at a → IsLeft slots at b → a ≡ b
one_owner slots at a b x y =
    let same : x.slot ≡ y.slot = same_some x.slot y.slot (sym x.stands ∙ y.stands) in
    sym x.owner ∙ ap (λ (s : Slot). s.host) same ∙ y.owner

-- a host has one first item, and an item is the first of one host
pub one_first : (hosts : List Host) (slots : List Slot) → AreFirsts hosts slots 0 → (p q at : ℕ) (x y : Host)
    → slice_get hosts p ≡ Some x → slice_get hosts q ≡ Some y → x.first ≡ Some at → y.first ≡ Some at → p ≡ q
one_first hosts slots firsts p q at x y sx sy fx fy =
    let a : IsFirst slots p 0 (Some at) = subst (IsFirst slots p 0) fx (firsts p x sx) in
    let b : IsFirst slots q 0 (Some at) = subst (IsFirst slots q 0) fy (firsts q y sy) in
    one_owner slots at p q a.1 b.1

-- the items are those before one, that one and those behind it
pub items_split : (slots : List Slot) (at : ℕ) (slot : Slot) (work : Work) → slice_get slots at ≡ Some slot → slot.work ≡ Some work
    → items_of slots ≡ items_of (take at slots) ++ work ∷ items_of (drop (suc at) slots)
items_split [] at slot work stands left = cc
items_split (s ∷ slots) zero slot work stands left =
    let is : s.work ≡ Some work = ap (λ (x : Slot). x.work) (same_some s slot stands) ∙ left in
    ap (λ o. option_to_list o ++ items_of slots) is
items_split (s ∷ slots) (suc at) slot work stands left =
    ap (λ t. option_to_list s.work ++ t) (items_split slots at slot work stands left)
    ∙ sym (append_assoc (option_to_list s.work) (items_of (take at slots)) (work ∷ items_of (drop (suc at) slots)))

-- and without it
pub items_without : (slots : List Slot) (at : ℕ) (slot : Slot) (gone : Slot) → slice_get slots at ≡ Some slot → gone.work ≡ None
    → items_of (set slots at gone) ≡ items_of (take at slots) ++ items_of (drop (suc at) slots)
items_without [] at slot gone stands none = cc
items_without (s ∷ slots) zero slot gone stands none = ap (λ o. option_to_list o ++ items_of slots) none
items_without (s ∷ slots) (suc at) slot gone stands none =
    ap (λ t. option_to_list s.work ++ t) (items_without slots at slot gone stands none)
    ∙ sym (append_assoc (option_to_list s.work) (items_of (take at slots)) (items_of (drop (suc at) slots)))

-- what holds of each item that is left
pub all_items : (P : Work → Type 0) (slots : List Slot)
    → ((k : ℕ) (slot : Slot) (work : Work) → slice_get slots k ≡ Some slot → slot.work ≡ Some work → P work) → All P (items_of slots)
all_items P [] each = All-nil P
all_items P (s ∷ slots) each =
    let rest : All P (items_of slots) = all_items P slots (λ k. each (suc k)) in
    all_put s.work (λ w e. each 0 s w refl e) rest
  where
    all_put : (o : Option Work) → ((w : Work) → o ≡ Some w → P w) → All P (items_of slots) → All P (option_to_list o ++ items_of slots)
    all_put None f rest = rest
    all_put (Some w) f rest = All-cons P w (items_of slots) (f w refl) rest

module _ (slots : List Slot) (at : ℕ) (slot : Slot) (gone : Slot) (stands : slice_get slots at ≡ Some slot) (none : gone.work ≡ None) where
  -- which items are left after that one
  pub left_before : (q place : ℕ) → IsLeft (set slots at gone) q place → IsLeft slots q place × (q ≡ at → ⊥)
  left_before q place h = elim (cases_eq q at) [
    | inl same ↦
        let is : Some gone ≡ Some h.slot = sym (get_set_same slots at gone (get_within slots at slot stands)) ∙ ap (slice_get (set slots at gone)) (sym same) ∙ h.stands in
        let e : None ≡ Some h.work = sym none ∙ ap (λ (s : Slot). s.work) (same_some gone h.slot is) ∙ h.left in
        absurd cc
    | inr other ↦ (
      record {
        slot = h.slot;
        work = h.work;
        stands = sym (get_set_other slots at q gone other) ∙ h.stands;
        left = h.left;
        owner = h.owner;
      },
      other,
    )
  ]

  pub left_after : (q place : ℕ) → (q ≡ at → ⊥) → IsLeft slots q place → IsLeft (set slots at gone) q place
  left_after q place other h = record {
    slot = h.slot;
    work = h.work;
    stands = get_set_other slots at q gone other ∙ h.stands;
    left = h.left;
    owner = h.owner;
  }

  pub first_stays : (place from : ℕ) (f : Option ℕ) → IsFirst slots place from f → ((q : ℕ) → f ≡ Some q → q ≡ at → ⊥) → IsFirst (set slots at gone) place from f
  first_stays place from None h other = λ q le l. h q le (left_before q place l).0
  first_stays place from (Some q) h other =
      (h.0, left_after q place (other q refl) h.1, λ p le lt l. h.2 p le lt (left_before p place l).0)

  pub first_moves : (place : ℕ) (f : Option ℕ) → IsFirst slots place 0 (Some at) → IsFirst slots place (at + 1) f → IsFirst (set slots at gone) place 0 f
  first_moves place None first next = λ q le l.
      let k = left_before q place l in
      elim (cases_order q at) [
        | inl same ↦ k.1 same
        | inr (inl below) ↦ first.2 q le below k.0
        | inr (inr above) ↦ next q (omega arith) k.0
      ]
  first_moves place (Some m) first next =
      let past : at + 1 ≤ m = next.0 in (
        omega arith,
        left_after m place (λ e. omega arith) next.1,
        λ q le lt l.
            let k = left_before q place l in
            elim (cases_order q at) [
              | inl same ↦ k.1 same
              | inr (inl below) ↦ first.2 q le below k.0
              | inr (inr above) ↦ next.2 q (omega arith) lt k.0
            ],
      )

  module _ (names : List ℕ → Option ℕ) (hosts : List Host) (place : ℕ) (owner : Host) (work : Work) (left : slot.work ≡ Some work) (named : names (host work) ≡ Some place)
      (held : slice_get hosts place ≡ Some owner) (first : owner.first ≡ Some at) (owned : AreOwned names slots) (firsts : AreFirsts hosts slots 0) (nexts : AreNexts slots 0) where
    is_first : IsFirst slots place 0 (Some at)
    is_first = subst (IsFirst slots place 0) first (firsts place owner held)

    pub owned_after : AreOwned names (set slots at gone)
    owned_after q s w st lf =
        let l : IsLeft (set slots at gone) q s.host = record { slot = s; work = w; stands = st; left = lf; owner = refl } in
        let other = (left_before q s.host l).1 in
        owned q s w (sym (get_set_other slots at q gone other) ∙ st) lf

    pub nexts_after : AreNexts (set slots at gone) 0
    nexts_after q s w le st lf =
        let l : IsLeft (set slots at gone) q s.host = record { slot = s; work = w; stands = st; left = lf; owner = refl } in
        let before = left_before q s.host l in
        let other = before.1 in
        let next : IsFirst slots s.host (q + 1) s.next = nexts q s w le (sym (get_set_other slots at q gone other) ∙ st) lf in
        first_stays s.host (q + 1) s.next next
        (λ m is same.
        let n : IsFirst slots s.host (q + 1) (Some m) = subst (IsFirst slots s.host (q + 1)) is next in
        let past : q + 1 ≤ m = n.0 in
        let here : IsLeft slots at s.host = subst (λ k. IsLeft slots k s.host) same n.1 in
        let one : s.host ≡ place = one_owner slots at s.host place here is_first.1 in
        is_first.2 q le (omega arith) (subst (IsLeft slots q) one before.0))

    -- its host goes on to the next one
    pub firsts_after : (moved : Host) → moved.first ≡ slot.next → AreFirsts (set hosts place moved) (set slots at gone) 0
    firsts_after moved goes_on p o e = elim (cases_eq p place) [
      | inl same ↦
          let is : moved ≡ o = same_some moved o (sym (get_set_same hosts place moved (get_within hosts place owner held)) ∙ ap (slice_get (set hosts place moved)) (sym same) ∙ e) in
          let there : place ≡ slot.host = one_owner slots at place slot.host is_first.1 (record { slot = slot; work = work; stands = stands; left = left; owner = refl }) in
          let next : IsFirst slots place (at + 1) slot.next = subst (λ k. IsFirst slots k (at + 1) slot.next) (sym there) (nexts at slot work (omega arith) stands left) in
          let moves : IsFirst (set slots at gone) place 0 slot.next = first_moves place slot.next is_first next in
          subst (λ k. IsFirst (set slots at gone) k 0 o.first) (sym same) (subst (IsFirst (set slots at gone) place 0) (sym goes_on ∙ ap (λ (x : Host). x.first) is) moves)
      | inr other ↦
          let had : slice_get hosts p ≡ Some o = sym (get_set_other hosts place p moved other) ∙ e in
          first_stays p 0 o.first (firsts p o had) (λ q is same. other (one_first hosts slots firsts p place at o owner had held (is ∙ ap Some same) first))
    ]

-- a host that keeps its first item changes nothing of that
pub firsts_kept : (hosts : List Host) (slots : List Slot) (place : ℕ) (owner changed : Host) → slice_get hosts place ≡ Some owner → changed.first ≡ owner.first
    → AreFirsts hosts slots 0 → AreFirsts (set hosts place changed) slots 0
firsts_kept hosts slots place owner changed held same firsts p o e = elim (cases_eq p place) [
  | inl at_it ↦
      let is : changed ≡ o = same_some changed o (sym (get_set_same hosts place changed (get_within hosts place owner held)) ∙ ap (slice_get (set hosts place changed)) (sym at_it) ∙ e) in
      subst (λ k. IsFirst slots k 0 o.first) (sym at_it) (subst (IsFirst slots place 0) (sym same ∙ ap (λ (x : Host). x.first) is) (firsts place owner held))
  | inr other ↦ firsts p o (sym (get_set_other hosts place p changed other) ∙ e)
]
