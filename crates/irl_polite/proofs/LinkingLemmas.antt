-- Items are linked from the last to the first.
use Rattle.std.proofs.Common.{◌≡◌, ◌∙◌, ℕ, zero, suc, ◌+◌, ◌<◌, ◌≤◌, List, [], ◌∷◌, length, map, set, Option, Some, None, refl, sym, ap, subst, inl, inr, arith}
use Rattle.std.specs.Prelude.{slice_get}
use Rattle.std.specs.List.{All}
use Rattle.std.proofs.lemmas.Bool.{cases_eq}
use Rattle.std.proofs.lemmas.List.{map-set, length-map}
use Rattle.std.proofs.lemmas.Option.{get_or_from_slice_get}
use Rattle.irl_key.specs.declared.web.Work.{Work}
use Rattle.irl_polite.specs.declared.hosts.Host.{Host}
use Rattle.irl_polite.specs.declared.slots.Slot.{Slot}
use Rattle.irl_polite.specs.Inside.{IsLeft, IsFirst, AreFirsts, AreNexts, IsResting, bare_host, bare_slot}
use Rattle.irl_polite.proofs.Lists.{get_within, get_set_same, get_set_other, same_some}

pub get_map : {X Y : Type 0} (f : X → Y) (xs : List X) (i : ℕ) (x : X) → slice_get xs i ≡ Some x → slice_get (map f xs) i ≡ Some (f x)
get_map f [] i x e = cc
get_map f (y ∷ xs) zero x e = ap (λ z. Some (f z)) (same_some y x e)
get_map f (y ∷ xs) (suc i) x e = get_map f xs i x e

pub get_unmap : {X Y : Type 0} (f : X → Y) (xs : List X) (i : ℕ) (y : Y) → slice_get (map f xs) i ≡ Some y → (x : X) × (slice_get xs i ≡ Some x) × (f x ≡ y)
get_unmap f [] i y e = cc
get_unmap f (x ∷ xs) zero y e = (x, refl, same_some (f x) y e)
get_unmap f (x ∷ xs) (suc i) y e = get_unmap f xs i y e

-- the element of another list that looks the same
pub get_like : {X Y : Type 0} (f : X → Y) (xs ys : List X) (i : ℕ) (x : X) → map f xs ≡ map f ys → slice_get xs i ≡ Some x → (y : X) × (slice_get ys i ≡ Some y) × (f y ≡ f x)
get_like f xs ys i x same e = get_unmap f ys i (f x) (ap (λ zs. slice_get zs i) (sym same) ∙ get_map f xs i x e)

set_to_itself : {X : Type 0} (xs : List X) (i : ℕ) (x : X) → slice_get xs i ≡ Some x → set xs i x ≡ xs
set_to_itself [] i x e = refl
set_to_itself (y ∷ xs) zero x e = ap (λ z. z ∷ xs) (sym (same_some y x e))
set_to_itself (y ∷ xs) (suc i) x e = ap (λ zs. y ∷ zs) (set_to_itself xs i x e)

-- a write of what looks the same
pub set_like : {X Y : Type 0} (f : X → Y) (xs : List X) (i : ℕ) (x y : X) → slice_get xs i ≡ Some x → f y ≡ f x → map f (set xs i y) ≡ map f xs
set_like f xs i x y e same =
    map-set f xs i y ∙ ap (set (map f xs) i) same ∙ set_to_itself (map f xs) i (f x) (get_map f xs i x e)

pub like_length : {X Y : Type 0} (f : X → Y) (xs ys : List X) → map f xs ≡ map f ys → length xs ≡ length ys
like_length f xs ys same = sym (length-map xs f) ∙ ap length same ∙ length-map ys f

-- the same items are left
pub left_like : (ss ts : List Slot) → map bare_slot ss ≡ map bare_slot ts → (q place : ℕ) → IsLeft ss q place → IsLeft ts q place
left_like ss ts same q place h =
    let t = get_like bare_slot ss ts q h.slot same h.stands in
    record {
      slot = t.0;
      work = h.work;
      stands = t.1;
      left = ap (λ (x : Slot). x.work) t.2 ∙ h.left;
      owner = ap (λ (x : Slot). x.host) t.2 ∙ h.owner;
    }

pub first_like : (ss ts : List Slot) → map bare_slot ss ≡ map bare_slot ts → (place from : ℕ) (f : Option ℕ) → IsFirst ss place from f → IsFirst ts place from f
first_like ss ts same place from None h = λ q le l. h q le (left_like ts ss (sym same) q place l)
first_like ss ts same place from (Some n) h = (h.0, left_like ss ts same n place h.1, λ q le lt l. h.2 q le lt (left_like ts ss (sym same) q place l))

module _ (hosts : List Host) (slots : List Slot) (at : ℕ) (slot : Slot) (work : Work) (owner : Host) (stands : slice_get slots at ≡ Some slot) (has : slot.work ≡ Some work)
    (held : slice_get hosts slot.host ≡ Some owner) where
  pub bare_slots_kept : map bare_slot (set slots at (record slot { next = owner.first })) ≡ map bare_slot slots
  bare_slots_kept = set_like bare_slot slots at slot (record slot { next = owner.first }) stands refl

  pub bare_hosts_kept : map bare_host (set hosts slot.host (record owner { first = Some at })) ≡ map bare_host hosts
  bare_hosts_kept = set_like bare_host hosts slot.host owner (record owner { first = Some at }) held refl

  here : IsLeft slots at slot.host
  here = record { slot = slot; work = work; stands = stands; left = has; owner = refl }

  only_here : (place : ℕ) → IsLeft slots at place → slot.host ≡ place
  only_here place l = ap (λ (x : Slot). x.host) (same_some slot l.slot (sym stands ∙ l.stands)) ∙ l.owner

  first_from : (place : ℕ) → (place ≡ slot.host → ⊥) → (f : Option ℕ) → IsFirst slots place (at + 1) f → IsFirst slots place at f
  first_from place other None h = λ q le l. elim (cases_eq q at) [
    | inl same ↦ other (sym (only_here place (subst (λ k. IsLeft slots k place) same l)))
    | inr apart ↦ h q (omega arith) l
  ]
  first_from place other (Some n) h =
      let past : at + 1 ≤ n = h.0 in (
        omega arith,
        h.1,
        λ q le lt l. elim (cases_eq q at) [
          | inl same ↦ other (sym (only_here place (subst (λ k. IsLeft slots k place) same l)))
          | inr apart ↦ h.2 q (omega arith) lt l
        ],
      )

  pub firsts_linked : AreFirsts hosts slots (at + 1) → AreFirsts (set hosts slot.host (record owner { first = Some at })) (set slots at (record slot { next = owner.first })) at
  firsts_linked firsts p o e =
      let like = sym bare_slots_kept in
      let new_slots = set slots at (record slot { next = owner.first }) in
      elim (cases_eq p slot.host) [
        | inl same ↦
            let is : Some at ≡ o.first = ap (λ (x : Host). x.first) (same_some (record owner { first = Some at }) o
            (sym (get_set_same hosts slot.host (record owner { first = Some at }) (get_within hosts slot.host owner held))
            ∙ ap (slice_get (set hosts slot.host (record owner { first = Some at }))) (sym same) ∙ e)) in
            let f : IsFirst slots slot.host at (Some at) = (omega arith, here, λ q le lt l. absurd (omega arith)) in
            subst (λ k. IsFirst new_slots k at o.first) (sym same) (subst (IsFirst new_slots slot.host at) is (first_like slots new_slots like slot.host at (Some at) f))
        | inr other ↦
            let had : slice_get hosts p ≡ Some o = sym (get_set_other hosts slot.host p (record owner { first = Some at }) other) ∙ e in
            first_like slots new_slots like p at o.first (first_from p other o.first (firsts p o had))
      ]

  pub nexts_linked : AreFirsts hosts slots (at + 1) → AreNexts slots (at + 1) → AreNexts (set slots at (record slot { next = owner.first })) at
  nexts_linked firsts nexts q s w le st lf =
      let like = sym bare_slots_kept in
      let linked : Slot = record slot { next = owner.first } in
      let new_slots = set slots at (record slot { next = owner.first }) in
      elim (cases_eq q at) [
        | inl same ↦
            let is : linked ≡ s = same_some linked s (sym (get_set_same slots at linked (get_within slots at slot stands)) ∙ ap (slice_get (set slots at linked)) (sym same) ∙ st) in
            let f : IsFirst new_slots slot.host (at + 1) owner.first = first_like slots new_slots like slot.host (at + 1) owner.first (firsts slot.host owner held) in
            subst (λ k. IsFirst new_slots s.host (k + 1) s.next) (sym same) (subst (λ (x : Slot). IsFirst new_slots x.host (at + 1) x.next) is f)
        | inr other ↦
            first_like slots new_slots like s.host (q + 1) s.next (nexts q s w (omega arith) (sym (get_set_other slots at q linked other) ∙ st) lf)
      ]

-- before any is linked
pub firsts_none : (hosts : List Host) (slots : List Slot) (from : ℕ) → length slots ≤ from → All IsResting hosts → AreFirsts hosts slots from
firsts_none hosts slots from past resting p o e =
    let within : p < length hosts = get_within hosts p o e in
    let none : o.first ≡ None = rest hosts p o e resting in
    subst (IsFirst slots p from) (sym none) (λ q le l. let lt : q < length slots = get_within slots q l.slot l.stands in absurd (omega arith))
  where
    rest : (hs : List Host) (p : ℕ) (o : Host) → slice_get hs p ≡ Some o → All IsResting hs → o.first ≡ None
    rest hs p o e all = subst (λ (x : Host). x.first ≡ None) (get_or_from_slice_get hs p o o e) (all p o (get_within hs p o e)).1

pub nexts_none : (slots : List Slot) (from : ℕ) → length slots ≤ from → AreNexts slots from
nexts_none slots from past q s w le st lf = let lt : q < length slots = get_within slots q s st in absurd (omega arith)

-- what holds of an element
pub all_at : {X : Type 0} (P : X → Type 0) (xs : List X) (i : ℕ) (x : X) → slice_get xs i ≡ Some x → All P xs → P x
all_at P xs i x e all = subst P (get_or_from_slice_get xs i x x e) (all i x (get_within xs i x e))
