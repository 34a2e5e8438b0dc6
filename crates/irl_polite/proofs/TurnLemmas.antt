-- The turns of hosts, as one is taken out, a host changes, and one is put in.
use Rattle.std.proofs.Common.{◌≡◌, ◌∙◌, ℕ, zero, suc, ◌+◌, ◌<◌, ◌≤◌, true, false, cond, List, [], ◌∷◌, length, set, Some, refl, sym, ap, subst, inl, inr, ◌⊎◌, arith}
use Rattle.std.specs.Prelude.{slice_get, nat_eq, nat_lt}
use Rattle.std.specs.List.{All, sum_by}
use Rattle.std.specs.List.Sorted.{IsPermutation}
use Rattle.std.proofs.lemmas.Bool.{cases_eq, cases_Bool, cases_lt}
use Rattle.std.proofs.lemmas.Bool.Decides.{Decides-eqb, Decides-ltb}
use Rattle.std.proofs.lemmas.List.Sums.{sum_by-cons}
use Rattle.std.proofs.lemmas.List.Elements.{All-nil, All-cons, All-head, All-tail}
use Rattle.std.proofs.lemmas.List.Sorted.{All-permutation, sum_by-IsPermutation}
use Rattle.irl_polite.specs.declared.hosts.Host.{Host}
use Rattle.irl_polite.specs.declared.slots.Slot.{Slot}
use Rattle.irl_polite.specs.Inside.{Turn, item_at, due_at, IsTurn, AreTurns, turns_at, IsLeft, IsFirst, AreFirsts}
use Rattle.irl_polite.proofs.Lists.{get_set_same, get_set_other, get_within, same_some}
use Rattle.irl_polite.proofs.Links.{one_owner, one_first}

pub at_it : ℕ → Turn → ℕ
at_it at turn = cond (nat_eq (item_at turn) at) 1 0

pub cases_at : (at : ℕ) (turn : Turn) → ((item_at turn ≡ at) × (at_it at turn ≡ 1)) ⊎ ((item_at turn ≡ at → ⊥) × (at_it at turn ≡ 0))
unfolding at_it
cases_at at turn = elim (cases_Bool (nat_eq (item_at turn) at)) [
  | inl e ↦ inl ((Decides-eqb (item_at turn) at).0 e, ap (λ b. cond b 1 0) e)
  | inr e ↦ inr (λ same. let t = (Decides-eqb (item_at turn) at).1 same in cc, ap (λ b. cond b 1 0) e)
]

pub turns_more : (at : ℕ) (turn : Turn) (turns : List Turn) → turns_at at (turn ∷ turns) ≡ at_it at turn + turns_at at turns
unfolding at_it
turns_more at turn turns = sum_by-cons (λ turn. cond (nat_eq (item_at turn) at) 1 0) turn turns

-- none has the item where no turn is its
pub none_at : (at : ℕ) (turns : List Turn) → All (λ turn. item_at turn ≡ at → ⊥) turns → turns_at at turns ≡ 0
none_at at [] all = refl
none_at at (turn ∷ turns) all =
    let P : Turn → Type 0 = λ turn. item_at turn ≡ at → ⊥ in
    let rest : turns_at at turns ≡ 0 = none_at at turns (All-tail P turn turns all) in
    let more : turns_at at (turn ∷ turns) ≡ at_it at turn + turns_at at turns = turns_more at turn turns in
    elim (cases_at at turn) [
      | inl (same, one) ↦ absurd (All-head P turn turns all same)
      | inr (other, zero_there) ↦ omega arith
    ]

-- and the other way
pub all_from_none : (at : ℕ) (turns : List Turn) → turns_at at turns ≡ 0 → All (λ turn. item_at turn ≡ at → ⊥) turns
all_from_none at [] none = All-nil (λ turn. item_at turn ≡ at → ⊥)
all_from_none at (turn ∷ turns) none =
    let more : turns_at at (turn ∷ turns) ≡ at_it at turn + turns_at at turns = turns_more at turn turns in
    let rest : turns_at at turns ≡ 0 = omega arith in
    All-cons (λ turn. item_at turn ≡ at → ⊥) turn turns
    (elim (cases_at at turn) [
      | inl (same, one) ↦ absurd (omega arith)
      | inr (other, zero_there) ↦ other
    ]) (all_from_none at turns rest)

-- a turn that has the item, with what holds of all
pub some_at : (P : Turn → Type 0) (at : ℕ) (turns : List Turn) → 1 ≤ turns_at at turns → All P turns → (turn : Turn) × (item_at turn ≡ at) × P turn
some_at P at [] some all = absurd (omega arith)
some_at P at (turn ∷ turns) some all =
    let more : turns_at at (turn ∷ turns) ≡ at_it at turn + turns_at at turns = turns_more at turn turns in
    elim (cases_at at turn) [
      | inl (same, one) ↦ (turn, same, All-head P turn turns all)
      | inr (other, zero_there) ↦ some_at P at turns (omega arith) (All-tail P turn turns all)
    ]

-- the turns of all hosts but one
pub record IsOther (place : ℕ) (hosts : List Host) (turn : Turn) : Type 0 where
  pub is : IsTurn hosts turn
  pub other : is.place ≡ place → ⊥

pub record AreOthers (place : ℕ) (hosts : List Host) (turns : List Turn) : Type 0 where
  pub only : All (IsOther place hosts) turns
  pub once : (at : ℕ) → turns_at at turns ≤ 1
  pub each : (p : ℕ) (owner : Host) (at : ℕ) → (p ≡ place → ⊥) → slice_get hosts p ≡ Some owner → owner.first ≡ Some at → owner.awaited ≡ false → 1 ≤ turns_at at turns

both : {X : Type 0} (P Q R : X → Type 0) → ((x : X) → P x → Q x → R x) → (xs : List X) → All P xs → All Q xs → All R xs
both P Q R f xs p q k d h = f _ (p k d h) (q k d h)

pub weaker : {X : Type 0} (P Q : X → Type 0) → ((x : X) → P x → Q x) → (xs : List X) → All P xs → All Q xs
weaker P Q f xs p k d h = f _ (p k d h)

module _ (hosts : List Host) (slots : List Slot) (firsts : AreFirsts hosts slots 0) (place : ℕ) (owner : Host) (held : slice_get hosts place ≡ Some owner) where
  -- the host's own turn was taken out
  pub others_popped : (turn : Turn) (turns rest : List Turn) → owner.first ≡ Some (item_at turn) → AreTurns hosts turns → IsPermutation turns (turn ∷ rest) → AreOthers place hosts rest
  others_popped turn turns rest first all perm =
      let only : All (IsTurn hosts) rest = All-tail (IsTurn hosts) turn rest (All-permutation (IsTurn hosts) turns (turn ∷ rest) perm all.only) in
      let count : (at : ℕ) → turns_at at (turn ∷ rest) ≡ turns_at at turns = λ at. sum_by-IsPermutation (λ turn. cond (nat_eq (item_at turn) at) 1 0) turns (turn ∷ rest) perm in
      let here = item_at turn in
      let gone : turns_at here rest ≡ 0 =
      let a : turns_at here (turn ∷ rest) ≡ turns_at here turns = count here in
      let b : turns_at here turns ≤ 1 = all.once here in
      let more : turns_at here (turn ∷ rest) ≡ at_it here turn + turns_at here rest = turns_more here turn rest in
      elim (cases_at here turn) [
        | inl (same, one) ↦ omega arith
        | inr (other, zero_there) ↦ absurd (other refl)
      ] in
      let apart : All (λ t. item_at t ≡ here → ⊥) rest = all_from_none here rest gone in
      record {
        only = both (IsTurn hosts) (λ t. item_at t ≡ here → ⊥) (IsOther place hosts)
            (λ t is ne. record {
              is = is;
              other = λ same. ne (same_some (item_at t) here (sym is.first ∙ ap (λ (h : Host). h.first) (same_some is.owner owner (sym is.stands ∙ ap (slice_get hosts) same ∙ held)) ∙ first));
            }) rest only apart;
        once = λ at.
            let a : turns_at at (turn ∷ rest) ≡ turns_at at turns = count at in
            let b : turns_at at turns ≤ 1 = all.once at in
            let more : turns_at at (turn ∷ rest) ≡ at_it at turn + turns_at at rest = turns_more at turn rest in
            omega arith;
        each = λ p o at ne st fi re.
            let a : turns_at at (turn ∷ rest) ≡ turns_at at turns = count at in
            let b : 1 ≤ turns_at at turns = all.each p o at st fi re in
            let more : turns_at at (turn ∷ rest) ≡ at_it at turn + turns_at at rest = turns_more at turn rest in
            elim (cases_at at turn) [
              | inl (same, one) ↦ absurd (ne (one_first hosts slots firsts p place at o owner st held fi (first ∙ ap Some same)))
              | inr (other, zero_there) ↦ omega arith
            ];
      }

  -- the host is awaited, so that it has none
  pub others_awaited : (turns : List Turn) → owner.awaited ≡ true → AreTurns hosts turns → AreOthers place hosts turns
  others_awaited turns awaited all = record {
    only = weaker (IsTurn hosts) (IsOther place hosts)
        (λ t is. record {
          is = is;
          other = λ same.
              let one : is.owner ≡ owner = same_some is.owner owner (sym is.stands ∙ ap (slice_get hosts) same ∙ held) in
              let e : false ≡ true = sym is.ready ∙ ap (λ (h : Host). h.awaited) one ∙ awaited in
              absurd cc;
        }) turns all.only;
    once = all.once;
    each = λ p o at ne. all.each p o at;
  }

  -- no other host's turn has an item of this one
  pub none_of_it : (at : ℕ) (turns : List Turn) → IsLeft slots at place → AreOthers place hosts turns → turns_at at turns ≡ 0
  none_of_it at turns left all =
      none_at at turns
      (weaker (IsOther place hosts) (λ t. item_at t ≡ at → ⊥)
      (λ t o same.
      let is : IsFirst slots o.is.place 0 (Some (item_at t)) = subst (IsFirst slots o.is.place 0) o.is.first (firsts o.is.place o.is.owner o.is.stands) in
      o.other (one_owner slots at o.is.place place (subst (λ k. IsLeft slots k o.is.place) same is.1) left)) turns all.only)

  module _ (moved : Host) where
    -- the host changed
    pub others_set : (turns : List Turn) → AreOthers place hosts turns → AreOthers place (set hosts place moved) turns
    others_set turns all = record {
      only = weaker (IsOther place hosts) (IsOther place (set hosts place moved))
          (λ t o. record {
            is = record {
              place = o.is.place;
              owner = o.is.owner;
              stands = get_set_other hosts place o.is.place moved o.other ∙ o.is.stands;
              first = o.is.first;
              ready = o.is.ready;
              due = o.is.due;
            };
            other = o.other;
          }) turns all.only;
      once = all.once;
      each = λ p o at ne st. all.each p o at ne (sym (get_set_other hosts place p moved ne) ∙ st);
    }

    changed_there : slice_get (set hosts place moved) place ≡ Some moved
    changed_there = get_set_same hosts place moved (get_within hosts place owner held)

    -- it has no turn
    pub turns_none : (turns : List Turn) → ((at : ℕ) → moved.first ≡ Some at → moved.awaited ≡ false → ⊥) → AreOthers place (set hosts place moved) turns → AreTurns (set hosts place moved) turns
    turns_none turns never all = record {
      only = weaker (IsOther place (set hosts place moved)) (IsTurn (set hosts place moved)) (λ t o. o.is) turns all.only;
      once = all.once;
      each = λ p o at st fi re. elim (cases_eq p place) [
        | inl same ↦
            let is : moved ≡ o = same_some moved o (sym changed_there ∙ ap (slice_get (set hosts place moved)) (sym same) ∙ st) in
            absurd (never at (ap (λ (h : Host). h.first) is ∙ fi) (ap (λ (h : Host). h.awaited) is ∙ re))
        | inr other ↦ all.each p o at other st fi re
      ];
    }

    -- its turn is put in
    pub turns_pushed : (turn : Turn) (rest turns : List Turn) → moved.first ≡ Some (item_at turn) → moved.awaited ≡ false → moved.due ≡ due_at turn
        → turns_at (item_at turn) rest ≡ 0 → AreOthers place (set hosts place moved) rest → IsPermutation (turn ∷ rest) turns → AreTurns (set hosts place moved) turns
    turns_pushed turn rest turns first ready due fresh all perm =
        let hosts' = set hosts place moved in
        let mine : IsTurn (set hosts place moved) turn = record { place = place; owner = moved; stands = changed_there; first = first; ready = ready; due = due } in
        let count : (at : ℕ) → turns_at at turns ≡ turns_at at (turn ∷ rest) = λ at. sum_by-IsPermutation (λ turn. cond (nat_eq (item_at turn) at) 1 0) (turn ∷ rest) turns perm in
        record {
          only = All-permutation (IsTurn (set hosts place moved)) (turn ∷ rest) turns perm
              (All-cons (IsTurn (set hosts place moved)) turn rest mine (weaker (IsOther place (set hosts place moved)) (IsTurn (set hosts place moved)) (λ t o. o.is) rest all.only));
          once = λ at.
              let a : turns_at at turns ≡ turns_at at (turn ∷ rest) = count at in
              let b : turns_at at rest ≤ 1 = all.once at in
              let more : turns_at at (turn ∷ rest) ≡ at_it at turn + turns_at at rest = turns_more at turn rest in
              elim (cases_at at turn) [
                | inl (same, one) ↦ let none : turns_at at rest ≡ 0 = subst (λ k. turns_at k rest ≡ 0) same fresh in omega arith
                | inr (other, zero_there) ↦ omega arith
              ];
          each = λ p o at st fi re.
              let a : turns_at at turns ≡ turns_at at (turn ∷ rest) = count at in
              let more : turns_at at (turn ∷ rest) ≡ at_it at turn + turns_at at rest = turns_more at turn rest in
              elim (cases_eq p place) [
                | inl same ↦
                    let is : moved ≡ o = same_some moved o (sym changed_there ∙ ap (slice_get (set hosts place moved)) (sym same) ∙ st) in
                    let e : item_at turn ≡ at = same_some (item_at turn) at (sym first ∙ ap (λ (h : Host). h.first) is ∙ fi) in
                    elim (cases_at at turn) [
                      | inl (here, one) ↦ omega arith
                      | inr (other, zero_there) ↦ absurd (other e)
                    ]
                | inr other ↦ let b : 1 ≤ turns_at at rest = all.each p o at other st fi re in omega arith
              ];
        }

-- Turns with items of their own below a number, of which one is no turn's, are fewer than that.
below : ℕ → List Turn → ℕ
below n turns = sum_by (λ turn. cond (nat_lt (item_at turn) n) 1 0) turns

is_below : ℕ → ℕ → ℕ
is_below n at = cond (nat_lt at n) 1 0

cases_below : (n at : ℕ) → ((at < n) × (is_below n at ≡ 1)) ⊎ ((n ≤ at) × (is_below n at ≡ 0))
unfolding is_below
cases_below n at = elim (cases_Bool (nat_lt at n)) [
  | inl e ↦ inl ((Decides-ltb at n).0 e, ap (λ b. cond b 1 0) e)
  | inr e ↦ inr (
    elim (cases_lt at n) [
      | inl lt ↦ let t = (Decides-ltb at n).1 lt in absurd cc
      | inr ge ↦ ge
    ],
    ap (λ b. cond b 1 0) e,
  )
]

below_cons : (n : ℕ) (turn : Turn) (turns : List Turn) → below n (turn ∷ turns) ≡ is_below n (item_at turn) + below n turns
unfolding below is_below
below_cons n turn turns = sum_by-cons (λ turn. cond (nat_lt (item_at turn) n) 1 0) turn turns

below_none : (turns : List Turn) → below 0 turns ≡ 0
unfolding below
below_none [] = refl
below_none (turn ∷ turns) =
    let rest : below 0 turns ≡ 0 = below_none turns in
    let more : below 0 (turn ∷ turns) ≡ is_below 0 (item_at turn) + below 0 turns = below_cons 0 turn turns in
    elim (cases_below 0 (item_at turn)) [
      | inl (lt, one) ↦ absurd (omega arith)
      | inr (ge, nil) ↦ omega arith
    ]

below_more : (n : ℕ) (turns : List Turn) → below (n + 1) turns ≡ below n turns + turns_at n turns
unfolding below
below_more n [] = refl
below_more n (turn ∷ turns) =
    let rest : below (n + 1) turns ≡ below n turns + turns_at n turns = below_more n turns in
    let a : below (n + 1) (turn ∷ turns) ≡ is_below (n + 1) (item_at turn) + below (n + 1) turns = below_cons (n + 1) turn turns in
    let b : below n (turn ∷ turns) ≡ is_below n (item_at turn) + below n turns = below_cons n turn turns in
    let c : turns_at n (turn ∷ turns) ≡ at_it n turn + turns_at n turns = turns_more n turn turns in
    elim (cases_below (n + 1) (item_at turn)) [
      | inl (lt, one) ↦ elim (cases_below n (item_at turn)) [
        | inl (lt2, one2) ↦ elim (cases_at n turn) [
          | inl (same, one3) ↦ absurd (omega arith)
          | inr (other, nil) ↦ omega arith
        ]
        | inr (ge2, no2) ↦ elim (cases_at n turn) [
          | inl (same, one3) ↦ omega arith
          | inr (other, nil) ↦ absurd (other (omega arith))
        ]
      ]
      | inr (ge, nil) ↦ elim (cases_below n (item_at turn)) [
        | inl (lt2, one2) ↦ absurd (omega arith)
        | inr (ge2, no2) ↦ elim (cases_at n turn) [
          | inl (same, one3) ↦ absurd (omega arith)
          | inr (other, no3) ↦ omega arith
        ]
      ]
    ]

below_all : (n : ℕ) (turns : List Turn) → All (λ turn. item_at turn < n) turns → below n turns ≡ length turns
unfolding below
below_all n [] all = refl
below_all n (turn ∷ turns) all =
    let P : Turn → Type 0 = λ turn. item_at turn < n in
    let rest : below n turns ≡ length turns = below_all n turns (All-tail P turn turns all) in
    let more : below n (turn ∷ turns) ≡ is_below n (item_at turn) + below n turns = below_cons n turn turns in
    let here : item_at turn < n = All-head P turn turns all in
    elim (cases_below n (item_at turn)) [
      | inl (lt, one) ↦ omega arith
      | inr (ge, nil) ↦ absurd (omega arith)
    ]

below_free : (free n : ℕ) (turns : List Turn) → ((at : ℕ) → turns_at at turns ≤ 1) → turns_at free turns ≡ 0 → below n turns + is_below n free ≤ n
below_free free zero turns once none =
    let a : below 0 turns ≡ 0 = below_none turns in
    elim (cases_below 0 free) [ inl (lt, one) ↦ absurd (omega arith) | inr (ge, nil) ↦ omega arith ]
below_free free (suc n) turns once none =
    let rest : below n turns + is_below n free ≤ n = below_free free n turns once none in
    let a : below (suc n) turns ≡ below n turns + turns_at n turns = ap (λ k. below k turns) (let e : suc n ≡ n + 1 = omega arith in e) ∙ below_more n turns in
    let b : turns_at n turns ≤ 1 = once n in
    elim (cases_below (suc n) free) [
      | inl (lt, one) ↦ elim (cases_below n free) [
        | inl (lt2, one2) ↦ omega arith
        | inr (ge2, no2) ↦
            let same : free ≡ n = omega arith in
            let c : turns_at n turns ≡ 0 = ap (λ k. turns_at k turns) (sym same) ∙ none in
            omega arith
      ]
      | inr (ge, nil) ↦ elim (cases_below n free) [
        | inl (lt2, one2) ↦ absurd (omega arith)
        | inr (ge2, no2) ↦ omega arith
      ]
    ]

pub fewer : (free n : ℕ) (turns : List Turn) → ((at : ℕ) → turns_at at turns ≤ 1) → turns_at free turns ≡ 0 → free < n → All (λ turn. item_at turn < n) turns → length turns < n
fewer free n turns once none within all =
    let a : below n turns ≡ length turns = below_all n turns all in
    let b : below n turns + is_below n free ≤ n = below_free free n turns once none in
    elim (cases_below n free) [
      | inl (lt, one) ↦ omega arith
      | inr (ge, nil) ↦ absurd (omega arith)
    ]
