-- Lists with more items behind their own.
use Rattle.std.proofs.Common.{◌≡◌, ◌∙◌, ℕ, zero, suc, ◌+◌, ◌-◌, ◌<◌, ◌≤◌, List, [], ◌∷◌, ◌++◌, length, set, refl, sym, ap, arith, append_assoc, inl, inr}
use Rattle.std.specs.Prelude.{replicate}
use Rattle.std.proofs.lemmas.Bool.{cases_eq}
use Rattle.std.proofs.lemmas.List.{append-nil, length-set, get_or-set_same, get_or-set_other, ext_get_or}
use Rattle.irl_offer.specs.declared.place.Place.{Place}
use Rattle.irl_offer.specs.declared.place.Slot.{Slot}
use Rattle.irl_offer.specs.declared.place.Slot.TheVariants.{Front, Queue, Last}
use Rattle.irl_base.specs.Lists.{list_at, with_one}
use Rattle.irl_events.specs.Queues.{put, delivered, empty_lists}
use Rattle.irl_beast.specs.Plans.{joined}

-- no more items leave the lists
joined_none : {X : Type 0} (lists : List (List X)) (n : ℕ) → joined lists (replicate n []) ≡ lists
joined_none [] n = refl
joined_none (list ∷ lists) zero = refl
joined_none {X = X} (list ∷ lists) (suc n) =
    ap (λ (l : List X). l ∷ joined lists (replicate n [])) (append-nil list) ∙ ap (λ (ls : List (List X)). list ∷ ls) (joined_none lists n)

pub joined_at : {X : Type 0} (lists more : List (List X)) (at : ℕ) → length more ≡ length lists → list_at (joined lists more) at ≡ list_at lists at ++ list_at more at
joined_at [] [] at e = refl
joined_at [] (items ∷ more) at e = absurd (omega arith)
joined_at (list ∷ lists) [] at e = absurd (omega arith)
joined_at (list ∷ lists) (items ∷ more) zero e = refl
joined_at (list ∷ lists) (items ∷ more) (suc at) e = joined_at lists more at (omega arith)

joined_set : {X : Type 0} (lists more : List (List X)) (at : ℕ) (items : List X) → length more ≡ length lists
    → joined lists (set more at items) ≡ set (joined lists more) at (list_at lists at ++ items)
joined_set [] [] at new e = refl
joined_set [] (items ∷ more) at new e = absurd (omega arith)
joined_set (list ∷ lists) [] at new e = absurd (omega arith)
joined_set (list ∷ lists) (items ∷ more) zero new e = refl
joined_set {X = X} (list ∷ lists) (items ∷ more) (suc at) new e = ap (λ (ls : List (List X)). (list ++ items) ∷ ls) (joined_set lists more at new (omega arith))

pub length-joined : {X : Type 0} (lists more : List (List X)) → length (joined lists more) ≡ length lists
length-joined [] more = refl
length-joined (list ∷ lists) [] = refl
length-joined (list ∷ lists) (items ∷ more) = ap suc (length-joined lists more)

joined_one : {X : Type 0} (lists more : List (List X)) (at : ℕ) (item : X) → length more ≡ length lists → joined lists (with_one more at item) ≡ with_one (joined lists more) at item
joined_one {X = X} lists more at item e =
    joined_set lists more at (list_at more at ++ item ∷ []) e
    ∙ ap (set (joined lists more) at)
    (sym (append_assoc (list_at lists at) (list_at more at) (item ∷ [])) ∙ ap (λ (l : List X). l ++ item ∷ []) (sym (joined_at lists more at e)))

joined_put : {X : Type 0} (lists more : List (List X)) (item : X) (slot : Slot) → length more ≡ length lists → joined lists (put more item slot) ≡ put (joined lists more) item slot
joined_put lists more item Front e = refl
joined_put lists more item (Queue number) e = joined_one lists more (number - 1) item e
joined_put lists more item Last e = joined_one lists more 64 item e

length-put : {X : Type 0} (lists : List (List X)) (item : X) (slot : Slot) → length (put lists item slot) ≡ length lists
length-put lists item Front = refl
length-put lists item (Queue number) = length-set lists (number - 1) (list_at lists (number - 1) ++ item ∷ [])
length-put lists item Last = length-set lists 64 (list_at lists 64 ++ item ∷ [])

joined_delivered : {X : Type 0} (lists more : List (List X)) (items : List X) (places : List Place) → length more ≡ length lists
    → joined lists (delivered more items places) ≡ delivered (joined lists more) items places
unfolding delivered
joined_delivered lists more [] places e = refl
joined_delivered lists more (item ∷ items) [] e = refl
joined_delivered {X = X} lists more (item ∷ items) (place ∷ places) e =
    joined_delivered lists (put more item place.slot) items places (length-put more item place.slot ∙ e)
    ∙ ap (λ (ls : List (List X)). delivered ls items places) (joined_put lists more item place.slot e)

-- items that were put into empty lists stand in their places once these are joined to the lists
pub joined_items : {X : Type 0} (lists : List (List X)) (items : List X) (places : List Place) → length lists ≡ 65 → joined lists (delivered empty_lists items places) ≡ delivered lists items places
joined_items {X = X} lists items places e =
    joined_delivered lists empty_lists items places (sym e)
    ∙ ap (λ (ls : List (List X)). delivered ls items places) (joined_none lists 65)

-- ---- one list after another
-- the lists below a number are joined, and the others are as they were
pub record JoinedBelow {X : Type 0} (lists more now : List (List X)) (n : ℕ) : Type 0 where
  pub count : length now ≡ length lists
  pub done : (k : ℕ) → k < n → list_at now k ≡ list_at lists k ++ list_at more k
  pub rest : (k : ℕ) → n ≤ k → list_at now k ≡ list_at lists k

pub joined_start : {X : Type 0} (lists more : List (List X)) → JoinedBelow lists more lists 0
joined_start lists more = record { count = refl; done = λ k lt. absurd (omega arith); rest = λ k le. refl }

pub joined_next : {X : Type 0} (lists more now after : List (List X)) (n : ℕ) → n < length lists → after ≡ set now n (list_at lists n ++ list_at more n) → JoinedBelow lists more now n
    → JoinedBelow lists more after (n + 1)
joined_next {X = X} lists more now after n lt is below =
    let changed : List X = list_at lists n ++ list_at more n in
    record {
      count = ap length is ∙ length-set now n changed ∙ below.count;
      done = λ k less. ap (λ (t : List (List X)). list_at t k) is ∙ elim (cases_eq k n) [
        | inl here ↦
            ap (λ (m : ℕ). list_at (set now n changed) m) here ∙ get_or-set_same now n changed [] (omega (arith, below.count))
            ∙ ap (λ (m : ℕ). list_at lists m ++ list_at more m) (sym here)
        | inr other ↦ get_or-set_other now n k changed [] other ∙ below.done k (omega arith)
      ];
      rest = λ k le. ap (λ (t : List (List X)). list_at t k) is ∙ get_or-set_other now n k changed [] (omega arith) ∙ below.rest k (omega arith);
    }

pub joined_end : {X : Type 0} (lists more now : List (List X)) (n : ℕ) → length more ≡ length lists → n ≡ length lists → JoinedBelow lists more now n → now ≡ joined lists more
joined_end lists more now n e all below = ext_get_or [] now (joined lists more) (below.count ∙ sym (length-joined lists more)) (λ i lt.
    below.done i (omega (arith, below.count)) ∙ sym (joined_at lists more i e))
