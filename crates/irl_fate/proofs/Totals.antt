-- How many numbers wait, whatever is done.
use Rattle.std.proofs.Common.{◌≡◌, ◌∙◌, ℕ, ◌+◌, ◌-◌, ◌<◌, ◌≤◌, zero, suc, List, [], ◌∷◌, ◌++◌, length, set, ap, arith, refl, Bool, true, false, cond, length-append}
use Rattle.std.proofs.lemmas.List.{length-set, get_or-set_other}
use Rattle.std.specs.List.{filter}
use Rattle.irl_offer.specs.declared.place.Place.{Place}
use Rattle.irl_offer.specs.declared.place.Slot.{Slot}
use Rattle.irl_offer.specs.declared.place.Slot.TheVariants.{Front as InFront, Queue as InQueue, Last as InLast}
use Rattle.irl_base.specs.Lists.{list_at, with_one}
use Rattle.irl_events.specs.Queues.{put, delivered, FitsSlot}
use Rattle.irl_events.specs.Events.{is_in_front, numbers_of}
use Rattle.irl_fate.specs.Standing.{total, one_if}
use Rattle.irl_fate.proofs.Agreeing.{length-put}
use Rattle.irl_fate.proofs.Reading.{front_places}

-- a list takes the place of another
pub total_set : (lists : List (List ℕ)) (at : ℕ) (list : List ℕ) → at < length lists → total (set lists at list) + length (list_at lists at) ≡ total lists + length list
total_set [] at list lt = absurd (omega arith)
total_set (l ∷ lists) zero list lt = omega arith
total_set (l ∷ lists) (suc at) list lt =
    let rest : total (set lists at list) + length (list_at lists at) ≡ total lists + length list = total_set lists at list (omega arith) in
    omega arith

total_with : (lists : List (List ℕ)) (at n : ℕ) → at < length lists → total (with_one lists at n) ≡ total lists + 1
total_with lists at n lt =
    let moved = total_set lists at (list_at lists at ++ n ∷ []) lt in
    omega (arith, moved, length-append (list_at lists at) (n ∷ []))

total_put : (lists : List (List ℕ)) (n : ℕ) (s : Slot) → length lists ≡ 65 → FitsSlot s → total (put lists n s) + one_if (is_in_front s) ≡ total lists + 1
total_put lists n InFront many fits = refl
total_put lists n (InQueue i) many fits =
    let least : 1 ≤ i = fits.0 in
    let most : i ≤ 64 = fits.1 in
    omega (arith, total_with lists (i - 1) n (omega arith))
total_put lists n InLast many fits = omega (arith, total_with lists 64 n (omega arith))

-- slots of places fit
abbrev pub AllFit : List Place → Type 0
AllFit [] = Unit {0}
AllFit (place ∷ places) = FitsSlot place.slot × AllFit places

front_count : (place : Place) (places : List Place) → length (front_places (place ∷ places)) ≡ one_if (is_in_front place.slot) + length (front_places places)
front_count place places = counted (is_in_front place.slot)
  where
    counted : (b : Bool) → length (numbers_of (cond b (place ∷ filter (λ p. is_in_front p.slot) places) (filter (λ p. is_in_front p.slot) places))) ≡ one_if b + length (front_places places)
    counted true = omega arith
    counted false = omega arith

pub total_delivered : (lists : List (List ℕ)) (places : List Place) → length lists ≡ 65 → AllFit places
    → total (delivered lists (numbers_of places) places) + length (front_places places) ≡ total lists + length places
unfolding delivered
total_delivered lists [] many fit = refl
total_delivered lists (place ∷ places) many fit =
    let rest : total (delivered (put lists place.number place.slot) (numbers_of places) places) + length (front_places places)
    ≡ total (put lists place.number place.slot) + length places =
    total_delivered (put lists place.number place.slot) places (length-put lists place.number place.slot ∙ many) fit.1 in
    let one : total (put lists place.number place.slot) + one_if (is_in_front place.slot) ≡ total lists + 1 = total_put lists place.number place.slot many fit.0 in
    let front : length (front_places (place ∷ places)) ≡ one_if (is_in_front place.slot) + length (front_places places) = front_count place places in
    omega arith

-- the last list becomes queue 1, which is empty
pub total_turned : (lists : List (List ℕ)) → length lists ≡ 65 → list_at lists 0 ≡ [] → total (set (set lists 64 []) 0 (list_at lists 64)) ≡ total lists
total_turned lists many none =
    let last : List ℕ = list_at lists 64 in
    let out = total_set lists 64 [] (omega arith) in
    let back = total_set (set lists 64 []) 0 last (omega (arith, length-set lists 64 [])) in
    let first : list_at (set lists 64 []) 0 ≡ [] = get_or-set_other lists 64 0 [] [] (λ e. omega arith) ∙ none in
    omega (arith, out, back, ap length first)
