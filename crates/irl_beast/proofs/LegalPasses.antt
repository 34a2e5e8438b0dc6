-- A pass breaks no rule, and numbers wait after it as the items do.
use Rattle.std.proofs.Common.{◌≡◌, ◌≢◌, ◌∙◌, ℕ, zero, suc, ◌+◌, ◌*◌, List, [], ◌∷◌, ◌++◌, map, length, set, cond, min, not, sym, ap, refl, arith, Bool, true, false, Option, None, Some}
use Rattle.std.specs.Prelude.{◌&&◌, nat_eq, nat_le, nat_lt}
use Rattle.std.specs.List.{list_all}
use Rattle.std.proofs.lemmas.Bool.{eq-eqb, eqb-false, le-leb, false≢true}
use Rattle.std.proofs.lemmas.List.{length-map, map-append}
use Rattle.irl_offer.specs.Purses.{Budget}
use Rattle.irl_offer.specs.declared.place.Place.{Place}
use Rattle.irl_offer.specs.declared.place.Slot.{Slot}
use Rattle.irl_offer.specs.declared.place.Slot.TheVariants.{Front, Queue, Last}
use Rattle.irl_events.specs.Events.{Progress, Pass, numbers_of, after_event}
use Rattle.irl_events.specs.Legal.{are_read, are_rising, broken, is_slot_within, passes_on}
use Rattle.irl_base.specs.Lists.{list_at, with_one}
use Rattle.irl_events.specs.Queues.{Waiting, put, delivered, next_queues, round_ended, after_pass}
use Rattle.irl_beast.specs.declared.item.Item.{Item}
use Rattle.irl_beast.specs.Passes.{item_numbers, numbered, passed, read_by}
use Rattle.irl_beast.specs.Places.{slot_at, place, places_behind}

-- ---- places
numbers_behind : (p j : ℕ) (budget : Budget) (earlier items : List Item) → numbers_of (places_behind p j budget earlier items) ≡ item_numbers items
unfolding places_behind
numbers_behind p j budget earlier [] = refl
numbers_behind p j budget earlier (item ∷ items) =
    ap (λ (ns : List ℕ). item.number ∷ ns) (numbers_behind p j budget (earlier ++ item ∷ []) items)

pub place_numbers : (p j : ℕ) (budget : Budget) (items : List Item) → numbers_of (place p j budget items) ≡ item_numbers items
place_numbers p j budget items = numbers_behind p j budget [] items

slot_within : (p j s : ℕ) → is_slot_within (p + 2) j (slot_at p j s) ≡ true
slot_within p j s = by_test (nat_eq s 0) (nat_le (p + 1 + s) j) refl refl
  where
    by_test : (a b : Bool) → nat_eq s 0 ≡ a → nat_le (p + 1 + s) j ≡ b → is_slot_within (p + 2) j (cond a Front (cond b (Queue (p + 1 + s)) Last)) ≡ true
    by_test true b e f = refl
    by_test false true e f =
        let some : s ≢ 0 = eqb-false s 0 e in
        ap (λ (b : Bool). b && nat_le (p + 1 + s) j) (le-leb (p + 2) (p + 1 + s) (omega arith)) ∙ f
    by_test false false e f = refl

slots_behind : (p j : ℕ) (budget : Budget) (earlier items : List Item) → list_all (λ at. is_slot_within (p + 2) j at.slot) (places_behind p j budget earlier items) ≡ true
unfolding places_behind
slots_behind p j budget earlier [] = refl
slots_behind p j budget earlier (item ∷ items) =
    ap (λ (b : Bool). b && list_all (λ at. is_slot_within (p + 2) j at.slot) (places_behind p j budget (earlier ++ item ∷ []) items)) (slot_within p j _)
    ∙ slots_behind p j budget (earlier ++ item ∷ []) items

pub place_within : (p j : ℕ) (budget : Budget) (items : List Item) → list_all (λ at. is_slot_within (p + 2) j at.slot) (place p j budget items) ≡ true
place_within p j budget items = slots_behind p j budget [] items

-- ---- what is read
pub place_read : (queue fresh : List Item) (from to : ℕ) → are_rising from to (item_numbers fresh) ≡ true → are_read (item_numbers queue) from to (item_numbers (queue ++ fresh)) ≡ true
place_read [] fresh from to h = h
place_read (q ∷ queue) fresh from to h =
    ap (λ (b : Bool). b && are_read (item_numbers queue) from to (item_numbers (queue ++ fresh))) (eq-eqb q.number q.number refl)
    ∙ place_read queue fresh from to h

-- ---- lists of items, by their numbers
abbrev lists_of : List (List Item) → List (List ℕ)
lists_of lists = map item_numbers lists

at_numbers : (lists : List (List Item)) (at : ℕ) → list_at (lists_of lists) at ≡ item_numbers (list_at lists at)
at_numbers [] at = refl
at_numbers (list ∷ lists) zero = refl
at_numbers (list ∷ lists) (suc at) = at_numbers lists at

set_numbers : (lists : List (List Item)) (at : ℕ) (list : List Item) → lists_of (set lists at list) ≡ set (lists_of lists) at (item_numbers list)
set_numbers [] at new = refl
set_numbers (list ∷ lists) zero new = refl
set_numbers (list ∷ lists) (suc at) new = ap (λ (ls : List (List ℕ)). item_numbers list ∷ ls) (set_numbers lists at new)

one_numbers : (lists : List (List Item)) (at : ℕ) (item : Item) → lists_of (with_one lists at item) ≡ with_one (lists_of lists) at item.number
one_numbers lists at item =
    set_numbers lists at (list_at lists at ++ item ∷ [])
    ∙ ap (set (lists_of lists) at) (map-append (λ (i : Item). i.number) (list_at lists at) (item ∷ []) ∙ ap (λ (ns : List ℕ). ns ++ item.number ∷ []) (sym (at_numbers lists at)))

put_numbers : (lists : List (List Item)) (item : Item) (slot : Slot) → lists_of (put lists item slot) ≡ put (lists_of lists) item.number slot
put_numbers lists item Front = refl
put_numbers lists item (Queue number) = one_numbers lists _ item
put_numbers lists item Last = one_numbers lists 64 item

delivered_numbers : (lists : List (List Item)) (items : List Item) (places : List Place) → lists_of (delivered lists items places) ≡ delivered (lists_of lists) (item_numbers items) places
unfolding delivered
delivered_numbers lists [] places = refl
delivered_numbers lists (item ∷ items) [] = refl
delivered_numbers lists (item ∷ items) (place ∷ places) =
    delivered_numbers (put lists item place.slot) items places
    ∙ ap (λ (ls : List (List ℕ)). delivered ls (item_numbers items) places) (put_numbers lists item place.slot)

ended_numbers : (lists : List (List Item)) (queues passes : ℕ) → numbered (round_ended lists queues passes) ≡ round_ended (lists_of lists) queues passes
ended_numbers lists queues passes = by_test (nat_lt passes queues)
  where
    last : list_at (lists_of lists) 64 ≡ item_numbers (list_at lists 64)
    last = at_numbers lists 64

    long : length (list_at (lists_of lists) 64) ≡ length (list_at lists 64)
    long = ap length last ∙ length-map (list_at lists 64) (λ (i : Item). i.number)

    first : lists_of (set (set lists 64 []) 0 (list_at lists 64)) ≡ set (set (lists_of lists) 64 []) 0 (list_at (lists_of lists) 64)
    first =
        set_numbers (set lists 64 []) 0 (list_at lists 64)
        ∙ ap (λ (ls : List (List ℕ)). set ls 0 (item_numbers (list_at lists 64))) (set_numbers lists 64 [])
        ∙ ap (set (set (lists_of lists) 64 []) 0) (sym last)

    more : next_queues queues (list_at lists 64) ≡ next_queues queues (list_at (lists_of lists) 64)
    more = ap (λ (n : ℕ). cond (nat_eq n 0) queues (min (2 * queues) 64)) (sym long)

    by_test : (b : Bool) → numbered (cond b (record { lists = lists; queues = queues; passes = passes })
        (record { lists = set (set lists 64 []) 0 (list_at lists 64); queues = next_queues queues (list_at lists 64); passes = 0 }))
        ≡ cond b (record { lists = lists_of lists; queues = queues; passes = passes })
        (record { lists = set (set (lists_of lists) 64 []) 0 (list_at (lists_of lists) 64); queues = next_queues queues (list_at (lists_of lists) 64); passes = 0 })
    by_test true = refl
    by_test false =
        ap (λ (ls : List (List ℕ)). record { lists = ls; queues = next_queues queues (list_at lists 64); passes = 0 }) first
        ∙ ap (λ (n : ℕ). record { lists = set (set (lists_of lists) 64 []) 0 (list_at (lists_of lists) 64); queues = n; passes = 0 }) more

-- what waits after a pass, by its numbers, is what a pass makes of the numbers
after_numbers : (waiting : Waiting Item) (read : List Item) (places : List Place) → numbered (after_pass waiting read places) ≡ after_pass (numbered waiting) (item_numbers read) places
after_numbers waiting read places =
    ended_numbers (delivered (set waiting.lists waiting.passes []) read places) waiting.queues (waiting.passes + 1)
    ∙ ap (λ (ls : List (List ℕ)). round_ended ls waiting.queues (waiting.passes + 1))
    (delivered_numbers (set waiting.lists waiting.passes []) read places
    ∙ ap (λ (ls : List (List ℕ)). delivered ls (item_numbers read) places) (set_numbers waiting.lists waiting.passes []))

-- ---- rules
both : (a b : Bool) → a ≡ true → b ≡ true → (a && b) ≡ true
both true b e f = f
both false b e f = absurd (false≢true e)

unbroken : (begun passes : Bool) → begun ≡ true → passes ≡ true → ◌≡◌ {A = Option ℕ} (cond (not begun) (Some 1) (cond (not passes) (Some 3) None)) None
unbroken true true e f = refl
unbroken true false e f = absurd (false≢true f)
unbroken false passes e f = absurd (false≢true e)

pub pass_legal : (x : Progress) (waiting : Waiting Item) (budget : Budget) (fresh : List Item) → x.begun ≡ true → x.front ≡ [] → x.waiting ≡ numbered waiting
    → are_rising x.read x.sent (item_numbers fresh) ≡ true → broken x (Pass x.sent) (place waiting.passes waiting.queues budget (read_by waiting fresh)) ≡ None
pass_legal x waiting budget fresh begun front waits rising =
    let queue : List Item = list_at waiting.lists waiting.passes in
    let places : List Place = place waiting.passes waiting.queues budget (read_by waiting fresh) in
    let none : nat_eq (length x.front) 0 ≡ true = ap (λ (ns : List ℕ). nat_eq (length ns) 0) front in
    let reads : are_read (list_at x.waiting.lists x.waiting.passes) x.read x.sent (numbers_of places) ≡ true =
    ap (λ (w : Waiting ℕ). are_read (list_at w.lists w.passes) x.read x.sent (numbers_of places)) waits
    ∙ ap (λ (ns : List ℕ). are_read ns x.read x.sent (numbers_of places)) (at_numbers waiting.lists waiting.passes)
    ∙ ap (are_read (item_numbers queue) x.read x.sent) (place_numbers waiting.passes waiting.queues budget (queue ++ fresh))
    ∙ place_read queue fresh x.read x.sent rising in
    let slots : list_all (λ at. is_slot_within (x.waiting.passes + 2) x.waiting.queues at.slot) places ≡ true =
    ap (λ (w : Waiting ℕ). list_all (λ at. is_slot_within (w.passes + 2) w.queues at.slot) places) waits
    ∙ place_within waiting.passes waiting.queues budget (queue ++ fresh) in
    unbroken x.begun (passes_on x (Pass x.sent) places) begun (both _ _ (both _ _ (both _ _ (eq-eqb x.sent x.sent refl) none) reads) slots)

pub pass_waiting : (x : Progress) (waiting : Waiting Item) (budget : Budget) (fresh : List Item) (judged : ℕ) → x.waiting ≡ numbered waiting
    → (after_event x (Pass judged) (place waiting.passes waiting.queues budget (read_by waiting fresh))).waiting ≡ numbered (passed budget waiting fresh)
pass_waiting x waiting budget fresh judged waits =
    let read : List Item = read_by waiting fresh in
    let places : List Place = place waiting.passes waiting.queues budget read in
    ap (λ (w : Waiting ℕ). after_pass w (numbers_of places) places) waits
    ∙ ap (λ (ns : List ℕ). after_pass (numbered waiting) ns places) (place_numbers waiting.passes waiting.queues budget read)
    ∙ sym (after_numbers waiting read places)
