-- The rules that events keep, by themselves and their places. What the book adds, which URLs a pass has to read among
-- them, stands with the store.
use Rattle.std.specs.Prelude.{◌≡◌, ℕ, ◌+◌, nat_eq, nat_le, nat_lt, Bool, true, false, not, ◌&&◌, ◌||◌, if◌then◌else◌, List, [], ◌∷◌, map, length, Option, None, Some}
use Rattle.std.specs.List.{list_all}
use Rattle.irl_base.specs.Limits.{max_text, max_robots}
use Rattle.irl_offer.specs.declared.note.NoteState.{NoteState}
use Rattle.irl_offer.specs.declared.note.NoteState.TheVariants.{Rules, Free, Shut}
use Rattle.irl_offer.specs.declared.place.Place.{Place}
use Rattle.irl_offer.specs.declared.place.Slot.{Slot}
use Rattle.irl_offer.specs.declared.place.Slot.TheVariants.{Front, Queue, Last}
use Rattle.irl_base.specs.Lists.{list_at}
use Rattle.irl_events.specs.Events.{Event, Begin, Pairs, Pass, Robots, Settle, Happened, Progress, has_number, numbers_of, after_event, before_all}

-- 1. The first event, where there is one, is Begin, and no other event is.
abbrev pub begins_once : Progress → Event → Bool
begins_once x (Begin suffixes) = not x.begun
begins_once x (Pairs cuts judged pairs) = x.begun
begins_once x (Pass judged) = x.begun
begins_once x (Robots note) = x.begun
begins_once x (Settle fronts outcomes) = x.begun

-- 2. The three numbers of Pairs are at least those of the Pairs before.
abbrev pub pairs_rise : Progress → Event → Bool
pairs_rise x (Begin suffixes) = true
pairs_rise x (Pairs cuts judged pairs) = nat_le x.cuts cuts && nat_le x.sent judged && nat_le x.pairs pairs
pairs_rise x (Pass judged) = true
pairs_rise x (Robots note) = true
pairs_rise x (Settle fronts outcomes) = true

-- numbers rise, from one on, and lie below another
abbrev pub are_rising : ℕ → ℕ → List ℕ → Bool
are_rising from to [] = true
are_rising from to (n ∷ ns) = nat_le from n && nat_lt n to && are_rising (n + 1) to ns

-- the front, the last list, or a queue from one on and up to another
abbrev pub is_slot_within : ℕ → ℕ → Slot → Bool
is_slot_within from to Front = true
is_slot_within from to (Queue number) = nat_le from number && nat_le number to
is_slot_within from to Last = true

-- numbers are those of a queue, in its order, and then others that rise, from one on, and lie below another
abbrev pub are_read : List ℕ → ℕ → ℕ → List ℕ → Bool
are_read [] from to numbers = are_rising from to numbers
are_read (q ∷ queue) from to [] = false
are_read (q ∷ queue) from to (n ∷ numbers) = nat_eq q n && are_read queue from to numbers

-- 3. A Pass has the number of the last Pairs, 0 before any, and finds no number in the front. Its places are those of
-- the next queue, in its order, and then of fresh numbers, rising, from the number of the last Pass on and below this
-- one's. Each slot is the front, the last list, or a queue behind the one that is read.
abbrev pub passes_on : Progress → Event → List Place → Bool
passes_on x (Begin suffixes) places = true
passes_on x (Pairs cuts judged pairs) places = true
passes_on x (Pass judged) places =
    nat_eq judged x.sent && nat_eq (length x.front) 0 && are_read (list_at x.waiting.lists x.waiting.passes) x.read
    judged (numbers_of places)
    && list_all (λ place. is_slot_within (x.waiting.passes + 2) x.waiting.queues place.slot) places
passes_on x (Robots note) places = true
passes_on x (Settle fronts outcomes) places = true

-- the robots text that a note keeps, empty where the file gives no rules
abbrev pub text_of : NoteState → List ℕ
text_of (Rules text) = text
text_of Free = []
text_of Shut = []

-- 4. The host of Robots has 1 to 2,048 bytes, the text at most 512,000.
abbrev pub is_noted : Event → Bool
is_noted (Begin suffixes) = true
is_noted (Pairs cuts judged pairs) = true
is_noted (Pass judged) = true
is_noted (Robots note) = nat_le 1 (length note.host) && nat_le (length note.host) max_text && nat_le
    (length (text_of note.state)) max_robots
is_noted (Settle fronts outcomes) = true

-- of two lists of as many numbers, none of the second is below the first's, and one is above
abbrev pub none_fell : List ℕ → List ℕ → Bool
none_fell [] [] = true
none_fell [] (y ∷ ys) = false
none_fell (x ∷ xs) [] = false
none_fell (x ∷ xs) (y ∷ ys) = nat_le x y && none_fell xs ys

abbrev pub one_rose : List ℕ → List ℕ → Bool
one_rose [] ys = false
one_rose (x ∷ xs) [] = false
one_rose (x ∷ xs) (y ∷ ys) = nat_lt x y || one_rose xs ys

-- none of the numbers stands twice
abbrev pub are_distinct : List ℕ → Bool
are_distinct [] = true
are_distinct (n ∷ ns) = not (has_number ns n) && are_distinct ns

-- 5. Settle has an outcome or a front that rose. Each number is in the front, none twice. No front falls.
abbrev pub settles : Progress → Event → Bool
settles x (Begin suffixes) = true
settles x (Pairs cuts judged pairs) = true
settles x (Pass judged) = true
settles x (Robots note) = true
settles x (Settle fronts outcomes) =
    (nat_lt 0 (length outcomes) || one_rose x.fronts fronts) && list_all (λ d. has_number x.front d.0) outcomes
    && are_distinct (map (λ d. d.0) outcomes) && none_fell x.fronts fronts

-- the least rule that an event with its places breaks, if it breaks one
abbrev pub broken : Progress → Event → List Place → Option ℕ
broken x event places =
    if not (begins_once x event) then Some 1
    else (if not (pairs_rise x event) then Some 2
    else (if not (passes_on x event places) then Some 3
    else (if not (is_noted event) then Some 4
    else (if not (settles x event) then Some 5 else None))))

-- none of these events breaks a rule
abbrev pub AreLegalAfter : Progress → List Happened → Type 0
AreLegalAfter x [] = Unit {0}
AreLegalAfter x (h ∷ hs) = (broken x h.0 h.1 ≡ None) × AreLegalAfter (after_event x h.0 h.1) hs

abbrev pub AreLegal : ℕ → ℕ → List Happened → Type 0
AreLegal queues buckets events = AreLegalAfter (before_all queues buckets) events
