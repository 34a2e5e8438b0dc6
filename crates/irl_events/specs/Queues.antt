-- The lists in which items wait, and what a pass makes of them (Lee, Leonard, Wang and Loguinov, "IRLbot: Scaling to 6
-- Billion Pages and Beyond", WWW 2008, section 6).
use Rattle.std.specs.Prelude.{ℕ, ◌+◌, ◌-◌, ◌*◌, ◌≤◌, nat_lt, nat_eq, min, if◌then◌else◌, List, [], ◌∷◌, length, slice_set, replicate}
use Rattle.irl_base.specs.Lists.{list_at, with_one}
use Rattle.irl_offer.specs.declared.place.Place.{Place}
use Rattle.irl_offer.specs.declared.place.Slot.{Slot}
use Rattle.irl_offer.specs.declared.place.Slot.TheVariants.{Front, Queue, Last}

-- what waits: 64 queues, of which the first so many are in use, and the last list behind them; and how many passes of
-- the round are done
pub record Waiting (X : Type 0) : Type 0 where
  pub lists : List (List X)
  pub queues : ℕ
  pub passes : ℕ

-- as many lists as there may be, all empty
abbrev pub empty_lists : {X : Type 0} → List (List X)
empty_lists = replicate 65 []

-- so many queues, and nothing in them
abbrev pub none_waiting : {X : Type 0} → ℕ → Waiting X
none_waiting queues = record { lists = empty_lists; queues = queues; passes = 0 }

-- a queue, from 1
abbrev pub queue_of : {X : Type 0} → Waiting X → ℕ → List X
queue_of waiting i = list_at waiting.lists (i - 1)

abbrev pub last_of : {X : Type 0} → Waiting X → List X
last_of waiting = list_at waiting.lists 64

-- an item put where its slot says: one in front leaves the lists
abbrev pub put : {X : Type 0} → List (List X) → X → Slot → List (List X)
put lists item Front = lists
put lists item (Queue number) = with_one lists (number - 1) item
put lists item Last = with_one lists 64 item

-- items put in their places, in order
unfoldable pub delivered : {X : Type 0} → List (List X) → List X → List Place → List (List X)
delivered lists [] places = lists
delivered lists (item ∷ items) [] = lists
delivered lists (item ∷ items) (place ∷ places) = delivered (put lists item place.slot) items places

-- how many queues the next round has: twice as many, but at most 64, where the last list wasn't empty
abbrev pub next_queues : {X : Type 0} → ℕ → List X → ℕ
next_queues queues last = if nat_eq (length last) 0 then queues else min (2 * queues) 64

-- what waits after so many passes: where that is all of the round, the last list becomes queue 1 and a new round begins
abbrev pub round_ended : {X : Type 0} → List (List X) → ℕ → ℕ → Waiting X
round_ended lists queues passes =
    if nat_lt passes queues then record { lists = lists; queues = queues; passes = passes }
    else record {
      lists = slice_set (slice_set lists 64 []) 0 (list_at lists 64);
      queues = next_queues queues (list_at lists 64);
      passes = 0;
    }

-- what waits after a pass that read these items, the next queue first, and gave them these places
abbrev pub after_pass : {X : Type 0} → Waiting X → List X → List Place → Waiting X
after_pass waiting read places =
    round_ended (delivered (slice_set waiting.lists waiting.passes []) read places) waiting.queues (waiting.passes + 1)

-- ---- on the way
-- a queue's number, if the slot is one, is from 1 to 64
abbrev pub FitsSlot : Slot → Type 0
FitsSlot Front = Unit {0}
FitsSlot (Queue number) = (1 ≤ number) × (number ≤ 64)
FitsSlot Last = Unit {0}
