-- What the fields of `Fates` show, and what they keep.
use Rattle.std.specs.Prelude.{◌≡◌, ℕ, ◌+◌, ◌≤◌, ◌<◌, nat_eq, Bool, true, false, List, [], ◌∷◌, map, length, slice_index_or, vec_len, vec_capacity, Option, None, Some, if◌then◌else◌}
use Rattle.std.specs.List.{filter}
use Rattle.std.specs.Map.{lookup}
use Rattle.irl_offer.specs.declared.outcome.Outcome.{Outcome}
use Rattle.irl_offer.specs.declared.place.Place.{Place}
use Rattle.irl_base.specs.Lists.{items_of, list_at}
use Rattle.irl_offer.specs.declared.place.Slot.{Slot}
use Rattle.irl_offer.specs.declared.place.Slot.TheVariants.{Front as InFront, Queue as InQueue, Last as InLast}
use Rattle.irl_events.specs.Events.{Progress, has_number}
use Rattle.irl_events.specs.Legal.{are_rising}
use Rattle.irl_fate.specs.declared.fate.Fate.{Fate}
use Rattle.irl_fate.specs.declared.fate.Fate.TheVariants.{Fresh, Queue, Last, Front, Done}
use Rattle.irl_fate.specs.declared.fates.Fates.TheInside.{Inside}
pub use Rattle.irl_fate.specs.Standing.{count, one_if}
use Rattle.irl_fate.specs.Standing.{read_count}

-- the fate that the entries have for a number: one without an entry is fresh
abbrev pub fate_in : List (ℕ × Fate) → ℕ → Fate
fate_in [] n = Fresh
fate_in (e ∷ entries) n = if nat_eq e.0 n then e.1 else fate_in entries n

-- the numbers that have entries
abbrev pub numbers_in : List (ℕ × Fate) → List ℕ
numbers_in entries = map (λ e. e.0) entries

abbrev pub is_front : Fate → Bool
is_front Fresh = false
is_front (Queue i) = false
is_front Last = false
is_front Front = true
is_front (Done outcome) = false

-- whether a number with this fate stands in the list at this place
abbrev pub is_listed : ℕ → Fate → Bool
is_listed k Fresh = false
is_listed k (Queue i) = nat_eq (k + 1) i
is_listed k Last = nat_eq k 64
is_listed k Front = false
is_listed k (Done outcome) = false

abbrev pub outcome_at : Fate → Option Outcome
outcome_at Fresh = None
outcome_at (Queue i) = None
outcome_at Last = None
outcome_at Front = None
outcome_at (Done outcome) = Some outcome

abbrev pub is_done : Fate → Bool
is_done Fresh = false
is_done (Queue i) = false
is_done Last = false
is_done Front = false
is_done (Done outcome) = true

-- a queue's number, if the fate is one, is from 1 to 64
abbrev pub FitsFate : Fate → Type 0
FitsFate Fresh = Unit {0}
FitsFate (Queue i) = (1 ≤ i) × (i ≤ 64)
FitsFate Last = Unit {0}
FitsFate Front = Unit {0}
FitsFate (Done outcome) = Unit {0}

abbrev pub outcome_of : List (ℕ × Outcome) → ℕ → Option Outcome
outcome_of outcomes n = lookup (λ m. nat_eq m n) outcomes

-- each number stands once where its fate says, and nowhere else
pub record Agree (fates : ℕ → Fate) (front : List ℕ) (lists : List (List ℕ)) (done : List (ℕ × Outcome)) : Type 0 where
  pub front_is : (n : ℕ) → count n front ≡ one_if (is_front (fates n))
  pub lists_are : (k n : ℕ) → count n (list_at lists k) ≡ one_if (is_listed k (fates n))
  pub done_is : (n : ℕ) → outcome_of done n ≡ outcome_at (fates n)
  pub done_once : (n : ℕ) → count n (map (λ d. d.0) done) ≡ one_if (is_done (fates n))
  pub fits : (n : ℕ) → FitsFate (fates n)
  pub many : length lists ≡ 65

-- the numbers that are in the front still
abbrev pub front_left : List (ℕ × Fate) → List ℕ → List ℕ
front_left entries front = filter (λ n. is_front (fate_in entries n)) front

abbrev pub shown : Inside → Progress
shown a = record {
  begun = a.begun;
  cuts = a.cuts;
  sent = a.sent;
  pairs = a.pairs;
  read = a.read;
  fronts = a.fronts.items;
  front = front_left a.fates.items a.front.items;
  waiting = record { lists = items_of a.lists.items; queues = a.queues; passes = a.passes };
  done = a.done.items;
}

pub record IsKept (a : Inside) : Type 0 where
  pub agree : Agree (fate_in a.fates.items) (front_left a.fates.items a.front.items) (items_of a.lists.items)
      a.done.items
  -- a number that isn't below the last pass's is fresh
  pub fresh : (n : ℕ) → a.read ≤ n → fate_in a.fates.items n ≡ Fresh
  pub sent : a.read ≤ a.sent
  -- and none is read before the crawl begins
  pub begun : 0 < a.read → a.begun ≡ true
  -- the queues that the round has read are empty
  pub spent : (k : ℕ) → k < a.passes → list_at (items_of a.lists.items) k ≡ []
  -- and so are those that are not in use
  pub unused : (k : ℕ) → a.queues ≤ k → k < 64 → list_at (items_of a.lists.items) k ≡ []
  pub left : a.left ≡ length (front_left a.fates.items a.front.items)
  pub len : vec_len a.lists ≡ 65
  pub most : a.queues ≤ 64
  pub round : a.passes < a.queues
  -- the entries rise by number, and are as many as the numbers that were read
  pub rising : are_rising 0 a.read (numbers_in a.fates.items) ≡ true
  pub entries : vec_len a.fates ≡ read_count (shown a)
  -- the last pass's front in rising order, and how many of it are not in the front any more, in front of all that is
  pub order : (n : ℕ) → count n a.order.items ≡ count n a.front.items
  pub order_rises : are_rising 0 a.read a.order.items ≡ true
  pub next : a.next ≤ vec_len a.order
  pub passed : (i : ℕ) → i < a.next → is_front (fate_in a.fates.items (slice_index_or a.order.items i 0)) ≡ false
  -- what is left of the front has its room among what is done
  pub room : vec_len a.done + a.left ≤ vec_capacity a.done

-- ---- on the way
-- a number has an entry
abbrev pub HasEntry : List (ℕ × Fate) → ℕ → Type 0
HasEntry entries n = has_number (numbers_in entries) n ≡ true

-- numbers rise
abbrev pub AreSorted : List ℕ → Type 0
AreSorted ns = (i j : ℕ) → i < j → j < length ns → slice_index_or ns i 0 < slice_index_or ns j 0

-- the entry at a place is that of a number
pub record IsAt (entries : List (ℕ × Fate)) (n i : ℕ) : Type 0 where
  pub within : i < length entries
  pub number : slice_index_or (numbers_in entries) i 0 ≡ n

abbrev pub fate_of_slot : Slot → Fate
fate_of_slot InFront = Front
fate_of_slot (InQueue number) = Queue number
fate_of_slot InLast = Last

-- the fate of a number after places, of which the last one counts, or else another
abbrev pub placed_by : List Place → ℕ → Fate → Fate
placed_by [] q other = other
placed_by (place ∷ places) q other =
    placed_by places q (if nat_eq place.number q then fate_of_slot place.slot else other)
