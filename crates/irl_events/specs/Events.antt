-- What a crawl does, one event after another, and what becomes of its URLs by that. A URL has a number: its place in
-- the judged order.
use Rattle.std.specs.Prelude.{ℕ, nat_eq, Bool, true, false, not, ◌&&◌, List, [], ◌∷◌, ◌++◌, map, replicate}
use Rattle.std.specs.List.{filter, list_any, list_all}
use Rattle.irl_offer.specs.declared.note.Note.{Note}
use Rattle.irl_offer.specs.declared.outcome.Outcome.{Outcome}
use Rattle.irl_offer.specs.declared.place.Place.{Place}
use Rattle.irl_offer.specs.declared.place.Slot.{Slot}
use Rattle.irl_offer.specs.declared.place.Slot.TheVariants.{Front, Queue, Last}
use Rattle.irl_events.specs.Queues.{Waiting, none_waiting, after_pass}

pub data Event : Type 0 where
  -- the crawl begins, with this text of suffixes
  Begin : List ℕ → Event
  -- the pairs of the first so many cuts, which judged so many offers, are sent: they are the first so many that are
  -- judged of the pairs
  Pairs : ℕ → ℕ → ℕ → Event
  -- a pass reads the next queue, and then the fresh URLs below this number
  Pass : ℕ → Event
  -- a host's robots file was found so
  Robots : Note → Event
  -- this came of so many URLs, when the buckets' lists were so long
  Settle : List ℕ → List (ℕ × Outcome) → Event

-- an event, with the places that it gives: only a pass gives any, and beside the others they are not looked at
abbrev pub Happened : Type 0
Happened = Event × List Place

-- how far a crawl has come
pub record Progress : Type 0 where
  -- whether it has begun
  pub begun : Bool
  -- the numbers of the last Pairs, 0 before any: cuts, judged offers and judged pairs
  pub cuts : ℕ
  pub sent : ℕ
  pub pairs : ℕ
  -- the number of the last Pass, 0 before any: each URL below it was read
  pub read : ℕ
  -- the lists' lengths of the last Settle, zeros before any
  pub fronts : List ℕ
  -- what is to be fetched next, in the order of reading
  pub front : List ℕ
  -- what waits in the queues, and in the last list
  pub waiting : Waiting ℕ
  -- what is done, in order
  pub done : List (ℕ × Outcome)

-- a crawl with so many queues over so many buckets, before its first event
abbrev pub before_all : ℕ → ℕ → Progress
before_all queues buckets = record {
  begun = false;
  cuts = 0;
  sent = 0;
  pairs = 0;
  read = 0;
  fronts = replicate buckets 0;
  front = [];
  waiting = none_waiting queues;
  done = [];
}

abbrev pub is_in_front : Slot → Bool
is_in_front Front = true
is_in_front (Queue number) = false
is_in_front Last = false

abbrev pub has_number : List ℕ → ℕ → Bool
has_number numbers n = list_any (λ m. nat_eq m n) numbers

-- numbers without those of some outcomes
abbrev pub without : List ℕ → List (ℕ × Outcome) → List ℕ
without numbers outcomes = filter (λ n. not (has_number (map (λ d. d.0) outcomes) n)) numbers

-- the numbers of places
abbrev pub numbers_of : List Place → List ℕ
numbers_of places = map (λ place. place.number) places

-- after one more event
abbrev pub after_event : Progress → Event → List Place → Progress
after_event x (Begin suffixes) places = record x { begun = true }
after_event x (Pairs cuts judged pairs) places = record x { begun = true; cuts = cuts; sent = judged; pairs = pairs }
after_event x (Pass judged) places =
    record x {
      begun = true;
      read = judged;
      front = x.front
          ++ numbers_of (filter (λ place. is_in_front place.slot) places);
      waiting = after_pass x.waiting (numbers_of places) places;
    }
after_event x (Robots note) places = record x { begun = true }
after_event x (Settle fronts outcomes) places =
    record x { begun = true; fronts = fronts; front = without x.front outcomes; done = x.done ++ outcomes }

abbrev pub after_events : Progress → List Happened → Progress
after_events x [] = x
after_events x (h ∷ hs) = after_events (after_event x h.0 h.1) hs

-- how far a crawl with so many queues over so many buckets has come by these events
abbrev pub progress : ℕ → ℕ → List Happened → Progress
progress queues buckets events = after_events (before_all queues buckets) events

-- a number that no pass has read stands in no list
abbrev pub is_fresh : Progress → ℕ → Bool
is_fresh x n =
    not (has_number x.front n) && list_all (λ list. not (has_number list n)) x.waiting.lists && not
    (has_number (map (λ d. d.0) x.done) n)
