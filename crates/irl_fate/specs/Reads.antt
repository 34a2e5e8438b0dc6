-- Which numbers the passes of a crawl have read.
use Rattle.std.specs.Prelude.{ℕ, ◌≤◌, Bool, false, List}
use Rattle.std.specs.List.{list_any}
use Rattle.irl_offer.specs.declared.place.Place.{Place}
use Rattle.irl_events.specs.Events.{Event, Begin, Pairs, Pass, Robots, Settle, Happened, has_number, numbers_of}
use Rattle.irl_events.specs.Legal.{AreLegal}

-- whether an event with its places is a pass that reads a number
abbrev pub reads : Event → List Place → ℕ → Bool
reads (Begin suffixes) places n = false
reads (Pairs cuts judged pairs) places n = false
reads (Pass judged) places n = has_number (numbers_of places) n
reads (Robots note) places n = false
reads (Settle fronts outcomes) places n = false

-- whether a pass among events has read it
abbrev pub was_read : List Happened → ℕ → Bool
was_read events n = list_any (λ h. reads h.0 h.1 n) events

-- the events of a crawl with so many queues over so many buckets, none of which breaks a rule
abbrev pub IsCrawl : ℕ → ℕ → List Happened → Type 0
IsCrawl queues buckets events = (1 ≤ queues) × (queues ≤ 64) × AreLegal queues buckets events
