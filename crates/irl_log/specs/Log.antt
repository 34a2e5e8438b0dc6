-- A crawl's log: a journal whose records are the crawl's events.
use Rattle.std.specs.Prelude.{ℕ, ◌+◌, List, [], ◌∷◌, length}
use Rattle.std.specs.List.{AllByRecursion}
use Rattle.irl_events.specs.Events.{Event}
use Rattle.irl_disk.specs.Disk.{Files}
use Rattle.irl_journal.specs.Appending.{Tail, Ends, IsOpen}
use Rattle.irl_journal.specs.Format.{StandsFor, records_text}
use Rattle.irl_log.specs.Form.{IsLogged}
use Rattle.irl_log.specs.Spelling.{log_records, records_of}

-- an open log as contracts see it: its journal, and over how many buckets its crawl goes
pub record OpenLog : Type 0 where
  pub journal : Tail
  pub buckets : ℕ

-- a log over so many buckets may have these events
abbrev pub AreLogged : ℕ → List Event → Type 0
AreLogged buckets events = AllByRecursion (IsLogged buckets) events

-- a file has just these events
pub record HasEvents (buckets : ℕ) (file : List ℕ) (events : List Event) : Type 0 where
  pub each : AreLogged buckets events
  pub records : StandsFor file (log_records events)

-- a file has just these events, and the closed gate behind them stands where the log ends
pub record EndsLog (log : OpenLog) (file : List ℕ) (events : List Event) : Type 0 where
  pub each : AreLogged log.buckets events
  pub ends : Ends log.journal.end file (log_records events)

-- each joint image that a stop now may leave has these events
pub record HoldsLog (images : Files → Type 0) (log : OpenLog) (events : List Event) : Type 0 where
  pub each : AreLogged log.buckets events
  pub records : IsOpen images log.journal (log_records events)

-- events with the places of the gates of their first records, the first of which is here
abbrev pub placed_events : ℕ → List Event → List (ℕ × Event)
placed_events at [] = []
placed_events at (event ∷ events) =
    (at, event) ∷ placed_events (at + length (records_text (records_of event))) events
