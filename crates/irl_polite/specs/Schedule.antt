-- What a front holds, without its machine, and what loading, asking and handing in make of it.
use Rattle.std.specs.Prelude.{ℕ, ◌+◌, max, min, List, [], Bool, true, false, bytes_eq, if◌then◌else◌, Option, Some, None}
use Rattle.std.specs.List.{fold}
use Rattle.irl_offer.specs.declared.note.Note.{Note}
use Rattle.irl_key.specs.declared.web.Work.{Work}
use Rattle.irl_key.specs.Web.{host_of}
use Rattle.irl_robots.specs.Leave.{host_state}
use Rattle.irl_robots.specs.declared.host.HostState.{HostState}
use Rattle.irl_polite.specs.declared.known.Known.{Known}

-- Moments are in milliseconds.
pub record Schedule : Type 0 where
  -- the product token for which notes are read
  pub agent : List ℕ
  -- how far apart two fetches of one host start
  pub delay : ℕ
  -- the greatest moment that was handed in
  pub moment : ℕ
  -- the items left, in the order in which they were loaded
  pub items : List Work
  -- what was last handed in of each host's robots file
  pub known : List ℕ → Option Known
  -- the first moment at which a fetch of each host may start
  pub due : List ℕ → ℕ
  -- whether a host's robots file was asked for and isn't handed in yet
  pub awaited : List ℕ → Bool

-- at first: nothing is left, known or awaited, and every host is due
abbrev pub empty_of : ℕ → List ℕ → Schedule
empty_of delay agent = record {
  agent = agent;
  delay = delay;
  moment = 0;
  items = [];
  known = λ host. None;
  due = λ host. 0;
  awaited = λ host. false;
}

-- the host of an item
abbrev pub host : Work → List ℕ
host work = host_of work.web

-- another value at one host, and the same at all others
abbrev pub changed : {A : Type 0} → (List ℕ → A) → List ℕ → A → List ℕ → A
changed values at value host = if bytes_eq host at then value else values host

-- a note, read for an agent, comes in place of what was known of its host
abbrev pub with_note : List ℕ → (List ℕ → Option Known) → Note → List ℕ → Option Known
with_note agent known note = changed known note.host
    (Some (record { state = host_state note.state agent; when = note.when }))

-- Items to fetch where none is left, and notes, of which the last one for a host counts. A note counts also for a host
-- without items. Dues stay.
abbrev pub loaded : Schedule → List Work → List Note → Schedule
loaded schedule items notes = record schedule {
  items = items;
  known = fold (with_note schedule.agent) schedule.known notes;
}

-- the moment has come
abbrev pub raised : Schedule → ℕ → Schedule
raised schedule now = record schedule { moment = max schedule.moment now }

-- the last moment there is
abbrev pub last_moment : ℕ
last_moment = 18446744073709551615

-- when the next fetch of a host may start where one starts now
abbrev pub next_due : Schedule → ℕ
next_due schedule = min (schedule.moment + schedule.delay) last_moment

-- a page of this host is fetched, and these items are left
abbrev pub fetched : Schedule → List ℕ → List Work → Schedule
fetched schedule host rest = record schedule { items = rest; due = changed schedule.due host (next_due schedule) }

-- an item is answered without a fetch, and these are left
abbrev pub refused : Schedule → List Work → Schedule
refused schedule rest = record schedule { items = rest }

-- the robots file of this host is fetched
abbrev pub asked : Schedule → List ℕ → Schedule
asked schedule host = record schedule {
  due = changed schedule.due host (next_due schedule);
  awaited = changed schedule.awaited host true;
}

-- what its robots file said at this moment is handed in
abbrev pub handed_in : Schedule → List ℕ → HostState → ℕ → Schedule
handed_in schedule host state when = record schedule {
  known = changed schedule.known host (Some (record { state = state; when = when }));
  awaited = changed schedule.awaited host false;
}
