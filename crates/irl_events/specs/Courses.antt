-- The plain lists of a crawl, as the definitions have them.
use Rattle.std.specs.Prelude.{◌≡◌, ℕ, ◌≤◌, List, map, vec_len}
use Rattle.irl_base.specs.Lists.{items_of}
use Rattle.irl_events.specs.declared.plain.Course.{Course}
use Rattle.irl_events.specs.declared.plain.Happening.{Happening}
use Rattle.irl_events.specs.declared.plain.Postponed.{Postponed}
use Rattle.irl_events.specs.Events.{Happened, Progress}
use Rattle.irl_events.specs.Queues.{Waiting}
use Rattle.irl_events.specs.Seen.{seen}

-- events with their places
abbrev pub happened : List Happening → List Happened
happened events = map (λ h. (seen h.event, h.places)) events

-- what waits
abbrev pub waiting_of : Postponed → Waiting ℕ
waiting_of waiting = record { lists = items_of waiting.lists.items; queues = waiting.queues; passes = waiting.passes }

-- how far a crawl has come
abbrev pub progress_of : Course → Progress
progress_of course = record {
  begun = course.begun;
  cuts = course.cuts;
  sent = course.sent;
  pairs = course.pairs;
  read = course.read;
  fronts = course.fronts.items;
  front = course.front.items;
  waiting = waiting_of course.waiting;
  done = course.done.items;
}

-- there are 64 queues and the last list, and no more queues in use, nor passes of a round
pub record HasSizes (waiting : Postponed) : Type 0 where
  pub lists : vec_len waiting.lists ≡ 65
  pub queues : waiting.queues ≤ 64
  pub passes : waiting.passes ≤ 64
