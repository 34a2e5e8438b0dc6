-- A pass in two steps.
use Rattle.std.specs.Prelude.{ℕ, ◌+◌, List, [], ◌++◌, slice_set, true}
use Rattle.std.specs.List.{filter}
use Rattle.irl_offer.specs.declared.place.Place.{Place}
use Rattle.irl_events.specs.Queues.{delivered, round_ended}
use Rattle.irl_events.specs.Events.{Progress, numbers_of, is_in_front}

-- after a pass has read, and before the end of the round is looked at
abbrev pub read_by : Progress → ℕ → List Place → Progress
read_by x judged places =
    record x {
      begun = true;
      read = judged;
      front = x.front
          ++ numbers_of (filter (λ place. is_in_front place.slot) places);
      waiting = record x.waiting {
        lists = delivered (slice_set x.waiting.lists x.waiting.passes [])
            (numbers_of places) places;
      };
    }

-- and after that
abbrev pub ended : Progress → Progress
ended x = record x { waiting = round_ended x.waiting.lists x.waiting.queues (x.waiting.passes + 1) }
