-- Events as the definitions have them.
use Rattle.std.specs.Prelude.{◌≡◌, ℕ, length}
use Rattle.irl_events.specs.Events.{Event as Seen, Begin as SeenBegin, Pairs as SeenPairs, Pass as SeenPass, Robots as SeenRobots, Settle as SeenSettle}
use Rattle.irl_events.specs.declared.event.Event.{Event}
use Rattle.irl_events.specs.declared.event.Event.TheVariants.{Begin, Pairs, Pass, Robots, Settle}

-- an event of the program, as a definition's
abbrev pub seen : Event → Seen
seen (Begin suffixes) = SeenBegin suffixes
seen (Pairs cuts judged pairs) = SeenPairs cuts judged pairs
seen (Pass judged) = SeenPass judged
seen (Robots note) = SeenRobots note
seen (Settle fronts done) = SeenSettle fronts done

-- what a Settle has to bring: one front for each bucket
abbrev pub HasFronts : ℕ → Event → Type 0
HasFronts buckets (Begin suffixes) = Unit {0}
HasFronts buckets (Pairs cuts judged pairs) = Unit {0}
HasFronts buckets (Pass judged) = Unit {0}
HasFronts buckets (Robots note) = Unit {0}
HasFronts buckets (Settle fronts done) = length fronts ≡ buckets
