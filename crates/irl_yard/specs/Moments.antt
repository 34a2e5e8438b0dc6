-- An open store at one moment of the schedule.
use Rattle.irl_disk.specs.declared.store.Store.{Ghosts}
use Rattle.irl_schedule.specs.Feeding.{Moment, Waits, moment}
use Rattle.irl_yard.specs.declared.yard.Yard.{Yard}

-- its bay of URLs, and what waits in front of each bucket
abbrev pub moment_at : {S : Type 0} {tells : Ghosts S} → Yard S tells → Waits → Moment
moment_at {S} {tells} yard waits = moment (tells.told yard.store) yard.parts.urls waits
