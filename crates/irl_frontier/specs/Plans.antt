-- An event that is planned before it is done.
use Rattle.std.specs.Prelude.{◌≡◌, ℕ, ◌+◌, List, [], slice_set, Option, None, Some}
use Rattle.irl_offer.specs.declared.place.Place.{Place}
use Rattle.irl_events.specs.Events.{Event as Seen, Pass as SeenPass}
use Rattle.irl_events.specs.Legal.{broken}
use Rattle.irl_events.specs.Queues.{Waiting, round_ended}
use Rattle.irl_events.specs.declared.event.Event.{Event}
use Rattle.irl_events.specs.declared.event.Event.TheVariants.{Begin, Pairs, Pass, Robots, Settle}
use Rattle.irl_fate.specs.Plans.{IsPlanOf as IsEventOf, after_plan as after_event_plan}
use Rattle.irl_beast.specs.Plans.{Planned, IsPlanOf as IsPassOf, joined}
use Rattle.irl_beast.specs.declared.item.Item.{Item}
use Rattle.irl_frontier.specs.Frontier.{Frontier, IsFrontier, after_other, after_pass, places_for}
use Rattle.irl_frontier.specs.Tallies.{HasTally}
use Rattle.irl_frontier.specs.declared.plan.Plan.{Plan}

abbrev pub IsNoPass : Event → Type 0
IsNoPass (Begin suffixes) = Unit {0}
IsNoPass (Pairs cuts judged pairs) = Unit {0}
IsNoPass (Pass judged) = ⊥
IsNoPass (Robots note) = Unit {0}
IsNoPass (Settle fronts done) = Unit {0}

-- the places that a plan gives: none where it is of no pass
abbrev pub places_of : Option Planned → List Place
places_of None = []
places_of (Some pass) = pass.places

-- what waits after it
abbrev pub waits_after : Waiting Item → Option Planned → Waiting Item
waits_after waiting None = waiting
waits_after waiting (Some pass) =
    round_ended (joined (slice_set waiting.lists waiting.passes []) pass.more) waiting.queues (waiting.passes + 1)

-- how far it brings a crawl
abbrev pub after_plan : Frontier → Plan → Frontier
after_plan x plan =
    record x { progress = after_event_plan x.progress plan.event; waiting = waits_after x.waiting plan.pass }

-- a pass, if the plan is of one, is one of what waits
abbrev pub MayPass : Waiting Item → Option Planned → Type 0
MayPass waiting None = Unit {0}
MayPass waiting (Some pass) = IsPassOf waiting pass

-- it is a plan of a crawl that has come so far: it stays one while the crawl stays there
pub record IsPlanOf (x : Frontier) (plan : Plan) : Type 0 where
  pub event : IsEventOf x.progress plan.event
  pub pass : MayPass x.waiting plan.pass
  pub kept : IsFrontier (after_plan x plan)
  pub tally : HasTally plan.tally (after_plan x plan).progress.done

-- a plan of an event that is no pass
pub record Plans (x : Frontier) (event : Seen) (plan : Plan) : Type 0 where
  pub after : after_plan x plan ≡ after_other x event
  -- the event breaks no rule
  pub legal : broken x.progress event [] ≡ None
  pub places : places_of plan.pass ≡ []

-- a plan of a pass that reads these fresh items, where the pairs that were told lead to these domains
pub record PlansPass (x : Frontier) (judged : ℕ) (fresh : List Item) (plan : Plan) (adds : List (List ℕ)) : Type 0 where
  pub after : after_plan x plan ≡ after_pass adds x judged fresh
  -- the pass breaks no rule
  pub legal : broken x.progress (SeenPass judged) (places_for adds x fresh) ≡ None
  pub places : places_of plan.pass ≡ places_for adds x fresh
