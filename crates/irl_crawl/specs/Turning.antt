-- One turn of a crawl.
use Rattle.std.specs.Prelude.{◌≡◌, ◌≤◌, ◌+◌, ℕ, List, [], ◌∷◌, ◌++◌, drop, flat_map, length, map, Result, IfOk, OnOk, ⊤}
use Rattle.std.specs.List.{All, AllByRecursion, Contains}
use Rattle.irl_answer.specs.Outcomes.{outcome_of}
use Rattle.irl_base.specs.declared.fault.Fault.{Fault}
use Rattle.irl_core.specs.States.{url_text}
use Rattle.irl_events.specs.Events.{Event, Begin, Pairs, Pass, Robots, Settle, Happened}
use Rattle.irl_events.specs.State.{State}
use Rattle.irl_offer.specs.declared.settings.Settings.{Settings}
use Rattle.irl_fetch.specs.Handling.{IsNoted, Noted, missing}
use Rattle.irl_polite.specs.Schedule.{Schedule}
use Rattle.irl_reach.specs.Along.{notes_in, settled_in}
use Rattle.irl_reach.specs.Crawls.{Crawls, LeavesNone, Visit, found_by}
use Rattle.irl_record.specs.Taped.{Taped}
use Rattle.irl_yard.specs.Passing.{come}
use Rattle.irl_crawl.specs.Judging.{IsJudged}
use Rattle.irl_crawl.specs.Leading.{GrowsInBatches, HasGround}
use Rattle.irl_crawl.specs.Sending.{SendsAll, SendsLinks}
use Rattle.irl_crawl.specs.Workers.{AreNotedIn, Given}

-- an input with these suffixes and seeds, and no page
abbrev pub input_of : List ℕ → List (List ℕ) → Taped
input_of suffixes seeds = record { suffixes = suffixes; seeds = seeds; records = [] }

-- the events that a state has more than another
abbrev pub events_since : State → State → List Happened
events_since x y = drop (length x.events) y.events

-- an event that settles settles some URL, and at most so many
abbrev pub IsBatch : ℕ → Event → Type 0
IsBatch most (Begin suffixes) = ⊤
IsBatch most (Pairs cuts judged pairs) = ⊤
IsBatch most (Pass judged) = ⊤
IsBatch most (Robots note) = ⊤
IsBatch most (Settle fronts outcomes) = (1 ≤ length outcomes) × (length outcomes ≤ most)

abbrev pub AreBatches : ℕ → List Happened → Type 0
AreBatches most events = AllByRecursion (λ h. IsBatch most h.0) events

-- how many turns are settled by events: each settles once
abbrev pub turns_of : Event → ℕ
turns_of (Begin suffixes) = 0
turns_of (Pairs cuts judged pairs) = 0
turns_of (Pass judged) = 0
turns_of (Robots note) = 0
turns_of (Settle fronts outcomes) = 1

abbrev pub turns_in : List Happened → ℕ
turns_in [] = 0
turns_in (h ∷ events) = turns_of h.0 + turns_in events

-- what came of these visits is settled from one state to a later one
abbrev pub AreSettled : State → State → List Visit → Type 0
AreSettled x y visits = AllByRecursion (λ (visit : Visit). Contains (settled_in (events_since x y))
    (visit.number, outcome_of (url_text y.urls visit.number) visit.answer)) visits

-- Of some visits the first are settled; the others, at most so many, are to URLs that are still in front.
pub record LeavesFew (settings : Settings) (most : ℕ) (visits : List Visit) (x y : State) : Type 0 where
  pub first : List Visit
  pub behind : List Visit
  pub are : visits ≡ first ++ behind
  pub settled : AreSettled x y first
  pub few : length behind ≤ most
  pub stand : AllByRecursion (λ visit. Contains (come settings y).front visit.number) behind

-- What visits, and the notes of some events, rest on: so many of the answers may never have come.
pub record RestsOn (given : Given) (visits : List Visit) (events : List Happened) : Type 0 where
  pub noted : List Noted
  pub notes : map (λ one. one.note) noted ≡ notes_in events
  pub each : All (IsNoted given.gives) noted
  pub missing_are : given.may_miss (missing (map (λ visit. visit.answer) visits)
      + missing (flat_map (λ one. one.answers) noted))

-- And no more connections were made than there are answers that visits and notes rest on: none is asked for twice.
pub record AsksOnce (given : Given) (visits : List Visit) (events : List Happened) : Type 0 where
  pub rests : RestsOn given visits events
  pub made : given.made ≤ length visits + length (flat_map (λ one. one.answers) rests.noted)

-- Some of the front was visited, and nothing is offered but what it names; no more are visited, nor are more settled,
-- than were asked for: all that was visited, or none. One cut of each book may be early, where the turn is settled.
pub record OnlyTurns (given : Given) (agent suffixes : List ℕ) (settings : Settings) (most : ℕ) (x y : State)
    : Type 0 where
  pub visits : List Visit
  pub crawls : Crawls (input_of suffixes []) given.gives agent visits x y
  pub rests : RestsOn given visits (events_since x y)
  pub front : AllByRecursion (λ visit. Contains (come settings x).front visit.number) visits
  pub few : length visits ≤ most
  pub behind : LeavesFew settings most visits x y
  pub batch : AreBatches most (events_since x y)
  pub settled : length (settled_in (events_since x y)) ≤ most
  pub grows : GrowsInBatches settings (turns_in (events_since x y)) x y
  pub sends : SendsLinks suffixes settings x y

-- All that was loaded is settled, with what the visits found, and judged; the fronts know nothing that no event tells.
pub record TurnsWhole (count : ℕ) (agent suffixes : List ℕ) (settings : Settings) (visits : List Visit)
    (fronts : List Schedule) (x y : State) : Type 0 where
  pub leaves : LeavesNone (input_of suffixes []) visits x y
  pub count_is : count ≡ length (settled_in (events_since x y))
  pub few : length visits ≤ count
  pub judged : IsJudged settings y
  pub sent : SendsAll suffixes settings x y
  pub known : AreNotedIn agent y.events fronts

-- where the store failed, and where it didn't, by the answer: how many URLs are settled
abbrev pub MayTurn : Given → List ℕ → List ℕ → Settings → ℕ → List Schedule → State → State → Type 0
MayTurn given agent suffixes settings most fronts x y =
    AreNotedIn agent x.events fronts → OnlyTurns given agent suffixes settings most x y

pub record TurnsTo (result : Result ℕ Fault) (given : Given) (agent suffixes : List ℕ) (settings : Settings)
    (most : ℕ) (fronts : List Schedule) (x y : State) : Type 0 where
  pub only : OnlyTurns given agent suffixes settings most x y
  pub whole : IfOk result (λ count. TurnsWhole count agent suffixes settings only.visits fronts x y)
  pub asks : OnOk result (AsksOnce given only.visits (events_since x y))
  -- what the visits found was handed in
  pub ground : HasGround result suffixes settings (flat_map (found_by suffixes y.urls) only.visits) x y

abbrev pub Turns : Result ℕ Fault → Given → List ℕ → List ℕ → Settings → ℕ → List Schedule → List Schedule → State
    → State → Type 0
Turns result given agent suffixes settings most old new x y =
    AreNotedIn agent x.events old → TurnsTo result given agent suffixes settings most new x y
