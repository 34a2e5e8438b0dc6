-- A crawl over an open store.
use Rattle.std.specs.Prelude.{◌≡◌, ◌⊎◌, ◌<◌, ◌≤◌, ◌+◌, ℕ, List, ◌++◌, flat_map, length, map, Result, Ok, Err}
use Rattle.irl_base.specs.declared.fault.Fault.{Fault as FaultValue}
use Rattle.std.specs.List.{AllByRecursion}
use Rattle.irl_answer.specs.Found.{offer_from}
use Rattle.irl_base.specs.Limits.{max_text}
use Rattle.irl_crawl.specs.declared.plan.Plan.{Plan}
use Rattle.irl_crawl.specs.declared.plan.Ended.{Ended}
use Rattle.irl_crawl.specs.declared.plan.Ended.TheVariants.{Done, Limit, Fault}
use Rattle.irl_events.specs.State.{State}
use Rattle.irl_fate.specs.Counting.{count_fate, is_fresh, is_last, is_queued}
use Rattle.irl_fate.specs.Kept.{is_front}
use Rattle.irl_ledger.specs.Settling.{max_settled}
use Rattle.irl_offer.specs.declared.settings.Settings.{Settings}
use Rattle.irl_reach.specs.Along.{settled_in}
use Rattle.irl_reach.specs.Crawls.{Crawls, LeavesNone, Visit, found_by, numbers_in}
use Rattle.irl_yard.specs.Passing.{come}
use Rattle.irl_crawl.specs.Judging.{IsJudged}
use Rattle.irl_crawl.specs.Leading.{GrowsInBatches, HasGround}
use Rattle.irl_crawl.specs.Sending.{SendsAll, SendsLinks}
use Rattle.irl_crawl.specs.Turning.{AreBatches, AsksOnce, LeavesFew, RestsOn, events_since, input_of, turns_in}
use Rattle.irl_crawl.specs.Workers.{Given}

-- no unique URL is fresh, in front, in a queue or in the last list
pub record NoneWaits (settings : Settings) (state : State) : Type 0 where
  pub fresh : count_fate is_fresh (come settings state) (numbers_in state.urls) ≡ 0
  pub front : count_fate is_front (come settings state) (numbers_in state.urls) ≡ 0
  pub queued : count_fate is_queued (come settings state) (numbers_in state.urls) ≡ 0
  pub last : count_fate is_last (come settings state) (numbers_in state.urls) ≡ 0

-- the answer of a crawl as a result
abbrev pub result_of : Ended → Result Unit FaultValue
result_of Done = Ok tt
result_of Limit = Ok tt
result_of (Fault fault) = Err fault

-- Some URLs were visited, and nothing is offered but the seeds and what the visits name; no more are visited, nor are
-- more settled, than the plan says, in all and in one turn, and what came of each visit is settled, but for one turn's
-- at most. Merges come in batches: in each book one cut for each turn that is settled may be early, and so many others.
pub record OnlyCrawls (given : Given) (agent suffixes : List ℕ) (seeds : List (List ℕ)) (settings : Settings)
    (spare pages batch : ℕ) (x y : State) : Type 0 where
  pub visits : List Visit
  pub crawls : Crawls (input_of suffixes seeds) given.gives agent visits x y
  pub rests : RestsOn given visits (events_since x y)
  pub few : length visits ≤ pages
  pub behind : LeavesFew settings batch visits x y
  pub batches : AreBatches batch (events_since x y)
  pub pages_are : length (settled_in (events_since x y)) ≤ pages
  pub grows : GrowsInBatches settings (spare + turns_in (events_since x y)) x y
  pub sends : SendsLinks suffixes settings x y

-- What came of each visit is settled, all is judged, and the pairs of all links are sent.
pub record CrawlsWhole (suffixes : List ℕ) (seeds : List (List ℕ)) (settings : Settings) (visits : List Visit)
    (x y : State) : Type 0 where
  pub leaves : LeavesNone (input_of suffixes seeds) visits x y
  pub judged : IsJudged settings y
  pub sent : SendsAll suffixes settings x y

-- by the answer
pub record CrawlsTo (ended : Ended) (given : Given) (agent suffixes : List ℕ) (seeds : List (List ℕ))
    (settings : Settings) (spare pages batch : ℕ) (x y : State) : Type 0 where
  pub only : OnlyCrawls given agent suffixes seeds settings spare pages batch x y
  pub done : ended ≡ Done → CrawlsWhole suffixes seeds settings only.visits x y × NoneWaits settings y
  pub limit : ended ≡ Limit → CrawlsWhole suffixes seeds settings only.visits x y
      × (length (settled_in (events_since x y)) ≡ pages) × (NoneWaits settings y → ⊥)
  -- at Done and at Limit nothing was asked for twice
  pub asks : (ended ≡ Done) ⊎ (ended ≡ Limit) → AsksOnce given only.visits (events_since x y)
  -- the seeds were handed in, and what the visits found
  pub ground : HasGround (result_of ended) suffixes settings
      (map (offer_from 0) seeds ++ flat_map (found_by suffixes y.urls) only.visits) x y

-- ---- what is asked
-- the numbers of a plan are in their ranges, and its seeds are short
pub record IsPlan (plan : Plan) : Type 0 where
  pub pages : 1 ≤ plan.pages
  pub batch : (1 ≤ plan.batch) × (plan.batch ≤ max_settled)
  pub delay : plan.delay < 86400000
  pub seeds : AllByRecursion (λ text. length text ≤ max_text) plan.seeds.items
