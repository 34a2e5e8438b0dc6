-- A pass of a crawl, a step, which is a pass or a turn, and steps one behind the other.
use Rattle.std.specs.Prelude.{◌≡◌, ℕ, List, [], Result, OnOk, OnErr}
use Rattle.irl_base.specs.declared.fault.Fault.{Fault}
use Rattle.irl_crawl.specs.declared.plan.Ended.{Ended}
use Rattle.irl_events.specs.State.{State}
use Rattle.irl_offer.specs.declared.settings.Settings.{Settings}
use Rattle.irl_polite.specs.Schedule.{Schedule}
use Rattle.irl_yard.specs.Passing.{with_pass}
use Rattle.irl_crawl.specs.Crawling.{CrawlsTo, OnlyCrawls}
use Rattle.irl_crawl.specs.Judging.{IsJudged}
use Rattle.irl_crawl.specs.Leading.{NeedsNoGround}
use Rattle.irl_crawl.specs.Turning.{Turns}
use Rattle.irl_crawl.specs.Workers.{Given}

-- the state after the pass, or refused the state itself
pub record Passes {A : Type 0} (result : Result A Fault) (settings : Settings) (x y : State) : Type 0 where
  pub done : OnOk result (y ≡ with_pass settings x)
  pub kept : OnErr result (y ≡ x)
  pub ground : NeedsNoGround result

-- a turn, of a state in which all is judged: a pass is one that visits nothing
abbrev pub Steps : Result ℕ Fault → Given → List ℕ → List ℕ → Settings → ℕ → List Schedule → List Schedule
    → State → State → Type 0
Steps result given agent suffixes settings most old new x y =
    IsJudged settings x → Turns result given agent suffixes settings most old new x y

-- such steps, where the store failed on the way, and where it didn't, by the answer
abbrev pub MayRun : Given → List ℕ → List ℕ → Settings → ℕ → ℕ → State → State → Type 0
MayRun given agent suffixes settings pages batch x y =
    IsJudged settings x → OnlyCrawls given agent suffixes [] settings 0 pages batch x y

abbrev pub Runs : Ended → Given → List ℕ → List ℕ → Settings → ℕ → ℕ → State → State → Type 0
Runs ended given agent suffixes settings pages batch x y =
    IsJudged settings x → CrawlsTo ended given agent suffixes [] settings 0 pages batch x y
