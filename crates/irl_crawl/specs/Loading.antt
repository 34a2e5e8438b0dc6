-- Handing the pages that are next to the workers, with the notes on their hosts.
use Rattle.std.specs.Prelude.{◌≡◌, ℕ, List, map, Result, OnOk}
use Rattle.std.specs.List.Sorted.{IsPermutation}
use Rattle.irl_base.specs.declared.fault.Fault.{Fault}
use Rattle.irl_events.specs.State.{State}
use Rattle.irl_fate.specs.Fronts.{AreFirst}
use Rattle.irl_offer.specs.declared.settings.Settings.{Settings}
use Rattle.irl_polite.specs.Schedule.{Schedule}
use Rattle.irl_yard.specs.Passing.{AreWorks}
use Rattle.irl_crawl.specs.Leading.{NeedsNoGround}
use Rattle.irl_crawl.specs.Workers.{AreNotedIn, loaded}

-- the workers have the first so many numbers of a front, in some order
pub record AreNext (front : List ℕ) (most : ℕ) (fronts : List Schedule) : Type 0 where
  pub numbers : List ℕ
  pub first : AreFirst front most numbers
  pub each : IsPermutation (map (λ work. work.number) (loaded fronts)) numbers

-- The state stays. On Ok the workers have its URLs at their texts, and know nothing that none of its events tells,
-- where they didn't before.
pub record Loads (result : Result Unit Fault) (settings : Settings) (agent : List ℕ) (old new : List Schedule)
    (x y : State) : Type 0 where
  pub same : y ≡ x
  pub texts : OnOk result (AreWorks (loaded new) x.urls)
  pub known : OnOk result (AreNotedIn agent x.events old → AreNotedIn agent x.events new)
  pub ground : NeedsNoGround result
