-- Judging what is unjudged, and sending the pairs of what was judged.
use Rattle.std.specs.Prelude.{◌≡◌, ℕ, List, [], ◌++◌, Result, OnOk, ⊤}
use Rattle.std.specs.List.{AllByRecursion}
use Rattle.irl_base.specs.declared.fault.Fault.{Fault}
use Rattle.irl_events.specs.Events.{Event, Begin, Pairs, Pass, Robots, Settle, Happened}
use Rattle.irl_events.specs.State.{State}
use Rattle.irl_model.specs.Book.{judged_cut, lengths_of}
use Rattle.irl_offer.specs.declared.settings.Settings.{Settings}
use Rattle.irl_yard.specs.Sending.{AreSentAlready}
use Rattle.irl_crawl.specs.Leading.{GrowsInBatches, HasGround}
use Rattle.irl_crawl.specs.Sending.{SendsAll, SendsLinks}

-- an event that tells that pairs are sent
abbrev pub IsOfPairs : Event → Type 0
IsOfPairs (Begin suffixes) = ⊥
IsOfPairs (Pairs cuts judged pairs) = ⊤
IsOfPairs (Pass judged) = ⊥
IsOfPairs (Robots note) = ⊥
IsOfPairs (Settle fronts outcomes) = ⊥

-- No offer of URLs is added, and no event but that pairs are sent, some of the new links in order; one cut of each book
-- may be early.
pub record OnlyJudges (suffixes : List ℕ) (settings : Settings) (x y : State) : Type 0 where
  pub grows : GrowsInBatches settings 1 x y
  pub lists : y.urls.lists ≡ x.urls.lists
  pub more : List Happened
  pub events : y.events ≡ x.events ++ more
  pub pairs : AllByRecursion (λ h. IsOfPairs h.0) more
  pub sends : SendsLinks suffixes settings x y

-- all offers are judged, in both books, and the pairs of all cuts are sent
pub record IsJudged (settings : Settings) (state : State) : Type 0 where
  pub urls : judged_cut state.urls ≡ lengths_of state.urls
  pub sent : AreSentAlready settings state

pub record Judges (result : Result Unit Fault) (suffixes : List ℕ) (settings : Settings) (x y : State) : Type 0 where
  pub only : OnlyJudges suffixes settings x y
  pub all : OnOk result (IsJudged settings y × SendsAll suffixes settings x y)
  pub ground : HasGround result suffixes settings [] x y
