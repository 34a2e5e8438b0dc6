-- Offers that are handed in to an open store, over its states.
use Rattle.std.specs.Prelude.{◌≡◌, ◌++◌, ℕ, List, map, Result, OnOk}
use Rattle.std.specs.List.{AllByRecursion}
use Rattle.std.specs.List.Sorted.{IsPermutation}
use Rattle.irl_answer.specs.Found.{offer_from}
use Rattle.irl_base.specs.Among.{IsAmong}
use Rattle.irl_base.specs.declared.fault.Fault.{Fault}
use Rattle.irl_events.specs.Events.{Happened}
use Rattle.irl_events.specs.State.{State}
use Rattle.irl_offer.specs.Offering.{Entered}
use Rattle.irl_offer.specs.Tuple.{Tuple}
use Rattle.irl_offer.specs.declared.settings.Settings.{Settings}
use Rattle.irl_reach.specs.Crawls.{added_to}
use Rattle.irl_yard.specs.Settling.{StandsAt}
use Rattle.irl_yard.specs.Standing.{with_urls}
use Rattle.irl_crawl.specs.Judging.{IsJudged, IsOfPairs}
use Rattle.irl_crawl.specs.Leading.{GrowsInBatches, HasGround}
use Rattle.irl_crawl.specs.Sending.{SendsAll, SendsLinks}

abbrev pub offers_in : List Entered → List Tuple
offers_in entries = map (λ one. one.offer) entries

-- Only URLs are offered: what the lists of URLs have more is, counted with repeats, among what was handed in. No cut is
-- made early.
pub record OnlyOffers (settings : Settings) (entries : List Entered) (x y : State) : Type 0 where
  pub others : y ≡ with_urls y.urls x
  pub grows : GrowsInBatches settings 0 x y
  pub among : IsAmong (added_to x.urls.lists y.urls.lists) (offers_in entries)

-- it is just that, and each offer stands where its receipt says
pub record HasOffers (entries : List Entered) (x y : State) : Type 0 where
  pub all : IsPermutation (added_to x.urls.lists y.urls.lists) (offers_in entries)
  pub stand : AllByRecursion (λ one. StandsAt y.urls one.receipt one.offer) entries

-- by the answer
pub record OffersSome {A : Type 0} (result : Result A Fault) (suffixes : List ℕ) (settings : Settings)
    (entries : List Entered)
    (x y : State) : Type 0 where
  pub only : OnlyOffers settings entries x y
  pub all : OnOk result (HasOffers entries x y)
  pub ground : HasGround result suffixes settings (offers_in entries) x y

-- ---- seeds
-- No offer of URLs is added but those of seeds, and no event but that pairs are sent, some of the new links in order;
-- one cut of each book may be early.
pub record OnlySeeds (suffixes : List ℕ) (settings : Settings) (seeds : List (List ℕ)) (x y : State) : Type 0 where
  pub grows : GrowsInBatches settings 1 x y
  pub among : IsAmong (added_to x.urls.lists y.urls.lists) (map (offer_from 0) seeds)
  pub more : List Happened
  pub events : y.events ≡ x.events ++ more
  pub pairs : AllByRecursion (λ h. IsOfPairs h.0) more
  pub sends : SendsLinks suffixes settings x y

-- all are, and all is judged, by the answer
pub record Seeds (result : Result Unit Fault) (suffixes : List ℕ) (settings : Settings) (seeds : List (List ℕ))
    (x y : State) : Type 0 where
  pub only : OnlySeeds suffixes settings seeds x y
  pub all : OnOk result (IsPermutation (added_to x.urls.lists y.urls.lists) (map (offer_from 0) seeds)
      × IsJudged settings y × SendsAll suffixes settings x y)
  pub ground : HasGround result suffixes settings (map (offer_from 0) seeds) x y
