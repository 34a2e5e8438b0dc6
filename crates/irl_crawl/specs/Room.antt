-- How many offers a crawl hands in at most, by what is known of it before, and which stores have room for so many.
use Rattle.std.specs.Prelude.{◌+◌, ◌-◌, ◌*◌, ◌<◌, ◌≤◌, ℕ, List, length, sum}
use Rattle.irl_answer.specs.Found.{most_links}
use Rattle.irl_events.specs.State.{State}
use Rattle.irl_model.specs.Book.{lengths_of}
use Rattle.irl_offer.specs.declared.settings.Settings.{Settings}
use Rattle.irl_schedule.specs.Feeding.{list_at}
use Rattle.irl_yard.specs.Passing.{come}

-- the seeds, and of so many pages as many links as are offered of one
abbrev pub most_handed : ℕ → List (List ℕ) → ℕ
most_handed pages seeds = length seeds + pages * most_links

-- of how many offers of URLs no event says that their pairs are sent
abbrev pub unsent : Settings → State → ℕ
unsent settings x = sum (lengths_of x.urls) - (come settings x).sent

-- Each list of a state has room for so many offers, whichever buckets they are of:
pub record HasRoomFor (most : ℕ) (settings : Settings) (x : State) : Type 0 where
  -- one of URLs for all of them,
  pub urls : (b : ℕ) → b < settings.buckets → length (list_at x.urls b) + most ≤ settings.cap
  -- and one of pairs for a link of each, and of each whose pairs aren't sent
  pub pairs : (b : ℕ) → b < settings.buckets → length (list_at x.pairs b) + (unsent settings x + most) ≤ settings.cap
