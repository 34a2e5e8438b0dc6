-- What an open crawl keeps in memory of its URLs.
use Rattle.std.specs.Prelude.{◌≡◌, ℕ, ◌+◌, List, [], ◌∷◌, length, Option, None, Some}
use Rattle.std.specs.Borrow.{Bor}
use Rattle.std.specs.FinMap.{empty, insert}
use Rattle.irl_offer.specs.Settings.{AreValid}
use Rattle.irl_offer.specs.declared.place.Place.{Place}
use Rattle.irl_offer.specs.declared.settings.Settings.{Settings}
use Rattle.irl_events.specs.Events.{Event, Pass, Progress, after_event, before_all}
use Rattle.irl_events.specs.Queues.{Waiting, none_waiting}
use Rattle.irl_star.specs.Budgets.{budget}
use Rattle.irl_star.specs.Degrees.{Counts, DegreeMap, degree_in}
use Rattle.irl_beast.specs.Passes.{numbered, passed, read_by}
use Rattle.irl_beast.specs.Places.{place}
use Rattle.irl_beast.specs.declared.item.Item.{Item}
use Rattle.irl_frontier.specs.Tallies.{HasTally}
use Rattle.irl_frontier.specs.declared.frontier.Frontier.TheInside.{Inside}

pub record Frontier : Type 0 where
  pub settings : Settings
  -- how far the crawl has come
  pub progress : Progress
  -- what waits, each URL with its domain
  pub waiting : Waiting Item
  -- how many domains link to each, by the judged pairs that were told
  pub degrees : DegreeMap
  -- how many judged pairs these are
  pub told : ℕ

-- what each frontier keeps
pub record IsFrontier (x : Frontier) : Type 0 where
  pub valid : AreValid x.settings
  -- the same URLs wait in the same lists, by their numbers and as items
  pub waiting : x.progress.waiting ≡ numbered x.waiting
  -- there are 64 queues and the last list
  pub lists : length x.waiting.lists ≡ 65
  -- and a front of each bucket
  pub fronts : length x.progress.fronts ≡ x.settings.buckets
  -- the degrees are those of some domains, told in some order
  pub degrees : (adds : List (List ℕ)) × Counts x.degrees adds

-- before the first event
abbrev pub new_frontier : Settings → Frontier
new_frontier settings = record {
  settings = settings;
  progress = before_all settings.queues settings.buckets;
  waiting = none_waiting settings.queues;
  degrees = empty;
  told = 0;
}

-- the domain that a pair leads to, where it was judged unique
abbrev pub domain_of : Option (Bor (List ℕ)) → List (List ℕ)
domain_of None = []
domain_of (Some linked) = linked.now ∷ []

-- after one more judged pair was told
abbrev pub one_told : Frontier → Option (Bor (List ℕ)) → Frontier
one_told x None = record x { told = x.told + 1 }
one_told x (Some linked) =
    record x { degrees = insert x.degrees linked.now (degree_in x.degrees linked.now + 1); told = x.told + 1 }

-- the places that a pass gives which reads these fresh items, where the pairs that were told lead to these domains
abbrev pub places_for : List (List ℕ) → Frontier → List Item → List Place
places_for adds x fresh = place x.waiting.passes x.waiting.queues (budget x.settings adds) (read_by x.waiting fresh)

-- after such a pass
abbrev pub after_pass : List (List ℕ) → Frontier → ℕ → List Item → Frontier
after_pass adds x judged fresh =
    record x {
      progress = after_event x.progress (Pass judged) (places_for adds x fresh);
      waiting = passed (budget x.settings adds) x.waiting fresh;
    }

-- after an event that is no pass
abbrev pub after_other : Frontier → Event → Frontier
after_other x event = record x { progress = after_event x.progress event [] }

-- what the fields of `Frontier` show
abbrev pub shown : Inside → Frontier
shown a = record {
  settings = a.settings;
  progress = a.fates;
  waiting = a.beast;
  degrees = a.degrees;
  told = a.told;
}

pub record IsKept (a : Inside) : Type 0 where
  pub frontier : IsFrontier (shown a)
  pub tally : HasTally a.tally a.fates.done
