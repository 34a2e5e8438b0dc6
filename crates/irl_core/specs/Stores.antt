-- A store as a core: a crawl's beginning, sent pairs and robots files are no steps, and change neither a URL nor a
-- fate.
use Rattle.std.specs.Prelude.{◌≡◌, ℕ, ◌+◌, ◌≤◌, nat_le, nat_lt, ◌&&◌, Bool, true, false, List, [], ◌∷◌, ◌++◌, length, map, replicate, ⊤}
use Rattle.std.specs.List.{filter}
use Rattle.irl_offer.specs.Settings.{AreValid}
use Rattle.irl_offer.specs.Tuple.{Tuple}
use Rattle.irl_offer.specs.declared.place.Place.{Place}
use Rattle.irl_offer.specs.declared.settings.Settings.{Settings}
use Rattle.irl_model.specs.Book.{Book, IsBook, IsBelow, gone, judged, lengths_of, uniques}
use Rattle.irl_events.specs.Events.{Event, Begin, Pairs, Pass, Robots, Settle, Happened, Progress, numbers_of, after_event, before_all}
use Rattle.irl_events.specs.Legal.{AreLegal}
use Rattle.irl_base.specs.Lists.{list_at}
use Rattle.irl_core.specs.Steps.{CoreState}

-- whether an event is a step
abbrev pub is_step : Event → Bool
is_step (Begin suffixes) = false
is_step (Pairs cuts judged pairs) = false
is_step (Pass judged) = true
is_step (Robots note) = false
is_step (Settle fronts outcomes) = true

-- the steps among the events of a store
abbrev pub steps_among : List Happened → List Happened
steps_among events = filter (λ h. is_step h.0) events

-- a store with these settings, URLs and events, before whose lists these arrays wait, and of which so much is
-- acknowledged
abbrev pub core_of_store : Settings → List (List Tuple) → Book → List Happened → List ℕ → CoreState
core_of_store settings arrays urls events acknowledged =
    record {
      settings = settings;
      arrays = arrays;
      urls = urls;
      events = steps_among events;
      acknowledged = acknowledged;
    }

-- a store that was opened just now: nothing waits in memory, and all that the lists hold is acknowledged
abbrev pub opened_core : Settings → Book → List Happened → CoreState
opened_core settings urls events = core_of_store settings (replicate settings.buckets []) urls events (lengths_of urls)

-- two crawls have come equally far, but for what was told of a beginning and of pairs
pub record AreEquallyFar (x y : Progress) : Type 0 where
  pub read : x.read ≡ y.read
  pub fronts : x.fronts ≡ y.fronts
  pub front : x.front ≡ y.front
  pub waiting : x.waiting ≡ y.waiting
  pub done : x.done ≡ y.done

-- what a store's URLs say of an event, by how far the crawl had come before it: no more offers are sent than are
-- judged; a pass reads the next queue, and then the URLs that no pass has read and that are below its number; and no
-- front passes its list
abbrev pub IsOfUrls : Book → Progress → Event → List Place → Type 0
IsOfUrls urls x (Begin suffixes) places = ⊤
IsOfUrls urls x (Pairs cuts sent pairs) places = sent ≤ gone urls + length (judged urls)
IsOfUrls urls x (Pass sent) places =
    numbers_of places ≡ list_at x.waiting.lists x.waiting.passes
    ++ filter (λ n. nat_le x.read n && nat_lt n sent) (map (λ p. p.0) (uniques urls))
IsOfUrls urls x (Robots note) places = ⊤
IsOfUrls urls x (Settle fronts outcomes) places = IsBelow fronts (lengths_of urls)

abbrev pub AreOfUrls : Book → Progress → List Happened → Type 0
AreOfUrls urls x [] = ⊤
AreOfUrls urls x (h ∷ hs) = IsOfUrls urls x h.0 h.1 × AreOfUrls urls (after_event x h.0 h.1) hs

-- a store with these settings, URLs and events that keeps what an opened core has to
pub record IsStored (settings : Settings) (urls : Book) (events : List Happened) : Type 0 where
  pub valid : AreValid settings
  pub book : IsBook urls
  pub buckets : urls.buckets ≡ settings.buckets
  pub rule : urls.rule ≡ settings.rule
  -- the events keep the rules by themselves, and what the URLs say of them
  pub rules : AreLegal settings.queues settings.buckets events
  pub each : AreOfUrls urls (before_all settings.queues settings.buckets) events
