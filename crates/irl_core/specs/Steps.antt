-- The core of a store: what calls and stops make of its arrays, of its book of URLs, of a crawl's passes and settles,
-- and of what is acknowledged, one step at a time and without a disk.
use Rattle.std.specs.Prelude.{ℕ, ◌+◌, ◌-◌, nat_eq, nat_le, nat_lt, Bool, true, ◌&&◌, if◌then◌else◌, List, [], ◌∷◌, ◌++◌, map, length, filter, replicate, slice_index, slice_index_or, slice_set, Option, is_none}
use Rattle.std.specs.Cmp.Lexicographic.{pointwise}
use Rattle.irl_offer.specs.Buckets.{bucket_of}
use Rattle.irl_offer.specs.Tuple.{Tuple}
use Rattle.irl_offer.specs.declared.outcome.Outcome.{Outcome}
use Rattle.irl_offer.specs.declared.place.Place.{Place}
use Rattle.irl_offer.specs.declared.settings.Settings.{Settings}
use Rattle.irl_model.specs.Book.{Book, blank_book, lengths_of, judged_cut, gone, judged, uniques, flushed, flushed_lists, merged}
use Rattle.irl_events.specs.Events.{Event, Pass as PassEvent, Settle as SettleEvent, Happened, Progress, numbers_of, progress}
use Rattle.irl_events.specs.Legal.{broken, one_rose}
use Rattle.irl_core.specs.declared.step.Step.{Step}
use Rattle.irl_core.specs.declared.step.Step.TheVariants.{Offer, Flush, Merge, Stop, FlushStop, MergeStop, Pass, Settle, SettleStop}
use Rattle.irl_core.specs.declared.step.Reply.{Reply}
use Rattle.irl_core.specs.declared.step.Reply.TheVariants.{Receipt, Taken, Cut, Stopped, Refused}

pub record CoreState : Type 0 where
  pub settings : Settings
  -- the offers of each bucket that wait in memory, in the order in which they came
  pub arrays : List (List Tuple)
  -- the book of URLs
  pub urls : Book
  -- the passes and the settles so far, each pass with the places that it gave
  pub events : List Happened
  -- how long each bucket's list was when a flush of it was acknowledged last, and 0 before any
  pub acknowledged : List ℕ

-- before the first step
abbrev pub new_core : Settings → CoreState
new_core settings = record {
  settings = settings;
  arrays = replicate settings.buckets [];
  urls = blank_book settings.buckets settings.rule;
  events = [];
  acknowledged = replicate settings.buckets 0;
}

-- ---- what a state tells
-- a bucket's array, and its list
abbrev pub array_of : CoreState → ℕ → List Tuple
array_of x b = slice_index_or x.arrays b []

abbrev pub list_of : CoreState → ℕ → List Tuple
list_of x b = slice_index_or x.urls.lists b []

-- how long a bucket's list is, from the beginning of time
abbrev pub durable_in : CoreState → ℕ → ℕ
durable_in x b = slice_index (lengths_of x.urls) b

-- how many of its offers wait to be judged
abbrev pub pending_in : CoreState → ℕ → ℕ
pending_in x b = durable_in x b - slice_index (judged_cut x.urls) b

-- how many offers are judged, from the beginning of time
abbrev pub judged_in : CoreState → ℕ
judged_in x = gone x.urls + length (judged x.urls)

-- how far the crawl has come
abbrev pub course : CoreState → Progress
course x = progress x.settings.queues x.settings.buckets x.events

-- the numbers of the URLs, in order
abbrev pub url_numbers : CoreState → List ℕ
url_numbers x = map (λ p. p.0) (uniques x.urls)

-- of some numbers those that no pass has read: they are not below the number of the last pass
abbrev pub unread : CoreState → List ℕ → List ℕ
unread x numbers = filter (λ n. nat_le (course x).read n) numbers

-- ---- when a step is taken
-- the least rule that an event with its places breaks in a core, where so many offers are judged: no event begins a
-- crawl there, and no event says that pairs are sent
abbrev pub broken_in_core : Progress → ℕ → Event → List Place → Option ℕ
broken_in_core x judged event places = broken (record x { begun = true; sent = judged }) event places

-- the event of a pass, and of a settle
abbrev pub pass_event : CoreState → Event
pass_event x = PassEvent (judged_in x)

abbrev pub settle_event : CoreState → List (ℕ × Outcome) → Event
settle_event x outcomes = SettleEvent (lengths_of x.urls) outcomes

-- the bucket is the key's, and its array has room
abbrev pub may_offer : CoreState → ℕ → Tuple → Bool
may_offer x b offer = nat_eq b (bucket_of x.settings.buckets offer.key) && nat_lt (length (array_of x b))
    x.settings.array

-- the array of a bucket isn't empty, too few of the bucket's offers are pending for a merge, and the list stays within
-- the cap
abbrev pub may_flush : CoreState → ℕ → Bool
may_flush x b =
    nat_lt b x.settings.buckets && nat_lt 0 (length (array_of x b)) && nat_lt (pending_in x b) x.settings.trigger
    && nat_le (durable_in x b + length (array_of x b)) x.settings.cap

-- an offer is pending: a list is longer than what is judged of it
abbrev pub may_merge : CoreState → Bool
may_merge x = one_rose (judged_cut x.urls) (lengths_of x.urls)

-- the pass breaks no rule, and of the URLs that no pass has read its places have all, in order
abbrev pub may_pass : CoreState → List Place → Bool
may_pass x places =
    is_none (broken_in_core (course x) (judged_in x) (pass_event x) places)
    && pointwise nat_eq (unread x (numbers_of places)) (unread x (url_numbers x))

-- the settle breaks no rule
abbrev pub may_settle : CoreState → List (ℕ × Outcome) → Bool
may_settle x outcomes = is_none (broken_in_core (course x) (judged_in x) (settle_event x outcomes) [])

-- ---- what it does
-- one offer more stands in a bucket's array
abbrev pub with_offer : ℕ → Tuple → CoreState → CoreState
with_offer b offer x = record x { arrays = flushed_lists b (offer ∷ []) x.arrays }

-- a bucket's array has moved to its list
abbrev pub with_list : ℕ → CoreState → CoreState
with_list b x = record x { arrays = slice_set x.arrays b []; urls = flushed b (array_of x b) x.urls }

-- what a bucket's list holds is acknowledged
abbrev pub with_word : ℕ → CoreState → CoreState
with_word b x = record x { acknowledged = slice_set x.acknowledged b (durable_in x b) }

-- all that was pending is judged
abbrev pub with_cut : CoreState → CoreState
with_cut x = record x { urls = merged x.urls }

-- one event more
abbrev pub with_event : Event → List Place → CoreState → CoreState
with_event event places x = record x { events = x.events ++ (event, places) ∷ [] }

-- what waited in memory is lost
abbrev pub emptied : CoreState → CoreState
emptied x = record x { arrays = map (λ array. []) x.arrays }

-- a stop, once a step took effect or before it did
abbrev pub stopped : Bool → (CoreState → CoreState) → CoreState → CoreState
stopped took effect x = emptied (if took then effect x else x)

-- ---- a step and its reply
-- where its condition isn't met a step is refused, and changes nothing
abbrev pub taken_if : Bool → CoreState → CoreState → Reply → CoreState × Reply
taken_if may old new reply = if may then (new, reply) else (old, Refused)

-- Each step with its reply. A stop in a call is told from one between calls: its flag says whether the call took
-- effect. It acknowledges nothing, and where the call's condition isn't met it is refused too, whatever its flag.
abbrev pub step : CoreState → Step → CoreState × Reply
step x (Offer b offer) =
    taken_if (may_offer x b offer) x (with_offer b offer x)
    (Receipt (record { bucket = b; number = durable_in x b + length (array_of x b) }))
step x (Flush b) = taken_if (may_flush x b) x (with_word b (with_list b x)) Taken
step x Merge = taken_if (may_merge x) x (with_cut x) (Cut (x.urls.dropped + length x.urls.cuts + 1))
step x Stop = (emptied x, Stopped)
step x (FlushStop b took) = taken_if (may_flush x b) x (stopped took (with_list b) x) Stopped
step x (MergeStop took) = taken_if (may_merge x) x (stopped took with_cut x) Stopped
step x (Pass places) = taken_if (may_pass x places) x (with_event (pass_event x) places x) Taken
step x (Settle outcomes) = taken_if (may_settle x outcomes) x (with_event (settle_event x outcomes) [] x) Taken
step x (SettleStop outcomes took) =
    taken_if (may_settle x outcomes) x (stopped took (with_event (settle_event x outcomes) []) x) Stopped

-- after steps, and after steps of a new core
abbrev pub after_steps : CoreState → List Step → CoreState
after_steps x [] = x
after_steps x (s ∷ steps) = after_steps (step x s).0 steps

abbrev pub core_of : Settings → List Step → CoreState
core_of settings steps = after_steps (new_core settings) steps
