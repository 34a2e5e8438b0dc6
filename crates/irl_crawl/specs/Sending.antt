-- The pairs of domains that a crawl sends.
use Rattle.std.specs.Prelude.{◌≡◌, ◌<◌, ◌++◌, ℕ, List}
use Rattle.irl_events.specs.Events.{progress}
use Rattle.irl_events.specs.State.{State}
use Rattle.irl_ledger.specs.Sending.{judged_after, links_of}
use Rattle.irl_model.specs.Book.{Book, IsPrefixOf, part}
use Rattle.irl_offer.specs.Tuple.{Tuple}
use Rattle.irl_offer.specs.declared.settings.Settings.{Settings}
use Rattle.irl_schedule.specs.Feeding.{list_at}

-- the links of what a book of URLs judged past those whose pairs a state's events say are sent, by a text of suffixes
abbrev pub links_since : List ℕ → Settings → State → Book → List Tuple
links_since suffixes settings x urls =
    links_of suffixes (judged_after (progress settings.queues settings.buckets x.events).sent urls)

-- a bucket's list of pairs and such links of it
abbrev pub pairs_for : List ℕ → Settings → State → Book → ℕ → List Tuple
pairs_for suffixes settings x urls b = list_at x.pairs b
    ++ part settings.buckets b (links_since suffixes settings x urls)

-- From one state to a later one: behind each list of pairs stand the first of the later one's links of its bucket, each
-- once, and nothing else;
abbrev pub SendsLinks : List ℕ → Settings → State → State → Type 0
SendsLinks suffixes settings x y = (b : ℕ) → b < settings.buckets
    → IsPrefixOf (list_at y.pairs b) (pairs_for suffixes settings x y.urls b)

-- or all of them
abbrev pub SendsAll : List ℕ → Settings → State → State → Type 0
SendsAll suffixes settings x y = (b : ℕ) → b < settings.buckets
    → list_at y.pairs b ≡ pairs_for suffixes settings x y.urls b
