-- What parts of a crawl ask of an open store, and what they make of the states that it held.
use Rattle.std.specs.Prelude.{◌≡◌, ◌⊎◌, ◌+◌, ◌<◌, ℕ, List, Some, Result, IsErrOf, length}
use Rattle.std.specs.Option.{ForSome}
use Rattle.irl_base.specs.Faults.{HasCause}
use Rattle.irl_base.specs.declared.fault.Fault.{Fault}
use Rattle.irl_base.specs.declared.fault.Fault.TheVariants.{Damaged, Full}
use Rattle.irl_disk.specs.Disk.{ChangesOnly, Files}
use Rattle.irl_disk.specs.Images.{Follows, Told}
use Rattle.irl_events.specs.State.{State}
use Rattle.irl_layout.specs.BayFiles.{IsFileOf}
use Rattle.irl_model.specs.Book.{part}
use Rattle.irl_offer.specs.Tuple.{Tuple}
use Rattle.irl_offer.specs.declared.settings.Settings.{Settings}
use Rattle.irl_schedule.specs.Feeding.{Grows, list_at}
use Rattle.irl_ledger.specs.Crawling.{pair_settings}
use Rattle.irl_ledger.specs.declared.ledger.Ledger.{Ledger}
use Rattle.irl_yard.specs.declared.parts.Parts.{Parts}
use Rattle.irl_yard.specs.declared.parts.Rest.TheVariants.{Crawl}
use Rattle.irl_yard.specs.Holding.{HoldsState, IsSound, StaysSound}
use Rattle.irl_yard.specs.Leading.{FailsAt, LeadsTo}
use Rattle.irl_yard.specs.Passing.{front_in, suffixes_in}
use Rattle.irl_yard.specs.Sending.{HasBegun, IsSentFile, OnlyThese}
use Rattle.irl_crawl.specs.Sending.{pairs_for}

-- ---- what is open
-- a store of a crawl that has begun, in which no call failed
pub record IsOpen (parts : Parts) : Type 0 where
  pub sound : IsSound parts
  pub begun : HasBegun parts.rest

-- the pairs of all cuts are sent
abbrev pub IsSent : Parts → Type 0
IsSent parts = (ledger : Ledger) → parts.rest ≡ Crawl ledger → ledger.frontier.progress.cuts ≡ parts.urls.cuts

-- it has begun, with the same suffixes,
pub record KeepsBegun (was now : Parts) : Type 0 where
  pub begun : HasBegun now.rest
  pub suffixes : suffixes_in now.rest ≡ suffixes_in was.rest

-- and the same URLs are to be fetched next
pub record KeepsFront (was now : Parts) : Type 0 where
  pub keeps : KeepsBegun was now
  pub front : front_in now.rest ≡ front_in was.rest

-- ---- the files
-- those of an open store of a crawl: of its bay of URLs, by where that begins, of its bay of pairs, and its log
abbrev pub IsCrawlFile : ℕ → ℕ → ℕ → Type 0
IsCrawlFile base buckets f = IsFileOf base buckets f ⊎ IsSentFile buckets f

-- Whatever is answered, and whatever the files stand for, no other one changes: as it is told, as a stop at any moment
-- leaves it, and as one from now on does.
pub record KeepsOthers (was later : Parts) (before after : Told) : Type 0 where
  pub base : later.urls.base ≡ was.urls.base
  pub only : OnlyThese (IsCrawlFile was.urls.base was.urls.settings.buckets) before after
  pub now : (image : Files) → after.images image
      → Follows (ChangesOnly (IsCrawlFile was.urls.base was.urls.settings.buckets)) before.images image

-- ---- the states
-- What a part of a crawl made of the states that an open store held, where the store tells: each is led to one that it
-- `did`; where the store failed, those that it left are ones that it `may` have made.
pub record Leads (failed : Type 0) (may did : State → State → Type 0) (was now : Parts) (before after : Told) : Type 0
  where
    pub leads : (failed → ⊥) → ForSome before.files (λ _. (x : State) → HoldsState before.images was x
        → (y : State) × did x y × LeadsTo x y now before after)
    pub fails : failed → ForSome before.files (λ _. (x : State) → HoldsState before.images was x
        → FailsAt (may x) x before after)
    -- what is told is told on, and the settings stay
    pub told : (files : Files) → before.files ≡ Some files → (later : Files) × (after.files ≡ Some later)
    pub settings : now.urls.settings ≡ was.urls.settings
    -- the store may be asked again, but where it failed, which it did only where its count of faults rose
    pub goes_on : StaysSound failed now
    pub cause : HasCause failed before.faults after.faults
    -- no file changes but those of the crawl
    pub others : KeepsOthers was now before after

-- From one state to a later one: in both books a list that has grown is within the cap, and at most so many cuts were
-- made before a bucket had enough new offers.
pub record GrowsInBatches (settings : Settings) (early : ℕ) (x y : State) : Type 0 where
  pub urls : Grows settings early x.urls y.urls
  pub pairs : Grows (pair_settings settings) early x.pairs y.pairs

-- ---- why a fault is answered
-- What is handed in doesn't fit: to the last state's list not a whole array more. In a bucket of URLs the first one's
-- list and all offers of the bucket that were handed in since pass the cap together. Or, counted behind those, in a
-- bucket of pairs, its list and all links that the last one's URLs show since pairs were sent.
abbrev pub IsFullAt : List ℕ → Settings → List Tuple → State → State → ℕ → Type 0
IsFullAt suffixes settings handed x y n =
    ((n < settings.buckets) × (settings.cap < length (list_at y.urls n) + settings.array)
    × (settings.cap < length (list_at x.urls n) + length (part settings.buckets n handed)))
    ⊎ ((b : ℕ) × (n ≡ 64 + b) × (b < settings.buckets)
    × (settings.cap < length (list_at y.pairs b) + settings.array)
    × (settings.cap < length (pairs_for suffixes settings x y.urls b)))

-- The ground of an answer, of the state that was held and the one that it was led to, by these offers of URLs: damage
-- is named of neither.
pub record HasGround {A : Type 0} (result : Result A Fault) (suffixes : List ℕ) (settings : Settings)
    (handed : List Tuple) (x y : State) : Type 0 where
  pub full : (n : ℕ) → IsErrOf result (Full n) → IsFullAt suffixes settings handed x y n
  pub whole : (f at : ℕ) → IsErrOf result (Damaged f at) → ⊥

-- No list is full by an answer, and no damage is named.
pub record NeedsNoGround {A : Type 0} (result : Result A Fault) : Type 0 where
  pub full : (n : ℕ) → IsErrOf result (Full n) → ⊥
  pub whole : (f at : ℕ) → IsErrOf result (Damaged f at) → ⊥
