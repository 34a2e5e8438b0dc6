-- A crawl merges and flushes in batches: of the cuts that its books gain, and of the records that its bucket journals
-- gain, few are made before there is enough for them.
use Rattle.std.specs.Prelude.{◌≡◌, ◌+◌, ◌<◌, ◌≤◌, ℕ, List, Result, Ok, Err, OnOk}
use Rattle.std.specs.Option.{ForSome}
use Rattle.irl_base.specs.declared.fault.Fault.{Fault}
use Rattle.irl_disk.specs.Disk.{Files}
use Rattle.irl_disk.specs.Images.{Told, Leaves}
use Rattle.irl_events.specs.State.{State, IsFrontState}
use Rattle.irl_head.specs.StoreFiles.{pairs_base, urls_base}
use Rattle.irl_layout.specs.Commits.{HasLiveRecords}
use Rattle.irl_ledger.specs.Crawling.{pair_settings}
use Rattle.irl_ledger.specs.declared.ledger.Ledger.{Ledger}
use Rattle.irl_offer.specs.declared.settings.Settings.{Settings}
use Rattle.irl_schedule.specs.Feeding.{Grows}
use Rattle.irl_schedule.specs.Schedule.{AddsUneven, HaveRecords}
use Rattle.irl_yard.specs.declared.parts.Parts.{Parts}
use Rattle.irl_yard.specs.declared.parts.Rest.TheVariants.{Crawl}
use Rattle.irl_yard.specs.Holding.{HoldsState}
use Rattle.irl_yard.specs.Standing.{HasState}
use Rattle.irl_crawl.specs.Turning.{events_since, turns_in}

-- ---- records
-- those of the live bucket journals, of URLs and of pairs
pub record Records : Type 0 where
  pub urls : ℕ → List (List ℕ)
  pub pairs : ℕ → List (List ℕ)

-- an open store's have them
pub record HaveBoth (images : Files → Type 0) (parts : Parts) (records : Records) : Type 0 where
  pub urls : HaveRecords images parts.urls records.urls
  pub pairs : (ledger : Ledger) → parts.rest ≡ Crawl ledger → HaveRecords images ledger.pairs records.pairs

-- each journal of a bucket of URLs, and of pairs, has at most so many uneven records more
pub record AddsUnevenBoth (flushed sent : ℕ) (settings : Settings) (old new : Records) : Type 0 where
  pub urls : AddsUneven (λ b. flushed) settings.buckets settings.array old.urls new.urls
  pub pairs : AddsUneven (λ b. sent) settings.buckets settings.array old.pairs new.pairs

-- a joint image has them in its live journals
pub record HasBoth (settings : Settings) (records : Records) (image : Files) : Type 0 where
  pub urls : (b : ℕ) → b < settings.buckets → HasLiveRecords urls_base settings.buckets b (records.urls b) image
  pub pairs : (b : ℕ) → b < settings.buckets → HasLiveRecords pairs_base settings.buckets b (records.pairs b) image

-- ---- batches
-- So many desks were closed, each of which may flush one record of each bucket of URLs that isn't a whole array; so
-- many times was all judged, which may add one early cut to the URLs; and so many times were the pairs sent, which may
-- add one early cut to theirs, and one such record to each of their buckets.
pub record Spare : Type 0 where
  pub desks : ℕ
  pub merges : ℕ
  pub sends : ℕ

-- just so many desks, and so many times both judged and sent, whatever was settled; besides one of each for each turn
-- that was settled; and none but judged and sent, once a turn
abbrev pub just : ℕ → ℕ → ℕ → Spare
just desks judges turns = record { desks = desks; merges = judges; sends = judges }

abbrev pub besides : ℕ → ℕ → ℕ → Spare
besides desks judges turns = record { desks = desks + turns; merges = judges + turns; sends = judges + turns }

abbrev pub judged_in : ℕ → Spare
judged_in turns = record { desks = 0; merges = turns; sends = turns }

-- by the answer: no desk at Ok, and else one
abbrev pub a_desk_unless : {A : Type 0} → Result A Fault → ℕ → Spare
a_desk_unless (Ok value) = besides 0 0
a_desk_unless (Err fault) = besides 1 0

-- how many turns were settled from one state to a later one
abbrev pub turns_since : State → State → ℕ
turns_since x y = turns_in (events_since x y)

-- From one state to a later one, of a store with these records and then those: cuts and records came in batches, but
-- for these.
pub record ComeInBatches (settings : Settings) (spare : Spare) (x y : State) (old new : Records) : Type 0 where
  pub front : IsFrontState x y
  pub urls : Grows settings spare.merges x.urls y.urls
  pub pairs : Grows (pair_settings settings) spare.sends x.pairs y.pairs
  pub records : AddsUnevenBoth spare.desks spare.sends settings old new

-- a joint image stands for a later state, up to which they came so
pub record HasBatched (settings : Settings) (spare : ℕ → Spare) (x : State) (old : Records) (image : Files)
    : Type 0 where
  pub state : State
  pub has : HasState state image
  pub records : Records
  pub live : HasBoth settings records image
  pub come : ComeInBatches settings (spare (turns_since x state)) x state old records

-- What a part of a crawl adds to the files of an open store, where the store tells.
pub record Batches (failed : Type 0) (kept left : ℕ → Spare) (was now : Parts) (before after : Told) : Type 0 where
  -- the journals are open with these records then, unless the store failed,
  pub keeps : (failed → ⊥) → ForSome before.files (λ _. (x y : State) (old : Records)
      → HoldsState before.images was x → HoldsState after.images now y → HaveBoth before.images was old
      → (new : Records) × HaveBoth after.images now new
      × ComeInBatches was.urls.settings (kept (turns_since x y)) x y old new)
  -- and a stop at any moment leaves such ones
  pub stops : ForSome before.files (λ _. (x : State) (old : Records) → HoldsState before.images was x
      → HaveBoth before.images was old → Leaves before after (HasBatched was.urls.settings left x old))

-- At Ok a turn was settled, where the store tells.
abbrev pub Turned : {A : Type 0} → Result A Fault → Parts → Parts → Told → Told → Type 0
Turned result was now before after = OnOk result (ForSome before.files (λ _. (x y : State)
    → HoldsState before.images was x → HoldsState after.images now y → 1 ≤ turns_since x y))
