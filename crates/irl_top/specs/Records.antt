-- That a run writes whole arrays: what the live journals of its buckets then have.
use Rattle.std.specs.Prelude.{ℕ, ◌+◌, ◌<◌, ◌≤◌, List}
use Rattle.irl_disk.specs.Disk.{Files}
use Rattle.irl_yard.specs.Holding.{HasLiveJournal}
use Rattle.irl_head.specs.StoreFiles.{pairs_base, urls_base}
use Rattle.irl_schedule.specs.Schedule.{uneven_records}

-- From one joint image to another each bucket's live journal has at most so many more records that have another number
-- of offers than a whole array: the journal on the side that the last commit of the image's own manifest leaves live,
-- of the bay with this first file, of a store with so many buckets. No store has more than 64.
abbrev pub AddsUnevenAt : ℕ → ℕ → ℕ → ℕ → Files → Files → Type 0
AddsUnevenAt base n buckets array old new = (b : ℕ) → b < buckets → b < 64 → (records : List (List ℕ))
    → HasLiveJournal base buckets b records old
    → (more : List (List ℕ)) × HasLiveJournal base buckets b more new
    × (uneven_records array more ≤ uneven_records array records + n)

-- of the bay of URLs
abbrev pub AddsUnevenRecords : ℕ → ℕ → ℕ → Files → Files → Type 0
AddsUnevenRecords n buckets array old new = AddsUnevenAt urls_base n buckets array old new

-- and of both bays of a crawl
pub record AddsUnevenInBoth (n buckets array : ℕ) (old new : Files) : Type 0 where
  pub urls : AddsUnevenAt urls_base n buckets array old new
  pub pairs : AddsUnevenAt pairs_base n buckets array old new
