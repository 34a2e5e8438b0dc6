-- What an open bay names as damage: bytes at a place that are none that the layout allows there.
use Rattle.std.specs.Prelude.{◌≡◌, ◌⊎◌, ℕ, ◌<◌}
use Rattle.irl_disk.specs.Disk.{Files}
pub use Rattle.irl_cache.specs.SortedRun.{FallsAt}
use Rattle.irl_bay.specs.Drum.{Drum, bucket_at, pending_at, cache_front}
use Rattle.irl_bay.specs.Pending.{IsSpoiltBucket}

-- A file of an open bay has at this place what the layout doesn't allow there.
abbrev pub IsSpoiltAt : Drum → Files → ℕ → ℕ → Type 0
IsSpoiltAt drum files f at =
    ((f ≡ (cache_front drum).file) × FallsAt drum.last.entries (files f) at)
    ⊎ ((b : ℕ) × (b < drum.settings.buckets) × IsSpoiltBucket drum.settings b (bucket_at drum b) (pending_at drum b)
    files f at)
