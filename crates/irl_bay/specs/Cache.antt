-- The cache: the keys that were judged, each with its value, keys rising. It has two sides, of which a merge reads one
-- and writes the other.
use Rattle.std.specs.Prelude.{◌≡◌, ℕ, length}
use Rattle.std.specs.FinMap.{entries}
use Rattle.irl_model.specs.Judging.{KeyMap}
use Rattle.irl_disk.specs.Disk.{Files}
use Rattle.irl_journal.specs.Blob.{BeginsWith}
use Rattle.irl_cache.specs.SortedRun.{pairs_bytes}
use Rattle.irl_layout.specs.BayFiles.{file_of}
use Rattle.irl_layout.specs.declared.files.BayFile.TheVariants.{Cache}
use Rattle.irl_layout.specs.Commits.{Commit}

-- the side that a commit names has these keys
pub record HasCache (base : ℕ) (commit : Commit) (keys : KeyMap) (files : Files) : Type 0 where
  pub count : commit.entries ≡ length (entries keys)
  pub bytes : BeginsWith (files (file_of base 0 (Cache commit.side))) (pairs_bytes (entries keys))
