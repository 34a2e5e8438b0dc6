-- A sorted run that is written.
use Rattle.std.specs.Prelude.{◌≡◌, ℕ, ◌+◌, ◌*◌, ◌≤◌, List, ◌++◌, length, map, take, Option, None, Result, OnOk, OnErr, IsErr}
use Rattle.std.specs.Option.{ForSome}
use Rattle.irl_offer.specs.declared.receipt.Pair.{Pair}
use Rattle.irl_model.specs.Pairs.{pair_of, IsRising}
use Rattle.irl_disk.specs.Disk.{Files, ChangesFile}
use Rattle.irl_disk.specs.Effects.{OnlyChanges}
use Rattle.irl_disk.specs.Images.{Told}
use Rattle.irl_journal.specs.Blob.{KeepsFront}
use Rattle.irl_journal.specs.Growing.{Writer, HasPut, ReachesPlace, end_of}
use Rattle.irl_cache.specs.SortedRun.{pairs_bytes, last_from}

-- a run's writer as contracts see it: the writer of its bytes, and the last key that was put
pub record RunWriter : Type 0 where
  pub out : Writer
  pub last : Option ℕ

-- these pairs were put, keys rising
pub record HasWritten (told : Option Files) (pairs : List Pair) (writer : RunWriter) : Type 0 where
  pub put : HasPut told (pairs_bytes (map pair_of pairs)) writer.out
  pub rising : IsRising pairs
  pub last : writer.last ≡ last_from None pairs

-- These pairs are put behind those that were, by the answer. A refusal leaves the first of them put, or none.
pub record PutsPairs {E : Type 0} (result : Result Unit E) (more : List Pair) (old new : RunWriter)
    (before after : Told) : Type 0 where
  pub written : OnOk result ((pairs : List Pair) → HasWritten before.files pairs old
      → HasWritten after.files (pairs ++ more) new)
  pub written_some : OnErr result ((pairs : List Pair) → HasWritten before.files pairs old → (n : ℕ)
      × (n ≤ length more) × HasWritten after.files (pairs ++ take n more) new)
  pub end : OnOk result (end_of new.out ≡ end_of old.out + 16 * length more)
  pub file : new.out.file ≡ old.out.file
  pub long : ForSome after.files (ReachesPlace new.out)
  -- no other file changes
  pub changes : OnlyChanges (ChangesFile old.out.file (KeepsFront 0)) (IsErr result) before after
