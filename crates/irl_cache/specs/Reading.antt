-- A sorted run that is read in blocks.
use Rattle.std.specs.Prelude.{◌≡◌, ◌≢◌, ℕ, ◌+◌, ◌-◌, ◌*◌, ◌<◌, ◌≤◌, List, [], ◌++◌, map, length, Option, None, Some, Result, OnOk, OnErr, IsErrOf}
use Rattle.std.specs.Option.{ForSome}
use Rattle.irl_base.specs.declared.fault.Fault.{Fault}
use Rattle.irl_base.specs.declared.fault.Fault.TheVariants.{Damaged, Failed, Full, Memory}
use Rattle.irl_offer.specs.declared.receipt.Pair.{Pair}
use Rattle.irl_model.specs.Pairs.{pair_of, IsRising}
use Rattle.irl_disk.specs.Disk.{Files}
use Rattle.irl_disk.specs.Effects.{OnlyReads}
use Rattle.irl_disk.specs.Images.{Told}
use Rattle.irl_journal.specs.Blob.{BeginsWith}
use Rattle.irl_cache.specs.SortedRun.{pairs_bytes, AreWordPairs, IsSpoiltRun, last_from}

-- a reader as contracts see it
pub record Reader : Type 0 where
  pub file : ℕ
  -- how many entries the run has, and how many a block has at most
  pub entries : ℕ
  pub most : ℕ
  -- how many all blocks so far had
  pub given : ℕ
  -- the last of them
  pub block : List Pair
  -- what was read behind them, and the last key that was read
  pub ahead : List Pair
  pub last : Option ℕ

-- how many entries were read from the file
abbrev pub read_of : Reader → ℕ
read_of reader = reader.given + length reader.ahead

-- the file has as many
abbrev pub ReachesRead : Reader → Files → Type 0
ReachesRead reader files = 16 * read_of reader ≤ length (files reader.file)

-- The blocks so far, joined, are these pairs: with what was read ahead, their keys rise, and they are the file's first
-- entries where a store tells its contents.
pub record HasRead (told : Option Files) (pairs : List Pair) (reader : Reader) : Type 0 where
  pub count : reader.given ≡ length pairs
  pub within : read_of reader ≤ reader.entries
  pub rising : IsRising (pairs ++ reader.ahead)
  pub words : AreWordPairs (map pair_of (pairs ++ reader.ahead))
  pub last : reader.last ≡ last_from None (pairs ++ reader.ahead)
  pub bytes : ForSome told (λ files. BeginsWith (files reader.file) (pairs_bytes (map pair_of (pairs ++ reader.ahead))))

-- exactly n bytes of this file were read, and none of another: as `Takes`, but without its bound, since no read gives
-- no bound
abbrev pub TakesExactly : ℕ → ℕ → Option (ℕ → ℕ) → Option (ℕ → ℕ) → Type 0
TakesExactly f n None new = new ≡ None
TakesExactly f n (Some old) new = (counts : ℕ → ℕ) × (new ≡ Some counts) × (counts f ≡ old f + n)
    × ((g : ℕ) → g ≢ f → counts g ≡ old g)

-- A call that reads a run on, by its answer.
pub record ReadsOn {A : Type 0} (result : Result A Fault) (old new : Reader) (before after : Told) : Type 0 where
  -- a refusal gives no block, and leaves what was given
  pub err : OnErr result (new ≡ record old { block = [] })
  pub long : ForSome after.files (ReachesRead new)
  pub damaged : (f at : ℕ) → IsErrOf result (Damaged f at) → (pairs : List Pair) → HasRead before.files pairs old
      → ForSome before.files (λ files. (f ≡ old.file) × IsSpoiltRun old.entries (files f) at)
  pub memory : IsErrOf result Memory → ⊥
  pub full : (n : ℕ) → IsErrOf result (Full n) → ⊥
  -- no byte but those of the entries that were read
  pub taken : OnOk result (TakesExactly old.file (16 * (read_of new - read_of old)) before.taken after.taken)
  pub reads : OnlyReads (λ f. f ≡ old.file) (IsErrOf result Failed) before after

-- A call that reads on where no entry is ahead, by its answer.
pub record Fills {A : Type 0} (result : Result A Fault) (old new : Reader) (before after : Told) : Type 0 where
  pub more : OnOk result (new.given < new.entries → 1 ≤ length new.ahead)
  pub same : OnOk result (new ≡ record old { block = new.block; ahead = new.ahead; last = new.last })
  pub ahead : OnOk result (read_of old ≤ read_of new)
  pub read : OnOk result ((pairs : List Pair) → HasRead before.files pairs old → HasRead after.files pairs new)
  pub reads_on : ReadsOn result old new before after
