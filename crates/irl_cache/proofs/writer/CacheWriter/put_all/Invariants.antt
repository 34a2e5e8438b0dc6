use Rattle.std.proofs.Common.{◌≡◌, ◌+◌, ◌*◌, ◌++◌, List, take, drop}
use Rattle.std.specs.Option.{ForSome}
use Rattle.irl_offer.specs.declared.receipt.Pair.{Pair}
use Rattle.irl_disk.specs.Disk.{ChangesFile}
use Rattle.irl_disk.specs.Effects.{OnlyChanges}
use Rattle.irl_journal.specs.Blob.{KeepsFront}
use Rattle.irl_cache.specs.SortedRun.{RisesFrom}
use Rattle.irl_journal.specs.Growing.{ReachesPlace, end_of}
use Rattle.irl_cache.specs.Writing.{HasWritten}
use Rattle.irl_cache.proofs.writer.CacheWriter.put_all.Given as goal

-- the pairs so far were put, and the others rise behind them
abbrev pub invariant-loop-pair : goal.invariant-loop-pair
invariant-loop-pair g l =
    record {
      written : (before : List Pair) → HasWritten (g.S.Store.told l.fn.store).files before l.fn.self → HasWritten (g.S.Store.told l.store).files (before ++ take l.pair-index l.pairs) l.self;
      end : end_of l.self.out ≡ end_of l.fn.self.out + 16 * l.pair-index;
      file : l.self.out.file ≡ l.fn.self.out.file;
      long : ForSome (g.S.Store.told l.store).files (ReachesPlace l.self.out);
      rise : RisesFrom l.self.last (drop l.pair-index l.pairs);
      went : OnlyChanges (ChangesFile l.fn.self.out.file (KeepsFront 0)) ⊥ (g.S.Store.told l.fn.store) (g.S.Store.told l.store);
    }
