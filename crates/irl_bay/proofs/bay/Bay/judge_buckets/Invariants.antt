-- the buckets so far are judged
use Rattle.std.proofs.Common.{◌*◌}
use Rattle.irl_disk.specs.Taken.{TakesOf}
use Rattle.irl_cache.specs.Reading.{read_of}
use Rattle.irl_bay.specs.Judging.{HasJudged}
use Rattle.irl_bay.specs.Drum.{cache_front}
use Rattle.irl_bay.specs.Merging.{WritesOn}
use Rattle.irl_bay.proofs.bay.Bay.judge_buckets.Given as goal

abbrev pub invariant-loop-b : goal.invariant-loop-b
invariant-loop-b g l =
    let store = g.S.Store in
    record {
      writes : WritesOn l.self ⊥ (store.told l.fn.store) (store.told l.store);
      judged : HasJudged l.self l.b (store.told l.fn.store) (store.told l.store).files l.sides l.telling;
      read : TakesOf (cache_front l.self).file (16 * read_of l.sides.reader) (store.told l.fn.store).taken (store.told l.store).taken;
    }
