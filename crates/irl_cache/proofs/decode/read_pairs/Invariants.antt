use Rattle.std.proofs.Common.{◌≡◌, ◌*◌, map, length, take, vec_capacity}
use Rattle.irl_model.specs.Pairs.{pair_of}
use Rattle.irl_cache.specs.SortedRun.{pairs_bytes, AreWordPairs, RisesFrom, last_from, last_at}
use Rattle.irl_cache.proofs.decode.read_pairs.Given as goal

-- the pairs so far are the first of the piece, and their keys rise
abbrev pub invariant-loop-i : goal.invariant-loop-i
invariant-loop-i l =
    record {
      count : length l.pairs.items ≡ l.i;
      bytes : pairs_bytes (map pair_of l.pairs.items) ≡ take (16 * l.i) l.bytes;
      rising : RisesFrom l.fn.last l.pairs.items;
      words : AreWordPairs (map pair_of l.pairs.items);
      last : l.end ≡ last_from l.fn.last l.pairs.items;
      before : l.end ≡ last_at l.fn.last l.i l.bytes;
      capacity : vec_capacity l.pairs ≡ vec_capacity l.fn.pairs;
    }
