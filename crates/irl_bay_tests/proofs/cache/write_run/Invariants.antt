use Rattle.irl_cache.specs.SortedRun.{IsAbove}
use Rattle.irl_bay_tests.proofs.cache.write_run.Given as goal

-- the keys so far are below this one
abbrev pub invariant-loop-key : goal.invariant-loop-key
invariant-loop-key l = IsAbove l.writer.last l.key
