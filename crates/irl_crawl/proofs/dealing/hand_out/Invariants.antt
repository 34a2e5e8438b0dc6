use Rattle.std.proofs.Common.{map}
use Rattle.irl_crawl.specs.Dealing.{HaveTaken}
use Rattle.irl_crawl.specs.Workers.{schedules}
use Rattle.irl_crawl.proofs.dealing.hand_out.Given as goal

-- the first fronts are loaded with the shares so far
abbrev pub invariant-loop-worker : goal.invariant-loop-worker
invariant-loop-worker l = HaveTaken (map (λ p. p.1) l.yielded) (schedules l.fn.fronts) (schedules l.fronts)
