use Rattle.std.proofs.Common.{sym, arith}
use Rattle.irl_robots.proofs.HeadsLemmas.{sum-nothing}
use Rattle.irl_robots.proofs.heads.write_sums.Goals as goal

pub loop-i-init : goal.loop-i-init
loop-i-init c = record { next = sym sum-nothing; written = λ k below. absurd (omega arith) }
