use Rattle.std.proofs.Common.{◌-◌, length}
use Rattle.irl_http.specs.Parsing.{EndsInterim}
use Rattle.irl_http.proofs.head.look.Given as goal

abbrev pub invariant-loop-front : goal.invariant-loop-front
invariant-loop-front l = EndsInterim l.bytes l.at

abbrev pub decreases-loop-front : goal.decreases-loop-front
decreases-loop-front l = length l.bytes - l.at
