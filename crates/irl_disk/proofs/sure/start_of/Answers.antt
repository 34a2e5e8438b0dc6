use Rattle.std.proofs.Common.{arith}
use Rattle.std.proofs.lemmas.List.Sums.{sum_by-take-le}
use Rattle.irl_disk.proofs.sure.start_of.Goals as goal

pub total-requires : goal.total-requires
total-requires c = omega (arith, sum_by-take-le (λ x. x) c.args.lengths.now c.args.f)
