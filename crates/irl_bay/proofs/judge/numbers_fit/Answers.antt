use Rattle.std.proofs.Common.{arith}
use Rattle.irl_bay.proofs.Merged.{all_fit}
use Rattle.irl_bay.proofs.judge.numbers_fit.Goals as goal

pub returns : goal.returns
returns c = all_fit c.args.numbers.now (λ i. omega (arith, c.type_inv.numbers i))
