use Rattle.std.proofs.Common.{ℕ, sym, subst}
use Rattle.irl_log.specs.Reading.{FindsBehind}
use Rattle.irl_log.proofs.codec.reading.read_rest.Goals as goal

pub returns-in-2 : goal.returns-in-2
returns-in-2 c = subst (λ (tag : ℕ). FindsBehind c.args.buckets tag c.args.rest.now c.read_pairs.result) (sym c.in-2.is) (c.read_pairs.ensures c.args.buckets)

pub returns-in-3 : goal.returns-in-3
returns-in-3 c = subst (λ (tag : ℕ). FindsBehind c.args.buckets tag c.args.rest.now c.read_pass.result) (sym c.in-3.is) (c.read_pass.ensures c.args.buckets)
