use Rattle.std.proofs.Common.{arith, rules}
use Rattle.irl_bay.proofs.Below.{below_each, each_below, length-below}
use Rattle.irl_bay.proofs.history.is_below.Goals as goal

pub returns-then-xs-ys : goal.returns-then-xs-ys
returns-then-xs-ys c = (λ is. absurd (cc), λ below. absurd (c.if-xs-ys.true (length-below c.args.xs.now c.args.ys.now below)))

pub returns-then-x-ys : goal.returns-then-x-ys
returns-then-x-ys c = (λ is. absurd (cc), λ below. absurd (omega (arith, each_below c.args.xs.now c.args.ys.now below c.loop-i.i, c.if-x-ys.true)))

pub returns : goal.returns
returns c = (λ is. below_each c.args.xs.now c.args.ys.now c.if-xs-ys.false (λ k within. c.loop-i.invariant k (omega (arith, within, c.loop-i-test.false))), λ below. search rules)
