use Rattle.std.proofs.Common.{◌≡◌, arith, rules, length}
use Rattle.std.specs.Prelude.{vec_len}
use Rattle.irl_fate.proofs.Ordering.{first_part}
use Rattle.irl_fate.proofs.order.first_of.Goals as goal

pub returns-then-len-most : goal.returns-then-len-most
returns-then-len-most c =
    let so_far = c.loop-number.first in
    let count : vec_len so_far ≡ length so_far.items = search rules in
    first_part c.args.entries.now c.args.order.now so_far.items c.loop-number.number-index c.args.most c.loop-number.invariant.first (omega (arith, c.len.ensures, c.if-len-most.true))
