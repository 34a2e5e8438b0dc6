use Rattle.std.proofs.Common.{arith, ◌∙◌, ◌<◌, length, get_or, None}
use Rattle.std.proofs.Math.ListN.{length-set}
use Rattle.irl_merge.proofs.Numbering.{nothing, placed_more}
use Rattle.irl_merge.proofs.verdicts.in_original_order.Goals as goal

pub loop-i-preserved : goal.loop-i-preserved
loop-i-preserved c =
    let asked = c.args.asked.now in
    let i = c.loop-i.i in
    let within : (get_or asked i nothing).place < length c.loop-i.told.items = omega (arith, c.requires.placed i nothing c.loop-i-test.true, c.loop-i.invariant.len) in
    record {
      len = length-set c.loop-i.told.items (get_or asked i nothing).place (get_or c.args.verdicts.now i None) ∙ c.loop-i.invariant.len;
      told = λ right is. placed_more asked c.args.verdicts.now right c.loop-i.told.items i nothing c.loop-i-test.true within is (c.loop-i.invariant.told right is);
    }

pub returns-clause-told : goal.returns-clause-told
returns-clause-told c = λ right is j d lt. c.loop-i.invariant.told right is j d (omega arith)
