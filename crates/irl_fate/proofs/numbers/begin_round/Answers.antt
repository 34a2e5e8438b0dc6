use Rattle.std.proofs.Common.{◌∙◌, ap, cond, get_or, subst, sym}
use Rattle.std.specs.Prelude.{nat_eq}
use Rattle.irl_fate.specs.declared.fate.Fate.TheVariants.{Queue}
use Rattle.irl_fate.specs.Kept.{fate_in, AreSorted}
use Rattle.irl_fate.proofs.Marking.{moved_entry, moved_more}
use Rattle.irl_fate.proofs.numbers.begin_round.Goals as goal

pub relabel-requires-clause-sorted : goal.relabel-requires-clause-sorted
relabel-requires-clause-sorted c = subst AreSorted (sym c.loop-number.invariant.numbers) c.requires.sorted

pub relabel-requires-clause-entry : goal.relabel-requires-clause-entry
relabel-requires-clause-entry c =
    let i = c.loop-number.number-index in
    moved_entry c.loop-number.entries c.args.entries.now c.args.last.now i _ (c.loop-number.invariant.fates _) (c.requires.last i c.loop-number-test.true)

pub loop-number-preserved : goal.loop-number-preserved
loop-number-preserved c =
    let i = c.loop-number.number-index in
    let n = get_or c.args.last.now i 0 in
    record {
      fates = λ q.
          c.relabel.ensures.fate q ∙ ap (cond (nat_eq n q) (Queue 1)) (c.loop-number.invariant.fates q)
          ∙ moved_more c.args.last.now i 0 q (fate_in c.args.entries.now q) c.loop-number-test.true;
      numbers = c.relabel.ensures.numbers ∙ c.loop-number.invariant.numbers;
    }
