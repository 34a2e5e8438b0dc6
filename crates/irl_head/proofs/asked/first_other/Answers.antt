use Rattle.irl_head.proofs.Asking.{all_agree, first_differs, none_agrees, same_agrees}
use Rattle.irl_head.proofs.asked.first_other.Goals as goal
use Rattle.irl_head.proofs.asked.first_other.Goals.{in-Some+else-number-kept, in_default}

pub returns-then-number-kept-clause-found : goal.returns-then-number-kept-clause-found
returns-then-number-kept-clause-found c =
    first_differs c.args.asked.now c.args.kept.now c.loop-i.i c.in-Some.number c.asked_numbers-wanted.result c.numbers_of-kept.result c.asked_numbers-wanted.ensures c.numbers_of-kept.ensures
    c.loop-i-test.true c.in-Some.is c.if-number-kept.true c.loop-i.invariant

pub loop-i-preserved : goal.loop-i-preserved
loop-i-preserved c = elim c.match-wanted-i.branch [
  | in-Some+else-number-kept w ↦ same_agrees c.loop-i.i w.in-Some.number c.asked_numbers-wanted.result c.numbers_of-kept.result w.in-Some.is w.if-number-kept.false c.loop-i.invariant
  | in_default w ↦ none_agrees c.loop-i.i c.asked_numbers-wanted.result c.numbers_of-kept.result w.in_default.not-Some c.loop-i.invariant
]

pub returns-clause-none : goal.returns-clause-none
returns-clause-none c = λ none. all_agree c.args.asked.now c.args.kept.now c.loop-i.i c.asked_numbers-wanted.result c.numbers_of-kept.result c.asked_numbers-wanted.ensures c.numbers_of-kept.ensures
    c.loop-i-test.false c.loop-i.invariant
