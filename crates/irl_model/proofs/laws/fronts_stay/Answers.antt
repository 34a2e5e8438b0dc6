use Rattle.irl_model.proofs.FrontLaws.{front_same, front_both, judged_front, uniques_front}
use Rattle.irl_model.proofs.laws.fronts_stay.Goals as goal

pub returns-clause-same : goal.returns-clause-same
returns-clause-same c = front_same

pub returns-clause-both : goal.returns-clause-both
returns-clause-both c = front_both

pub returns-clause-judged : goal.returns-clause-judged
returns-clause-judged c = judged_front

pub returns-clause-uniques : goal.returns-clause-uniques
returns-clause-uniques c = uniques_front
