use Rattle.irl_yard.proofs.States.{state_same, state_both, offers_front, cut_front, entered_front, event_front, pairs_front, judged_stays}
use Rattle.irl_yard.proofs.laws.states_grow.Goals as goal

pub returns-clause-same : goal.returns-clause-same
returns-clause-same c = state_same

pub returns-clause-both : goal.returns-clause-both
returns-clause-both c = state_both

pub returns-clause-offers : goal.returns-clause-offers
returns-clause-offers c = offers_front

pub returns-clause-cut : goal.returns-clause-cut
returns-clause-cut c = cut_front

pub returns-clause-entered : goal.returns-clause-entered
returns-clause-entered c = entered_front

pub returns-clause-event : goal.returns-clause-event
returns-clause-event c = event_front

pub returns-clause-pairs : goal.returns-clause-pairs
returns-clause-pairs c = pairs_front

pub returns-clause-judged : goal.returns-clause-judged
returns-clause-judged c = judged_stays
