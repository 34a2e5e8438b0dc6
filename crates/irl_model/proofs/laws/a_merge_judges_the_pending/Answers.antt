use Rattle.std.proofs.Common.{refl}
use Rattle.irl_model.proofs.FrontLaws.{merged_front, merged_offers, merged_book}
use Rattle.irl_model.proofs.Merges.{merged_judged, merged_uniques, merged_seen, merged_cut, earlier_merged}
use Rattle.irl_model.proofs.laws.a_merge_judges_the_pending.Goals as goal

pub returns-clause-front : goal.returns-clause-front
returns-clause-front c = merged_front

pub returns-clause-offers : goal.returns-clause-offers
returns-clause-offers c = merged_offers

pub returns-clause-book : goal.returns-clause-book
returns-clause-book c = merged_book

pub returns-clause-judged : goal.returns-clause-judged
returns-clause-judged c = merged_judged

pub returns-clause-uniques : goal.returns-clause-uniques
returns-clause-uniques c = merged_uniques

pub returns-clause-after : goal.returns-clause-after
returns-clause-after c = merged_seen

pub returns-clause-earlier : goal.returns-clause-earlier
returns-clause-earlier c = earlier_merged

pub returns-clause-cut : goal.returns-clause-cut
returns-clause-cut c = merged_cut

pub returns-clause-lengths : goal.returns-clause-lengths
returns-clause-lengths c = λ book. refl
