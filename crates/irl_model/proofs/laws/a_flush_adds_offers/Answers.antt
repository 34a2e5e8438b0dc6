use Rattle.irl_model.proofs.FrontLaws.{flushed_front, flushed_judged}
use Rattle.irl_model.proofs.Flushes.{flushed_uniques, flushed_book, flushed_here, flushed_elsewhere, flushed_length_here, flushed_length_elsewhere}
use Rattle.irl_model.proofs.laws.a_flush_adds_offers.Goals as goal

pub returns-clause-front : goal.returns-clause-front
returns-clause-front c = flushed_front

pub returns-clause-judged : goal.returns-clause-judged
returns-clause-judged c = flushed_judged

pub returns-clause-uniques : goal.returns-clause-uniques
returns-clause-uniques c = flushed_uniques

pub returns-clause-book : goal.returns-clause-book
returns-clause-book c = flushed_book

pub returns-clause-list : goal.returns-clause-list
returns-clause-list c = flushed_here

pub returns-clause-other_lists : goal.returns-clause-other_lists
returns-clause-other_lists c = flushed_elsewhere

pub returns-clause-number : goal.returns-clause-number
returns-clause-number c = flushed_length_here

pub returns-clause-other_numbers : goal.returns-clause-other_numbers
returns-clause-other_numbers c = flushed_length_elsewhere
