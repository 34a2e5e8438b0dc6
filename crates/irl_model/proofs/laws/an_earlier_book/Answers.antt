use Rattle.irl_model.proofs.Merges.{earlier_book, earlier_front, earlier_all}
use Rattle.irl_model.proofs.laws.an_earlier_book.Goals as goal

pub returns-clause-book : goal.returns-clause-book
returns-clause-book c = earlier_book

pub returns-clause-front : goal.returns-clause-front
returns-clause-front c = earlier_front

pub returns-clause-all : goal.returns-clause-all
returns-clause-all c = earlier_all
