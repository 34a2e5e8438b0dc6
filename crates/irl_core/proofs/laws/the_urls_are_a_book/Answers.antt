use Rattle.irl_model.proofs.BookLaws.{distinct_uniques}
use Rattle.irl_core.proofs.Keeping.{core_kept}
use Rattle.irl_core.proofs.laws.the_urls_are_a_book.Goals as goal

pub returns-clause-keys : goal.returns-clause-keys
returns-clause-keys c = λ x. distinct_uniques x.urls

pub returns-clause-all : goal.returns-clause-all
returns-clause-all c = λ settings steps valid. (core_kept settings steps valid).urls
