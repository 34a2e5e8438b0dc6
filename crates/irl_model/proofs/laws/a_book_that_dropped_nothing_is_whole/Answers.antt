use Rattle.irl_model.proofs.PlainLemmas.{whole}
use Rattle.irl_model.proofs.laws.a_book_that_dropped_nothing_is_whole.Goals as goal

pub returns : goal.returns
returns c = whole
