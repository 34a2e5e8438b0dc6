use Rattle.irl_model.proofs.BookLaws.{distinct_uniques}
use Rattle.irl_model.proofs.laws.unique_keys_differ.Goals as goal

pub returns : goal.returns
returns c = distinct_uniques
