use Rattle.irl_model.proofs.BookLaws.{judged_in_its_list}
use Rattle.irl_model.proofs.laws.buckets_are_judged_apart.Goals as goal

pub returns : goal.returns
returns c = judged_in_its_list
