use Rattle.irl_model.proofs.Merges.{judged_count}
use Rattle.irl_model.proofs.laws.a_cut_counts_the_judged.Goals as goal

pub returns : goal.returns
returns c = judged_count
