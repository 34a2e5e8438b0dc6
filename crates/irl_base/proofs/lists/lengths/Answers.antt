use Rattle.std.proofs.Common.{◌∙◌}
use Rattle.irl_base.proofs.ListLemmas.{vec_lengths}
use Rattle.irl_base.proofs.lists.lengths.Goals as goal

pub returns : goal.returns
returns g c = c.in_ok-lengths.ensures ∙ vec_lengths c.args.lists.now
