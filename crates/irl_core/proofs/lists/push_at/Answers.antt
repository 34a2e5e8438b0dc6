use Rattle.std.proofs.Common.{◌∙◌, ◌∷◌, [], sym}
use Rattle.irl_base.specs.Lists.{items_of}
use Rattle.irl_model.proofs.Flushes.{flushed_lists-set}
use Rattle.irl_core.proofs.lists.push_at.Goals as goal

pub returns-clause-ok : goal.returns-clause-ok
returns-clause-ok c = c.in_ok-push_at.ensures.ok ∙ sym (flushed_lists-set c.args.at (c.args.offer ∷ []) (items_of c.args.lists.now.items))
