use Rattle.irl_base.proofs.ListLemmas.{set_vec}
use Rattle.irl_core.proofs.lists.empty_at.Goals as goal

pub returns-clause-lists : goal.returns-clause-lists
returns-clause-lists c = set_vec c.args.lists.now.items c.args.at c.clear.new.self _ c.clear.ensures.items
