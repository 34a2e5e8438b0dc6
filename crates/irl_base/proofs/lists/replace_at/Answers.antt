use Rattle.std.proofs.Common.{refl}
use Rattle.irl_base.proofs.ListLemmas.{set_vec}
use Rattle.irl_base.proofs.lists.replace_at.Goals as goal

pub returns-clause-lists : goal.returns-clause-lists
returns-clause-lists g c = set_vec c.args.lists.now.items c.args.at c.args.list c.args.list.items refl
