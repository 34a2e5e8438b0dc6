use Rattle.std.proofs.Common.{◌<◌, length, take, rules}
use Rattle.irl_base.proofs.ListLemmas.{changed_vec}
use Rattle.irl_base.proofs.lists.cut_at.Goals as goal

pub returns-clause-lists : goal.returns-clause-lists
returns-clause-lists g c =
    let within : c.args.at < length c.args.lists.now.items = search rules in
    changed_vec c.args.lists.now.items c.args.at c.truncate.new.self c.index_mut.result.now (take c.args.len) within c.index_mut.ensures.value c.truncate.ensures.items
