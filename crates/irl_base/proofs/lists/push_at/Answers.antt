use Rattle.std.proofs.Common.{◌<◌, ◌++◌, ◌∷◌, [], length, rules}
use Rattle.irl_base.proofs.ListLemmas.{on_err, changed_vec, same_vec}
use Rattle.irl_base.proofs.lists.push_at.Goals as goal

pub returns-clause-ok : goal.returns-clause-ok
returns-clause-ok g c =
    let within : c.args.at < length c.args.lists.now.items = search rules in
    changed_vec c.args.lists.now.items c.args.at c.push.new.self c.index_mut.result.now (λ t. t ++ c.args.item ∷ []) within c.index_mut.ensures.value c.in_ok-push.ensures.items

pub returns-in_err-push-clause-err : goal.returns-in_err-push-clause-err
returns-in_err-push-clause-err g c =
    let within : c.args.at < length c.args.lists.now.items = search rules in
    on_err c.from_residual.result _
    (same_vec c.args.lists.now.items c.args.at c.push.new.self c.index_mut.result.now within c.index_mut.ensures.value c.in_err-push.ensures.items)
