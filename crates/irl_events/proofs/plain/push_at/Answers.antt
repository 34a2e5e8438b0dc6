use Rattle.std.proofs.Common.{◌<◌, ◌∙◌, ◌++◌, ◌∷◌, [], ℕ, List, length, sym, ap, rules}
use Rattle.std.specs.Prelude.{Vec}
use Rattle.irl_base.proofs.ListLemmas.{set_vec, at_vec}
use Rattle.irl_events.proofs.plain.push_at.Goals as goal

pub returns-clause-ok : goal.returns-clause-ok
returns-clause-ok c =
    let within : c.args.at < length c.args.lists.now.items = search rules in
    let old = c.index_mut.result.now in
    set_vec c.args.lists.now.items c.args.at c.push.new.self _
    (c.in_ok-push.ensures.items
    ∙ ap (λ (t : List ℕ). t ++ c.args.number ∷ []) (ap (λ (v : Vec ℕ _). v.items) c.index_mut.ensures.value ∙ sym (at_vec c.args.lists.now.items c.args.at old within)))
