use Rattle.std.proofs.Common.{◌<◌, ◌∙◌, ℕ, length, sym, ap, rules}
use Rattle.std.specs.Prelude.{Vec}
use Rattle.irl_base.proofs.ListLemmas.{set_vec, at_vec}
use Rattle.irl_events.proofs.plain.replaced.Goals as goal

pub returns-clause-old : goal.returns-clause-old
returns-clause-old c =
    let within : c.args.at < length c.args.lists.now.items = search rules in
    ap (λ (v : Vec ℕ _). v.items) (c.replace.ensures.value ∙ c.index_mut.ensures.value)
    ∙ sym (at_vec c.args.lists.now.items c.args.at c.index_mut.result.now within)

pub returns-clause-lists : goal.returns-clause-lists
returns-clause-lists c =
    set_vec c.args.lists.now.items c.args.at c.replace.new.dest _ (ap (λ (v : Vec ℕ _). v.items) c.replace.ensures.after)
