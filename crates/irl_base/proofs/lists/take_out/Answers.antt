use Rattle.std.proofs.Common.{◌∙◌, ap}
use Rattle.std.specs.Prelude.{Vec}
use Rattle.irl_base.proofs.ListLemmas.{set_vec}
use Rattle.irl_base.proofs.lists.take_out.Goals as goal

pub returns-clause-left : goal.returns-clause-left
returns-clause-left g c =
    set_vec c.args.lists.now.items c.args.at c.replace.new.dest _ (ap (λ (v : Vec _ _). v.items) c.replace.ensures.after ∙ c.new.ensures.items)
