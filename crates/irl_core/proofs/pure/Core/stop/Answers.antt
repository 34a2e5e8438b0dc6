use Rattle.irl_base.specs.Lists.{items_of}
use Rattle.irl_core.proofs.Effects.{keeps_none}
use Rattle.irl_core.proofs.pure.Core.stop.Goals as goal

pub invariant_of-self : goal.invariant_of-self
invariant_of-self c =
    record {
      core = keeps_none c.self.inside c.args.self.now (items_of c.empty_all.new.lists.items) c.self.invariant c.self.view_is c.empty_all.ensures;
      fates = c.self.invariant.fates;
      read = c.self.invariant.read;
      short = c.self.invariant.short;
      cut = c.self.invariant.cut;
    }
