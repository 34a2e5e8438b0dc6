use Rattle.irl_base.specs.Lists.{items_of}
use Rattle.irl_core.proofs.Effects.{keeps_offer}
use Rattle.irl_core.proofs.pure.Core.push.Goals as goal

pub invariant_of-self-2 : goal.invariant_of-self-2
invariant_of-self-2 c =
    record {
      core = keeps_offer c.self.inside c.args.self.now c.args.bucket c.args.offer (items_of c.push_at.new.lists.items) c.self.invariant c.self.view_is c.requires.may c.in_ok-push_at.ensures.ok;
      fates = c.self.invariant.fates;
      read = c.self.invariant.read;
      short = c.self.invariant.short;
      cut = c.self.invariant.cut;
    }
