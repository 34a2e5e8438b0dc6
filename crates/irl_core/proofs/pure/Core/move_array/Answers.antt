use Rattle.irl_base.specs.Lists.{items_of}
use Rattle.irl_core.specs.Kept.{shown}
use Rattle.irl_core.specs.Steps.{course, judged_in}
use Rattle.irl_core.proofs.Effects.{keeps_list, judged_list, fates_more, keeps_short}
use Rattle.irl_core.proofs.pure.Core.move_array.Goals as goal

pub invariant_of-self-2 : goal.invariant_of-self-2
invariant_of-self-2 c =
    let a = c.self.inside in
    record {
      core = keeps_list c.self.inside c.args.self.now c.args.bucket (items_of c.move_to.new.arrays.items) (items_of c.move_to.new.lists.items) c.self.invariant c.self.view_is
          c.in_ok-move_to.ensures.arrays c.in_ok-move_to.ensures.lists;
      fates = fates_more a.fates (course (shown a)) (judged_in (shown a)) _ (judged_list a c.args.self.now c.args.bucket (items_of c.move_to.new.arrays.items) (items_of c.move_to.new.lists.items)
          c.self.invariant c.self.view_is c.in_ok-move_to.ensures.arrays c.in_ok-move_to.ensures.lists) c.self.invariant.fates;
      read = c.self.invariant.read;
      short = keeps_short c.self.inside c.args.self.now c.args.bucket (items_of c.move_to.new.lists.items) c.self.invariant c.self.view_is c.requires.may c.in_ok-move_to.ensures.lists;
      cut = c.self.invariant.cut;
    }
