use Rattle.irl_disk.proofs.Clones.{files_from_clone}
use Rattle.irl_disk.proofs.log.Log.begun.Goals as goal

pub invariant_of-result : goal.invariant_of-result
invariant_of-result c = λ f. rw c.new.ensures.items (files_from_clone c.args.first.entries _ c.in_ok-clone.ensures.cases f)
