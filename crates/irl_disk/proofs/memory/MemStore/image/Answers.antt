use Rattle.irl_disk.proofs.Replayed.{part_is_image}
use Rattle.irl_disk.specs.MemoryLaws.{sound_states_at}
use Rattle.irl_disk.proofs.memory.MemStore.image.Goals as goal

pub returns-clause-image : goal.returns-clause-image
returns-clause-image c = λ f. part_is_image c.args.part _ _ (sound_states_at _ c.args.self.now.log f) (rw (c.in_ok-begun.ensures.first, c.in_ok-begun.ensures.entries) (c.in_ok-files.ensures f))
