use Rattle.std.proofs.Common.{◌≡◌, [], ◌∷◌, ◌++◌, false, arith}
use Rattle.std.proofs.lemmas.Grind.{common_steps}
use Rattle.irl_disk.proofs.Logged.{marked}
use Rattle.irl_disk.proofs.log.make_entry.Goals as goal

pub returns-in-Ok-clause-done : goal.returns-in-Ok-clause-done
returns-in-Ok-clause-done c =
    let pushed : c.push.new.self.items ≡ c.args.entries.now.items ++ record { call = c.args.call; is_done = false } ∷ [] = grind (arith, common_steps) in
    marked c.args.call c.args.entries.now.items _ _ c.index_mut.result.now _ pushed (omega arith) c.index_mut.ensures.value c.in-Ok.ensures.done
