use Rattle.irl_disk.proofs.Logged.{made_is_now}
use Rattle.irl_disk.proofs.log.Log.attempt.Goals as goal

pub invariant_of-self : goal.invariant_of-self
invariant_of-self c =
    let e = c.make_entry.ensures in
    made_is_now c.make_entry.result c.args.call c.self.inside.first.entries c.self.inside.entries.items _ _ _ c.self.invariant e.done e.files e.not_done e.kept
