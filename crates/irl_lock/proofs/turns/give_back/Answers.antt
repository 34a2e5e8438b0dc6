use Rattle.std.proofs.Common.{rules}
use Rattle.irl_lock.proofs.ClaimSteps.{releases}
use Rattle.irl_lock.proofs.turns.give_back.Goals as goal

pub store-requires : goal.store-requires
store-requires g c = let h = c.requires.held in (search rules, search rules, releases _ _ _ _ _ h.0 (search rules) (search rules) h.1 h.2)
