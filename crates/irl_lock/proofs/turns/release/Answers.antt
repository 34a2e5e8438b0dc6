use Rattle.irl_lock.proofs.ClaimSteps.{lies_back}
use Rattle.irl_lock.proofs.turns.release.Goals as goal

pub give_back-requires-clause-held : goal.give_back-requires-clause-held
give_back-requires-clause-held g c = lies_back _ c.args.held c.args.token.now.me _ c.requires.turn c.exchange-empty.ensures.3
