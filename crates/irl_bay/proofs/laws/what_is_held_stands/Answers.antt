use Rattle.irl_bay.proofs.Standing.{holds_stands, holds_long}
use Rattle.irl_bay.proofs.laws.what_is_held_stands.Goals as goal

pub returns-clause-stands : goal.returns-clause-stands
returns-clause-stands g c = λ book image law holds left. holds_stands _ c.args.bay.now book image law holds left

pub returns-clause-long : goal.returns-clause-long
returns-clause-long g c = λ book files holds told. holds_long (g.S.Store.told c.args.store.now) c.args.bay.now book files (g.met.S.Store.is_consistent c.args.store.now) holds told
