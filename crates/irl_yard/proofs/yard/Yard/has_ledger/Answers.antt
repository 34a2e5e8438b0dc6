use Rattle.irl_yard.proofs.Begun.{ledger_in}
use Rattle.irl_yard.proofs.yard.Yard.has_ledger.Goals as goal

pub returns : goal.returns
returns g c = λ kind. let self = c.args.self.now in ledger_in self.parts.urls self.parts.rest (g.S.Store.told self.store).files self.rest_is kind
