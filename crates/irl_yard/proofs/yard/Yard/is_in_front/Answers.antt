use Rattle.std.proofs.Common.{◌∙◌, refl, sym}
use Rattle.irl_yard.proofs.MayAsk.{in_front}
use Rattle.irl_yard.proofs.yard.Yard.is_in_front.Goals as goal

pub returns-in-Front : goal.returns-in-Front
returns-in-Front g c = (λ yes. in_front c.args.self.now.parts.rest c.args.number (sym c.fate.ensures.value ∙ c.in-Front.is), λ has. refl)
