use Rattle.std.proofs.Common.{◌∙◌, List, ℕ, Option, ap}
use Rattle.std.specs.Prelude.{is_some}
use Rattle.irl_yard.proofs.MayAsk.{begins_known, begun_known, copied_some}
use Rattle.irl_yard.proofs.yard.Yard.has_begun.Goals as goal

pub returns-clause-value : goal.returns-clause-value
returns-clause-value g c =
    let self = c.args.self.now in
    begun_known self.parts.urls self.parts.rest (g.S.Store.told self.store).files self.rest_is c.is_some.result
    (c.is_some.ensures ∙ copied_some c.suffixes.result ∙ ap (λ (x : Option (List ℕ)). is_some x) c.suffixes.ensures.value)

pub returns-clause-begins : goal.returns-clause-begins
returns-clause-begins g c =
    let self = c.args.self.now in
    begins_known self.parts.urls self.parts.rest (g.S.Store.told self.store).files self.rest_is c.is_some.result
    (c.is_some.ensures ∙ copied_some c.suffixes.result ∙ ap (λ (x : Option (List ℕ)). is_some x) c.suffixes.ensures.value)
