use Rattle.std.proofs.Common.{Option, IfSome, subst}
use Rattle.irl_yard.specs.Looking.{LooksMade}
use Rattle.irl_yard.specs.declared.parts.Parts.{Parts}
use Rattle.irl_yard.proofs.Looking.{asked_of, own_agrees}
use Rattle.irl_yard.proofs.yard.Yard.look.Goals as goal

-- what was found is an open store, for whoever asks for its settings
pub invariant_of-result : goal.invariant_of-result
invariant_of-result g c =
    let tells = g.S.Store.told in
    let parts = c.in-Ok-Some.parts in
    let made = subst (λ (found : Option Parts). IfSome found (λ it. LooksMade it (tells c.args.store) (tells c.parts_of.new.store))) c.in-Ok-Some.field-0-is c.in-Ok-Some.ensures.made in
    let yard = made.opens (asked_of parts.urls.settings) (own_agrees parts.urls.settings) in
    record { long = λ sound files told. yard.long files told; rest_is = yard.rest }
