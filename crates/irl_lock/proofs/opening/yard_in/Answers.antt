use Rattle.std.proofs.Common.{◌∙◌, ◌++◌, ◌∷◌, [], Some, refl, sym, ap}
use Rattle.irl_lock.specs.declared.held.Held.TheVariants.{InYard}
use Rattle.irl_lock.proofs.Laying.{same_ends}
use Rattle.irl_lock.proofs.opening.yard_in.Goals as goal

pub stand_in-yard-requires : goal.stand_in-yard-requires
stand_in-yard-requires g c =
    let both = same_ends c.pop.new.self.items c.requires.bins c.in-Some.last (Some (InYard c.requires.stand)) (sym c.in-Some.ensures.items ∙ c.requires.slots_are) in
    (c.requires.stand, both.1)

pub returns : goal.returns
returns g c =
    (c.pop.new.self.items, c.stand_in-yard.result, c.in-Some.ensures.items ∙ ap (λ x. c.pop.new.self.items ++ x ∷ []) c.stand_in-yard.ensures, refl)
