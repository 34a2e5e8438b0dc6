use Rattle.std.proofs.Common.{◌∙◌, refl, sym}
use Rattle.irl_yard.proofs.Beside.{rest_same}
use Rattle.irl_yard.proofs.FrontStates.{front_state}
use Rattle.irl_yard.proofs.yard.Yard.front.Goals as goal

pub front-works-requires-clause-open_rest : goal.front-works-requires-clause-open_rest
front-works-requires-clause-open_rest g c = c.args.self.now.rest_is

pub front-works-requires-clause-long : goal.front-works-requires-clause-long
front-works-requires-clause-long g c = λ files told. c.args.self.now.long c.requires.sound.0 files told

pub invariant_of-self : goal.invariant_of-self
invariant_of-self g c = record {
  long = λ sound files told. c.args.self.now.long sound files (sym c.front-works.ensures.reads.reads.same ∙ told);
  rest_is = rest_same _ _ c.args.self.now.parts.urls c.args.self.now.parts.rest c.front-works.ensures.reads.reads.same c.args.self.now.rest_is;
}

pub returns-clause-states : goal.returns-clause-states
returns-clause-states g c =
    let self = c.args.self.now in
    front_state c.front-works.result (λ works. works.items) c.args.most (g.S.Store.told self.store) (g.S.Store.told c.front-works.new.store) self.parts _ c.is_sound-is_sound.ensures.drum
    (g.met.S.Store.is_consistent c.front-works.new.store) self.rest_is refl refl c.front-works.ensures.reads c.front-works.ensures.first c.front-works.ensures.plain
