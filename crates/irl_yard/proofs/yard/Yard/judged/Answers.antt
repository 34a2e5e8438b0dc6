use Rattle.std.proofs.Common.{◌∙◌, sym, refl, rules}
use Rattle.std.proofs.lemmas.Result.{IfOk-weaker}
use Rattle.irl_yard.proofs.Beside.{rest_same, state_same}
use Rattle.irl_yard.proofs.Holding.{stops_same}
use Rattle.irl_yard.proofs.yard.Yard.judged.Goals as goal

pub judged-found-requires-clause-long : goal.judged-found-requires-clause-long
judged-found-requires-clause-long g c = λ files told. c.args.self.now.long c.requires.sound.0 files told

pub invariant_of-self : goal.invariant_of-self
invariant_of-self g c = record {
  long = λ sound files told. c.args.self.now.long sound files (sym c.judged-found.ensures.reads.reads.same ∙ told);
  rest_is = rest_same _ _ c.args.self.now.parts.urls c.args.self.now.parts.rest c.judged-found.ensures.reads.reads.same c.args.self.now.rest_is;
}

pub returns-clause-states : goal.returns-clause-states
returns-clause-states g c =
    let old = g.S.Store.told c.args.self.now.store in
    let new = g.S.Store.told c.judged-found.new.store in
    let parts = c.args.self.now.parts in
    let law = c.is_sound-is_sound.ensures.drum in
    let found = c.judged-found.ensures.reads in
    record {
      value = IfOk-weaker c.judged-found.result _ _ (λ one gives files told state holds. gives files told state.urls holds.urls.urls_hold) found.value;
      whole = λ f at is files told state holds. found.whole f at is files told state.urls holds.urls.urls_hold;
      same = search rules;
      holds = λ state holds. state_same old new parts _ state law (g.met.S.Store.is_consistent c.judged-found.new.store) found.reads.stops c.args.self.now.rest_is refl refl holds;
      stops = λ state holds. stops_same old new parts.urls state law holds.urls found.reads.stops;
    }
