use Rattle.std.proofs.Common.{[]}
use Rattle.irl_yard.proofs.Beside.{rest_stays_open}
use Rattle.irl_yard.proofs.yard.Yard.flush_some.Goals as goal

pub flush_some-requires-clause-long : goal.flush_some-requires-clause-long
flush_some-requires-clause-long g c = λ files told. c.args.self.now.long c.requires.sound.0 files told

pub invariant_of-self : goal.invariant_of-self
invariant_of-self g c = record {
  long = c.flush_some.ensures.goes_on.long;
  rest_is = rest_stays_open _ _ c.args.self.now.parts.rest (c.flush_some.ensures.schedules (λ b. [])).stays c.is_sound-is_sound.ensures.drum c.args.self.now.rest_is;
}
