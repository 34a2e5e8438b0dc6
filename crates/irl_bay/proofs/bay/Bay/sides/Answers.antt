use Rattle.std.proofs.Common.{ap, rules}
use Rattle.irl_cache.specs.Reading.{Reader, read_of}
use Rattle.irl_bay.proofs.Judges.{nothing_merged}
use Rattle.irl_bay.proofs.bay.Bay.sides.Goals as goal

pub returns : goal.returns
returns c = record {
  none = λ told. nothing_merged told _ (ap (λ (r : Reader). r.block) c.in_ok-new.ensures.value) (c.in_ok-new.ensures.read told) (c.in_ok-new-2.ensures.written told);
  of = search rules;
  unread = ap (λ (r : Reader). read_of r) c.in_ok-new.ensures.value;
}
