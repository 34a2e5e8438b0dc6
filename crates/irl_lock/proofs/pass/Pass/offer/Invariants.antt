use Rattle.std.proofs.Common.{◌≡◌}
use Rattle.irl_lock.proofs.Offering.{HoldsBin}
use Rattle.irl_lock.proofs.pass.Pass.offer.Given as goal

abbrev pub invariant-loop : goal.invariant-loop
invariant-loop g l = record {
  holds : HoldsBin l.fn.shared l.b l.fn.self l.self l.bin;
  offer : l.offer ≡ l.fn.offer;
}
