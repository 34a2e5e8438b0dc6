-- The digits from here on go on with the number so far.
use Rattle.std.proofs.Common.{◌≡◌, ◌<◌, drop}
use Rattle.irl_scan.specs.Reading.{radix_of, number_from}
use Rattle.irl_scan.proofs.reference.number_of.Given as goal

abbrev pub invariant-loop-byte : goal.invariant-loop-byte
invariant-loop-byte l = record {
  small : l.number < 128;
  goes_on : number_from (radix_of l.radix) l.number (drop l.byte-index l.digits) ≡ number_from (radix_of l.radix) 0 l.digits;
}
