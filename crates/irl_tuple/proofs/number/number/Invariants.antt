use Rattle.std.proofs.Common.{◌≡◌, ◌<◌, ◌^◌, true, take}
use Rattle.std.specs.List.{list_all}
use Rattle.std.specs.Str.Parse.{digits_value}
use Rattle.irl_tuple.specs.Tuples.{is_digit_of}
use Rattle.irl_tuple.proofs.number.number.Given as goal

-- those so far are digits, and this is their number
abbrev pub invariant-loop-byte : goal.invariant-loop-byte
invariant-loop-byte l = record {
  digits : list_all (is_digit_of l.radix) (take l.byte-index l.digits) ≡ true;
  value : l.number ≡ digits_value l.radix (take l.byte-index l.digits);
  fits : l.number < 2 ^ 64;
}
