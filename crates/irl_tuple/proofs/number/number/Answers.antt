use Rattle.std.proofs.Common.{◌+◌, ◌^◌, ◌<◌, ◌≤◌, length, take, get_or, refl, sym, ◌∙◌, arith}
use Rattle.std.specs.Char.{digit_value}
use Rattle.std.specs.Str.Parse.{digits_value}
use Rattle.irl_tuple.proofs.NumberLemmas.{digit_is, number_more, digits_more, number_fails, number_is}
use Rattle.irl_tuple.proofs.number.number.Goals as goal

pub returns-in_err-shifted : goal.returns-in_err-shifted
returns-in_err-shifted c =
    let bs = c.args.digits.now in
    let i = c.loop-byte.byte-index in
    let more = number_more c.args.radix bs i c.loop-byte.number c.from.result (digit_value (get_or bs i 0)) (omega (arith, c.loop-byte-test.true)) c.loop-byte.invariant.value c.from.ensures refl in
    let great : 2 ^ 64 ≤ digits_value c.args.radix (take (i + 1) bs) = omega (arith, more, c.in_err-shifted.ensures) in
    c.from_residual-in_err-shifted.ensures ∙ sym (number_fails c.args.radix bs (i + 1) (omega (arith, c.requires.low)) great)

pub returns-in_err-number : goal.returns-in_err-number
returns-in_err-number c =
    let bs = c.args.digits.now in
    let i = c.loop-byte.byte-index in
    let here = digit_is _ _ _ c.in_ok-digit.ensures in
    let more = number_more c.args.radix bs i c.loop-byte.number c.from.result c.in_ok-digit.digit (omega (arith, c.loop-byte-test.true)) c.loop-byte.invariant.value c.from.ensures here.1 in
    let great : 2 ^ 64 ≤ digits_value c.args.radix (take (i + 1) bs) = omega (arith, more, c.in_ok-shifted.ensures, c.from-in-loop-byte.ensures, c.in_err-number.ensures) in
    c.from_residual-in_err-number.ensures ∙ sym (number_fails c.args.radix bs (i + 1) (omega (arith, c.requires.low)) great)

pub loop-byte-preserved : goal.loop-byte-preserved
loop-byte-preserved c =
    let bs = c.args.digits.now in
    let i = c.loop-byte.byte-index in
    let inside : i < length bs = omega (arith, c.loop-byte-test.true) in
    let here = digit_is _ _ _ c.in_ok-digit.ensures in
    let more = number_more c.args.radix bs i c.loop-byte.number c.from.result c.in_ok-digit.digit inside c.loop-byte.invariant.value c.from.ensures here.1 in
    record {
      digits = digits_more c.args.radix bs i inside c.loop-byte.invariant.digits here.0;
      value = omega (arith, more, c.in_ok-shifted.ensures, c.from-in-loop-byte.ensures, c.in_ok-number.ensures);
      fits = omega (arith, c.in_ok-number.ensures);
    }

pub returns : goal.returns
returns c = number_is c.args.radix c.args.digits.now c.loop-byte.byte-index c.loop-byte.number (omega (arith, c.loop-byte-test.false)) c.loop-byte.invariant.digits c.loop-byte.invariant.value
    c.loop-byte.invariant.fits
