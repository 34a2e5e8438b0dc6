use Rattle.std.proofs.Common.{sym, ap, arith, append-nil, refl}
use Rattle.std.specs.Int.{w64, to_le_bytes}
use Rattle.irl_log.proofs.Pieces.{draft, next_fits, next_put, all_put}
use Rattle.irl_log.proofs.codec.spelling.put_numbers.Goals as goal

pub loop-number-init : goal.loop-number-init
loop-number-init c = ap (draft c.args.frame.now.room) (sym (append-nil c.args.frame.now.bytes))

pub put_number-requires : goal.put_number-requires
put_number-requires c =
    next_fits (to_le_bytes w64) 8 c.args.numbers.now c.args.frame.now.bytes c.args.frame.now.room c.loop-number.number-index c.loop-number.frame (λ n. refl) c.requires c.loop-number-test.true
    c.loop-number.invariant

pub loop-number-preserved : goal.loop-number-preserved
loop-number-preserved c =
    next_put (to_le_bytes w64) c.args.numbers.now c.args.frame.now.bytes c.args.frame.now.room c.loop-number.number-index 0 c.loop-number.frame c.put_number.new.frame c.loop-number-test.true
    c.loop-number.invariant c.put_number.ensures

pub returns : goal.returns
returns c =
    all_put (to_le_bytes w64) c.args.numbers.now c.args.frame.now.bytes c.args.frame.now.room c.loop-number.number-index c.loop-number.frame (omega (arith, c.loop-number-test.false))
    c.loop-number.invariant
