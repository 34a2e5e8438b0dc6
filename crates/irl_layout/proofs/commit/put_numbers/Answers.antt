use Rattle.std.proofs.Common.{◌∙◌, ◌++◌, ℕ, List, refl, ap, arith, take_all}
use Rattle.std.specs.List.{flat_map}
use Rattle.byteorder.specs.Endian.{little_bytes}
use Rattle.irl_layout.proofs.Numbers.{next_fits, next_put}
use Rattle.irl_layout.proofs.commit.put_numbers.Goals as goal

pub put_number-requires : goal.put_number-requires
put_number-requires c = next_fits (little_bytes 8) c.args.numbers.now c.args.frame.now.bytes c.args.frame.now.room c.loop-number.number-index c.loop-number.frame (λ x. refl) c.requires
    c.loop-number-test.true c.loop-number.invariant

pub loop-number-preserved : goal.loop-number-preserved
loop-number-preserved c = c.put_number.ensures ∙ next_put (little_bytes 8) c.args.numbers.now c.args.frame.now.bytes c.args.frame.now.room c.loop-number.number-index c.loop-number.frame
    c.loop-number-test.true c.loop-number.invariant

pub returns : goal.returns
returns c =
    c.loop-number.invariant ∙ ap (λ (numbers : List ℕ). record { room = c.args.frame.now.room; bytes = c.args.frame.now.bytes ++ flat_map (little_bytes 8) numbers })
    (take_all c.loop-number.number-index c.args.numbers.now (omega (arith, c.loop-number-test.false)))
