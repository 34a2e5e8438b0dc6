use Rattle.std.proofs.Common.{not, nat_lt, ap, take, drop, ◌∙◌}
use Rattle.std.specs.Char.{digit_value}
use Rattle.irl_scan.specs.Reading.{radix_of}
use Rattle.irl_scan.proofs.Searches.{position_run}
use Rattle.irl_scan.proofs.reference.split_digits.Goals as goal

pub returns-clause-front : goal.returns-clause-front
returns-clause-front c =
    let run = position_run (λ b. not (nat_lt (digit_value b) (radix_of c.args.radix))) c.args.bytes.now c.digits_end-end.result c.digits_end-end.ensures in
    c.cut.ensures.front ∙ ap (λ n. take n c.args.bytes.now) c.unwrap_or.ensures ∙ run.front

pub returns-clause-back : goal.returns-clause-back
returns-clause-back c =
    let run = position_run (λ b. not (nat_lt (digit_value b) (radix_of c.args.radix))) c.args.bytes.now c.digits_end-end.result c.digits_end-end.ensures in
    c.cut.ensures.back ∙ ap (λ n. drop n c.args.bytes.now) c.unwrap_or.ensures ∙ run.back
