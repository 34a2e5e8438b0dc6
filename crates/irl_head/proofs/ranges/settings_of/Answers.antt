use Rattle.std.proofs.Common.{◌≤◌, refl, arith}
use Rattle.std.specs.Prelude.{slice_index}
use Rattle.irl_head.proofs.SettingNumbers.{count_small, eleven}
use Rattle.irl_head.proofs.ranges.settings_of.Goals as goal

pub rule_of-requires : goal.rule_of-requires
rule_of-requires c = (c.requires 2 (omega arith) (omega arith)).rule refl

pub overflow_cast-result : goal.overflow_cast-result
overflow_cast-result c = let small : slice_index c.args.numbers.now 2 ≤ 64 = count_small (slice_index c.args.numbers.now 2) ((c.requires 3 (omega arith) (omega arith)).buckets refl) in
    omega (arith, small)

pub overflow_cast-result-2 : goal.overflow_cast-result-2
overflow_cast-result-2 c = let small = (c.requires 4 (omega arith) (omega arith)).array refl in omega (arith, small.1)

pub overflow_cast-result-3 : goal.overflow_cast-result-3
overflow_cast-result-3 c = let small = (c.requires 5 (omega arith) (omega arith)).trigger refl in omega (arith, small.1)

pub overflow_cast-result-4 : goal.overflow_cast-result-4
overflow_cast-result-4 c = let small = (c.requires 6 (omega arith) (omega arith)).block refl in omega (arith, small.1)

pub overflow_cast-result-5 : goal.overflow_cast-result-5
overflow_cast-result-5 c = let small = (c.requires 8 (omega arith) (omega arith)).queues refl in omega (arith, small.1)

pub overflow_cast-result-6 : goal.overflow_cast-result-6
overflow_cast-result-6 c = let small = (c.requires 9 (omega arith) (omega arith)).least refl in omega (arith, small.1)

pub overflow_cast-result-7 : goal.overflow_cast-result-7
overflow_cast-result-7 c = let small = (c.requires 10 (omega arith) (omega arith)).most refl in omega (arith, small.1)

pub returns : goal.returns
returns c =
    let kind = c.kind_of.ensures in
    let rule = c.rule_of.ensures in
    rw (kind, rule) (eleven c.args.numbers.now (c.told-numbers))
