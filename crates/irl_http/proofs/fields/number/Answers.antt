-- Of at most 18 digits no number is large.
use Rattle.std.proofs.Common.{◌+◌, ◌∙◌, ap, arith}
use Rattle.std.specs.Str.Parse.{digits_value}
use Rattle.std.proofs.lemmas.List.{take_all}
use Rattle.irl_http.proofs.FieldLemmas.{one_more, stays_small}
use Rattle.irl_http.proofs.fields.number.Goals as goal

pub overflow_mul-n : goal.overflow_mul-n
overflow_mul-n c =
    let value = c.args.value.now in
    let i = c.loop-b.b-index in
    omega (arith, c.loop-b.invariant, one_more value i c.requires.digits c.loop-b-test.true, stays_small value (i + 1) c.requires.digits c.requires.short)

pub overflow_add-n : goal.overflow_add-n
overflow_add-n c =
    let value = c.args.value.now in
    let i = c.loop-b.b-index in
    omega (arith, c.loop-b.invariant, one_more value i c.requires.digits c.loop-b-test.true, stays_small value (i + 1) c.requires.digits c.requires.short)

pub loop-b-preserved : goal.loop-b-preserved
loop-b-preserved c =
    let value = c.args.value.now in
    let i = c.loop-b.b-index in
    omega (arith, c.loop-b.invariant, one_more value i c.requires.digits c.loop-b-test.true)

pub returns : goal.returns
returns c = c.loop-b.invariant ∙ ap (digits_value 10) (take_all c.loop-b.b-index c.args.value.now c.loop-b-test.false)
