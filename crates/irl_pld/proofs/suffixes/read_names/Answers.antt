use Rattle.std.proofs.Common.{arith, sym, ap, length, ◌≡◌, rules}
use Rattle.irl_pld.proofs.CutLemmas.{length-lines}
use Rattle.irl_pld.proofs.ReadLemmas.{reads_more}
use Rattle.irl_pld.proofs.suffixes.read_names.Goals as goal

pub overflow_add-number : goal.overflow_add-number
overflow_add-number c =
    let count = c.loop-line.invariant.count in
    let left = ap length c.in-Some.ensures.steps in
    omega (arith, length-lines c.args.text.now)

pub loop-line-preserved : goal.loop-line-preserved
loop-line-preserved c =
    let steps = c.in-Some.ensures.steps in
    let same : c.in_ok-to_vec.field-0.items ≡ c.in-Some.line.now = search rules in
    reads_more c.loop-line.names c.insert.new.self c.in_ok-to_vec.field-0 c.args.text.now c.loop-line.number _ c.in-Some.line.now _ c.loop-line.invariant steps (sym c.if-not-is_name.ensures) same
    c.in_ok-insert.ensures.keys
