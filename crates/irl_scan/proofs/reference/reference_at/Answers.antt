use Rattle.std.proofs.Common.{◌≤◌, sym, ◌∙◌, length, ap, arith}
use Rattle.std.proofs.lemmas.List.{length-drop}
use Rattle.irl_scan.proofs.References.{below_by}
use Rattle.irl_scan.proofs.reference.reference_at.Goals as goal
use Rattle.irl_scan.proofs.reference.reference_at.Goals.{then-starts_with-6, else-starts_with-6}

pub returns-then-starts_with-7-clause-shorter : goal.returns-then-starts_with-7-clause-shorter
returns-then-starts_with-7-clause-shorter c =
    let rest = c.args.rest.now in
    let cut = ap length c.cut-then-starts_with-7.ensures.back in
    let dropped = length-drop 3 rest in
    let some : 3 ≤ length rest = elim c.if-starts_with-6.branch [
      | then-starts_with-6 w ↦ c.starts_with-else-starts_with-5.ensures.bound w.if-starts_with-6.true
      | else-starts_with-6 w ↦ w.starts_with-else-starts_with-6.ensures.bound (sym w.value-is ∙ c.if-starts_with-7.true)
    ] in
    below_by c.number_at.result (λ x. length x.1.now) (length c.cut-then-starts_with-7.result.1.now) (length rest) (omega arith) c.number_at.ensures.shorter
