use Rattle.std.proofs.Common.{◌∙◌, ℕ, ◌+◌, Err, ap, subst}
use Rattle.std.proofs.lemmas.Result.{err_from_is_err_and}
use Rattle.irl_bay.specs.JudgedParts.{as_judged}
use Rattle.irl_ledger.proofs.ToldPairs.{ToldSome, tells_err, told_few, told_then}
use Rattle.irl_ledger.proofs.telling.tell_part.Goals as goal

pub returns-in_err-tell_one : goal.returns-in_err-tell_one
returns-in_err-tell_one c =
    let part = c.args.part.now in
    let i = c.loop-i.i in
    let one = as_judged c.get.result in
    let out = err_from_is_err_and c.from_residual.result c.from_residual.ensures.1 in
    tells_err c.from_residual.result _ part (i + c.tell_one.ensures.count) c.args.frontier.now c.tell_one.new.frontier (out.1 ∙ ap (λ e. Err e) out.2)
    (told_then c.tell_one.result part i one c.args.frontier.now c.loop-i.frontier c.tell_one.new.frontier c.get.ensures c.loop-i.invariant c.tell_one.ensures)
    (told_few c.tell_one.result part i one c.loop-i.frontier c.tell_one.new.frontier c.get.ensures c.tell_one.ensures)

pub loop-i-preserved : goal.loop-i-preserved
loop-i-preserved c =
    let part = c.args.part.now in
    let i = c.loop-i.i in
    let one = as_judged c.get.result in
    subst (λ (n : ℕ). ToldSome part (i + n) c.args.frontier.now c.tell_one.new.frontier) c.in_ok-tell_one.ensures.all
    (told_then _ part i one c.args.frontier.now c.loop-i.frontier c.tell_one.new.frontier c.get.ensures c.loop-i.invariant c.in_ok-tell_one.ensures)
