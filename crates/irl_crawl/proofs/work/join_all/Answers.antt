use Rattle.std.proofs.Common.{◌∙◌, ◌∷◌, Err, Result, length, ap, arith}
use Rattle.std.specs.Vec.Iter.{into_iter_items}
use Rattle.std.proofs.lemmas.Result.{err_from_is_err_and, IfOk-at_ok}
use Rattle.irl_base.specs.declared.fault.Fault.{Fault}
use Rattle.irl_fetch.specs.declared.working.WorkLog.{WorkLog}
use Rattle.irl_crawl.proofs.AllWork.{joined_one, joined_refused}
use Rattle.irl_crawl.proofs.work.join_all.Goals as goal

pub returns-in_err-result : goal.returns-in_err-result
returns-in_err-result c =
    let rest = into_iter_items c.next.new.self in
    let out = err_from_is_err_and c.from_residual.result c.from_residual.ensures.1 in
    joined_refused c.from_residual.result _ c.loop-result.whole (into_iter_items c.loop-result.results) rest c.args.results.items c.loop-result.invariant.joined
    (c.in-Some.ensures.items ∙ ap (λ (r : Result WorkLog Fault). r ∷ rest) c.in_err-result.was) (out.1 ∙ ap (λ (f : Fault). Err f) out.2)

pub loop-result-preserved : goal.loop-result-preserved
loop-result-preserved c =
    let rest = into_iter_items c.next.new.self in
    let joined = IfOk-at_ok _ c.in_ok-join.was c.join.ensures in
    record {
      joined = joined_one c.loop-result.whole c.in_ok-result.field-0 c.join.new.whole (into_iter_items c.loop-result.results) rest c.args.results.items c.loop-result.invariant.joined
          (c.in-Some.ensures.items ∙ ap (λ (r : Result WorkLog Fault). r ∷ rest) c.in_ok-result.was) joined.0 joined.1;
      long = omega (arith, c.in-Some.ensures.cases.1, c.loop-result.invariant.long, ap length c.in-Some.ensures.items);
    }
