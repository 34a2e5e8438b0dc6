use Rattle.std.proofs.lemmas.Result.{err_from_is_err_and, IfOk-at_ok}
use Rattle.irl_fetch.specs.Telling.{offering}
use Rattle.irl_fetch.proofs.Paging.{settles_late, memory_kept}
use Rattle.irl_fetch.proofs.pages.settle.Goals as goal

pub returns-in_err-keep : goal.returns-in_err-keep
returns-in_err-keep g c =
    let o = offering g.O.Offers.entries g.O.Offers.last_fault g.O.Offers.takes g.O.Offers.follows c.args.sink.now in
    let p = offering g.O.Offers.entries g.O.Offers.last_fault g.O.Offers.takes g.O.Offers.follows c.offer_all.new.sink in
    let told = IfOk-at_ok _ c.in_ok-receipts.was c.offer_all.ensures.ok in
    let calm = IfOk-at_ok _ c.in_ok-receipts.was c.offer_all.ensures.fault.0 in
    let out = err_from_is_err_and c.from_residual-in_err-keep.result c.from_residual-in_err-keep.ensures.1 in
    settles_late c.from_residual-in_err-keep.result out.0 c.args.suffixes.now c.args.work.now c.args.answer.now o p c.args.done.now.items c.keep.new.items.items told.0 c.in_ok-found.found out.1
    told.1 c.in_ok-found.ensures told.3 (memory_kept o.last_fault p.last_fault out.0 out.2 calm)
