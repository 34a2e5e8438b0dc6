use Rattle.std.proofs.Common.{◌∙◌, Ok, ap}
use Rattle.std.proofs.lemmas.Result.{IfOk-at_ok, err_from_is_err_and}
use Rattle.irl_crawl.proofs.Deals.{adds_one, adds_refused}
use Rattle.irl_crawl.proofs.dealing.read_note.Goals as goal

pub returns-in_err-note-clause-adds : goal.returns-in_err-note-clause-adds
returns-in_err-note-clause-adds g c =
    let out = err_from_is_err_and c.from_residual.result c.from_residual.ensures.1 in
    adds_refused c.robots.result c.args.host.now c.now-now.result c.args.yard.now.parts c.robots.new.self.parts (g.S.Store.told c.args.yard.now.store) (g.S.Store.told c.robots.new.self.store)
    (g.met.S.Store.is_consistent c.robots.new.self.store) c.robots.ensures.note c.robots.ensures.goes_on c.from_residual.result c.in_err-note.field-0.0 out.0 c.args.notes.now.items c.in_err-note.was
    out.1 out.2

pub returns-clause-adds : goal.returns-clause-adds
returns-clause-adds g c =
    let pushed = IfOk-at_ok _ c.in_ok-keep.was c.keep.ensures.ok in
    adds_one c.robots.result c.args.host.now c.now-now.result c.args.yard.now.parts c.robots.new.self.parts (g.S.Store.told c.args.yard.now.store) (g.S.Store.told c.robots.new.self.store)
    (g.met.S.Store.is_consistent c.robots.new.self.store) c.robots.ensures.note c.robots.ensures.goes_on c.in-Some.note c.args.notes.now.items c.keep.new.items.items
    (c.in_ok-note.was ∙ ap (λ found. Ok found) c.in-Some.is) pushed
