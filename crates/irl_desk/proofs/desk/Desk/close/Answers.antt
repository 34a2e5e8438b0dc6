use Rattle.std.proofs.Common.{◌≡◌, None, rules, sym, subst}
use Rattle.irl_desk.specs.Closing.{Closes}
use Rattle.irl_desk.specs.Serving.{serving_of}
use Rattle.irl_desk.proofs.Answering.{closes_flushed}
use Rattle.irl_desk.proofs.desk.Desk.close.Goals as goal

pub returns : goal.returns
returns g c =
    let old = serving_of c.args.self in
    let does = c.flush_all-flushed.ensures in
    let now = c.flush_all-flushed.new.intake in
    let none : c.args.self.last ≡ None = search rules in
    subst (λ (y : _). Closes g.S.Store.told c.flush_all-flushed.result old y.store y.parts) (sym c.into_yard-2.ensures)
    (closes_flushed g.S.Store.told c.flush_all-flushed.result old now.yard.store now.yard.parts now.arrays.items none does.rest now.arrays_are does.goes_on does.steps does.emptied does.ordered)
