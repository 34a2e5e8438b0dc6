use Rattle.std.proofs.Common.{refl, sym, subst}
use Rattle.irl_events.specs.Events.{Event, Robots}
use Rattle.irl_ledger.specs.Redoing.{Redoes, RedoesOther}
use Rattle.irl_ledger.proofs.Opening.{next_books, redoes_other, redone_note}
use Rattle.irl_ledger.proofs.ledger.Ledger.redo_note.Goals as goal

pub returns : goal.returns
returns g c =
    let store = g.S.Store.told c.args.store.now in
    let urls = c.args.urls.now in
    let old = c.args.self.now in
    let note = c.args._note.now in
    subst (λ (e : Event). Redoes c.redo_other.result c.args.at e urls old c.redo_other.new.self store store) (sym c.requires.is)
    (redoes_other c.args.at (Robots note) urls old store (g.met.S.Store.is_consistent c.args.store.now) c.redo_other.result c.redo_other.new.self
    (subst (λ (e : Event). RedoesOther c.redo_other.result c.args.at e old c.redo_other.new.self) c.requires.is c.redo_other.ensures) refl refl tt
    (λ settings u p first more places next. next_books store urls old settings u p first more (Robots note) places next)
    (λ legal. redone_note urls old note legal c.requires.may.redone))
