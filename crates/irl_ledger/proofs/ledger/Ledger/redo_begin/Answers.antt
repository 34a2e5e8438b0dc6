use Rattle.std.proofs.Common.{◌≡◌, ◌∙◌, ℕ, List, Some, Result, Ok, Err, refl, sym, ap, subst, rules}
use Rattle.std.proofs.lemmas.Result.{err_from_is_err_and}
use Rattle.irl_base.specs.declared.fault.Fault.{Fault}
use Rattle.irl_events.specs.Events.{Event, Begin}
use Rattle.irl_events.specs.Seen.{seen}
use Rattle.irl_ledger.specs.declared.ledger.Ledger.{Ledger}
use Rattle.irl_ledger.specs.Redoing.{Redoes, RedoesOther}
use Rattle.irl_ledger.proofs.Opening.{next_begin, next_books, other_done, other_refused, redoes_alone, redone_begin}
use Rattle.irl_ledger.proofs.ledger.Ledger.redo_begin.Goals as goal

pub returns-in_err-redo_other : goal.returns-in_err-redo_other
returns-in_err-redo_other g c =
    let store = g.S.Store.told c.args.store.now in
    let urls = c.args.urls.now in
    let old = c.args.self.now in
    let new = c.redo_other.new.self in
    let suffixes = c.args.suffixes.now in
    let out = err_from_is_err_and c.from_residual.result c.from_residual.ensures.1 in
    let fault = c.in_err-redo_other.field-0.0 in
    let is : c.from_residual.result ≡ Err fault = out.1 ∙ ap (λ e. Err e) out.2 in
    let other = subst (λ (r : Result Unit Fault). RedoesOther r c.args.at (Begin suffixes) old new) (c.in_err-redo_other.was)
    (subst (λ (e : Event). RedoesOther c.redo_other.result c.args.at e old new) c.requires.is c.redo_other.ensures) in
    subst (λ (r : Result Unit Fault). Redoes r c.args.at (seen c.args.event.now) urls old new store store) (sym is)
    (subst (λ (e : Event). Redoes (Err fault) c.args.at e urls old new store store) (sym c.requires.is)
    (other_refused c.args.at (Begin suffixes) urls old store (g.met.S.Store.is_consistent c.args.store.now) fault new other refl
    (λ settings u p first more places next. next_books store urls old settings u p first more (Begin suffixes) places next)))

pub returns : goal.returns
returns g c =
    let store = g.S.Store.told c.args.store.now in
    let urls = c.args.urls.now in
    let old = c.args.self.now in
    let mid = c.redo_other.new.self in
    let new : Ledger = record mid { suffixes = Some c.in-Ok.read } in
    let suffixes = c.args.suffixes.now in
    let same : c.in-Ok.read ≡ suffixes = search rules in
    let is : new.suffixes ≡ Some suffixes = ap (λ (t : List ℕ). Some t) same in
    let other = subst (λ (e : Event). RedoesOther c.redo_other.result c.args.at e old mid) c.requires.is c.redo_other.ensures in
    let done = (subst (λ (r : Result Unit Fault). RedoesOther r c.args.at (Begin suffixes) old mid) c.in_ok-redo_other.was other).done in
    let frontier = ap (λ (l : Ledger). l.frontier) done in
    let pairs = ap (λ (l : Ledger). l.pairs) done in
    subst (λ (e : Event). Redoes (Ok (tt {0})) c.args.at e urls old new store store) (sym c.requires.is)
    (redoes_alone c.args.at (Begin suffixes) urls old store (g.met.S.Store.is_consistent c.args.store.now) (Ok (tt {0})) new pairs (ap (λ (l : Ledger). l.log) done)
    (redone_begin urls old new suffixes c.requires.may.redone pairs frontier is)
    (λ settings u p first more places next. next_begin store urls old new settings u p first more suffixes places c.keeps.ensures next frontier is)
    (other_done urls old.pairs (Begin suffixes) old.frontier new.frontier (subst (λ (r : Result Unit Fault). RedoesOther r c.args.at (Begin suffixes) old mid) c.in_ok-redo_other.was other).legal refl
    frontier tt)
    (λ f place named. absurd (cc)) (λ n named. cc) (λ named. cc))
