use Rattle.std.proofs.Common.{◌≡◌, ◌∙◌, false, Result, Err, rules, sym, ap, subst}
use Rattle.std.specs.Prelude.{is_some}
use Rattle.std.proofs.lemmas.Result.{err_from_is_err_and}
use Rattle.irl_base.specs.declared.fault.Fault.{Fault}
use Rattle.irl_base.specs.declared.fault.Fault.TheVariants.{Damaged}
use Rattle.irl_events.specs.Events.{Event}
use Rattle.irl_events.specs.Seen.{seen}
use Rattle.irl_disk.proofs.Effects.{reads_for}
use Rattle.irl_ledger.specs.Redoing.{Redoes}
use Rattle.irl_ledger.proofs.RedonePass.{fresh_refused, pass_done, pass_unbegun}
use Rattle.irl_ledger.proofs.ledger.Ledger.redo_pass.Goals as goal

pub returns-then-is_none : goal.returns-then-is_none
returns-then-is_none g c =
    let s = g.S.Store.told c.args.store.now in
    let urls = c.args.urls.now in
    let old = c.args.self.now in
    let none : is_some old.suffixes ≡ false = search rules in
    subst (λ (e : Event). Redoes (Err (Damaged 1 c.args.at)) c.args.at e urls old old s s) (sym c.requires.is)
    (pass_unbegun c.args.at c.args.judged urls old s (g.met.S.Store.is_consistent c.args.store.now) c.keeps.ensures c.requires.may.redone none)

pub returns-in_err-fresh : goal.returns-in_err-fresh
returns-in_err-fresh g c =
    let s = g.S.Store.told c.args.store.now in
    let t = g.S.Store.told c.fresh.new.store in
    let urls = c.args.urls.now in
    let old = c.args.self.now in
    let judged = c.args.judged in
    let out = err_from_is_err_and c.from_residual.result c.from_residual.ensures.1 in
    let fault = c.in_err-fresh.field-0.0 in
    let is : c.from_residual.result ≡ Err fault = out.1 ∙ ap (λ e. Err e) out.2 in
    subst (λ (r : Result Unit Fault). Redoes r c.args.at (seen c.args.event.now) urls old old s t) (sym is)
    (subst (λ (e : Event). Redoes (Err fault) c.args.at e urls old old s t) (sym c.requires.is)
    (fresh_refused c.args.at judged urls old s t c.fresh.result _ fault c.in_err-fresh.was c.fresh.ensures.reads))

pub returns : goal.returns
returns g c =
    let s = g.S.Store.told c.args.store.now in
    let t = g.S.Store.told c.fresh.new.store in
    let urls = c.args.urls.now in
    let old = c.args.self.now in
    let judged = c.args.judged in
    let items = c.deref.result.now in
    subst (λ (e : Event). Redoes c.redo_reading.result c.args.at e urls old c.redo_reading.new.self s t) (sym c.requires.is)
    (pass_done c.args.at judged urls old s t c.redo_reading.result c.redo_reading.new.self items c.keeps.ensures c.requires.may.redone
    (λ files told book holds. c.deref.ensures.value ∙ c.in_ok-fresh.ensures.reads.value files told book holds)
    (reads_for _ _ ⊥ s t (λ no. absurd no) c.in_ok-fresh.ensures.reads.reads) c.redo_reading.ensures)
