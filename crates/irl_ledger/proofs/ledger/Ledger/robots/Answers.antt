use Rattle.std.proofs.Common.{◌≡◌, ◌∙◌, None, Some, Result, Err, sym, subst}
use Rattle.std.specs.FinMap.{get}
use Rattle.irl_base.specs.declared.fault.Fault.{Fault}
use Rattle.irl_offer.specs.declared.note.Note.{Note}
use Rattle.irl_journal.specs.declared.fault.JournalFault.{JournalFault}
use Rattle.irl_log.specs.Noting.{FindsNote}
use Rattle.irl_ledger.specs.Noting.{ReadsNote}
use Rattle.irl_ledger.proofs.ReadNotes.{no_note_read, note_read, note_refused}
use Rattle.irl_ledger.proofs.ledger.Ledger.robots.Goals as goal

pub returns-in_default : goal.returns-in_default
returns-in_default g c =
    let self = c.args.self.now in
    let none : get self.notes c.args.host.now ≡ None = sym c.place.ensures ∙ c.in_default.is in
    no_note_read self.log self.notes c.args.host.now (g.S.Store.told c.args.store.now) (g.met.S.Store.is_consistent c.args.store.now) c.requires.file c.args.moment none

pub returns-in-Ok : goal.returns-in-Ok
returns-in-Ok g c =
    let self = c.args.self.now in
    let s = g.S.Store.told c.args.store.now in
    let t = g.S.Store.told c.note.new.store in
    let some : get self.notes c.args.host.now ≡ Some c.in-Some.at = sym c.place.ensures ∙ c.in-Some.is in
    let finds = subst (λ (r : Result Note JournalFault). FindsNote r self.log c.in-Some.at s t) c.in-Ok.is c.note.ensures in
    note_read self.log self.notes c.args.host.now s (g.met.S.Store.is_consistent c.args.store.now) c.requires.file c.in-Some.at c.args.moment t some c.in-Ok.note c.used_at.result finds
    c.used_at.ensures

pub returns-in-Err : goal.returns-in-Err
returns-in-Err g c =
    let self = c.args.self.now in
    let s = g.S.Store.told c.args.store.now in
    let t = g.S.Store.told c.note.new.store in
    let some : get self.notes c.args.host.now ≡ Some c.in-Some.at = sym c.place.ensures ∙ c.in-Some.is in
    let finds = subst (λ (r : Result Note JournalFault). FindsNote r self.log c.in-Some.at s t) c.in-Err.is c.note.ensures in
    subst (λ (e : Fault). ReadsNote (Err e) c.args.host.now c.args.moment self.log self.notes s t) (sym c.log_fault.ensures)
    (note_refused self.log self.notes c.args.host.now s (g.met.S.Store.is_consistent c.args.store.now) c.requires.file c.in-Some.at c.args.moment t some c.in-Err.fault finds)
