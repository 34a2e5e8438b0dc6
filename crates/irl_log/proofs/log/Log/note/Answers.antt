use Rattle.std.proofs.Common.{rules}
use Rattle.irl_disk.proofs.Effects.{reads_for}
use Rattle.irl_log.proofs.Noted.{finds, finds_other, finds_none, no_fault}
use Rattle.irl_log.proofs.log.Log.note.Goals as goal

pub returns-in_err-payload : goal.returns-in_err-payload
returns-in_err-payload g c =
    let told = g.S.Store.told in
    finds_none c.self.inside.journal c.self.inside.buckets c.args.self.now c.self.view_is c.args.at (told c.args.store.now) (told c.record.new.store) c.from_residual.result c.from_residual.ensures.0
    (λ place e. c.in_err-payload.ensures.damaged place (search rules)) (reads_for _ _ _ _ _ (λ e. search rules) c.in_err-payload.ensures.reads)

pub returns-in_default : goal.returns-in_default
returns-in_default g c =
    let told = g.S.Store.told in
    finds_other c.self.inside.journal c.self.inside.buckets c.args.self.now c.self.view_is c.args.at (told c.args.store.now) (told c.record.new.store) c.in_ok-payload.payload.items
    (rw c.deref.ensures.value at (c.in_ok-note.ensures.none c.in_default.is))
    c.in_ok-payload.ensures.found _ (no_fault _ _) c.in_ok-payload.ensures.reads

pub returns : goal.returns
returns g c =
    let told = g.S.Store.told in
    finds c.self.inside.journal c.self.inside.buckets c.args.self.now c.self.view_is c.args.at (told c.args.store.now) (told c.record.new.store) c.in_ok-payload.payload.items c.in-Some.note
    (rw c.deref.ensures.value at (rw c.in-Some.is at c.in_ok-note.ensures.found))
    c.in_ok-payload.ensures.found c.in_ok-payload.ensures.one _ (no_fault _ _) c.in_ok-payload.ensures.reads
