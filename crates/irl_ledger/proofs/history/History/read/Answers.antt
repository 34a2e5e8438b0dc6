use Rattle.std.proofs.Common.{Err, subst, sym}
use Rattle.irl_base.specs.declared.fault.Fault.{Fault}
use Rattle.irl_journal.specs.declared.fault.JournalFault.{JournalFault}
use Rattle.std.specs.Prelude.{Result}
use Rattle.irl_head.specs.StoreFiles.{crawl_file}
use Rattle.irl_log.specs.Log.{OpenLog}
use Rattle.irl_log.specs.Visiting.{OpensLog}
use Rattle.irl_ledger.specs.Broken.{RefusesAlone, TakesAlone}
use Rattle.irl_ledger.specs.Damage.{ReadsLog}
use Rattle.irl_ledger.proofs.Damage.{read_err, read_ok}
use Rattle.irl_ledger.proofs.history.History.read.Goals as goal

pub returns-in-Ok : goal.returns-in-Ok
returns-in-Ok g c =
    let tells = g.S.Store.told in
    read_ok c.args.settings.now c.in-Ok.log c.in_ok-history.history c.visit.new.visitor (tells c.args.store.now) (tells c.visit.new.store) (g.met.S.Store.is_consistent c.visit.new.store)
    c.in_ok-history.ensures
    (subst (λ (r : Result OpenLog JournalFault). OpensLog TakesAlone RefusesAlone r crawl_file c.args.settings.now.buckets c.in_ok-history.history c.visit.new.visitor (tells c.args.store.now)
    (tells c.visit.new.store)) c.in-Ok.is c.visit.ensures)

pub returns-in-Err : goal.returns-in-Err
returns-in-Err g c =
    let tells = g.S.Store.told in
    subst (λ (f : Fault). ReadsLog (Err f) c.args.settings.now (tells c.args.store.now) (tells c.visit.new.store)) (sym c.log_fault.ensures)
    (read_err c.args.settings.now c.visit.result c.in-Err.fault c.in_ok-history.history c.visit.new.visitor (tells c.args.store.now) (tells c.visit.new.store) c.in_ok-history.ensures c.in-Err.is
    c.visit.ensures)
