use Rattle.std.proofs.Common.{Err, sym, subst}
use Rattle.irl_head.specs.declared.open_fault.OpenFault.{OpenFault}
use Rattle.irl_yard.specs.Making.{RestMade}
use Rattle.irl_yard.proofs.RestMade.{no_crawl, crawl_made, crawl_refused, plain_made}
use Rattle.irl_yard.proofs.enter.make_rest.Goals as goal

-- a store of lines or of tuples
pub returns-in_ok-sync_rest-in-Lines : goal.returns-in_ok-sync_rest-in-Lines
returns-in_ok-sync_rest-in-Lines g c =
    let tells = g.S.Store.told in
    let call = c.sync_rest.ensures in
    let plain = no_crawl c.args.settings.now.kind c.in-Lines.is in
    plain_made c.args.settings.now _ (tells c.args.store.now) (tells c.sync_rest.new.store) plain c.requires.valid (g.met.S.Store.is_consistent c.sync_rest.new.store) c.requires.unmade
    c.in_ok-sync_rest-in-Lines.ensures.synced call.same call.stops call.taken call.cause

-- a store of a crawl
pub make-requires-clause-unmade : goal.make-requires-clause-unmade
make-requires-clause-unmade g c = λ files told. let are = c.requires.unmade files told in record { log = are.crawl; pairs = are.pairs }

pub returns-in-Ok : goal.returns-in-Ok
returns-in-Ok g c =
    let tells = g.S.Store.told in
    crawl_made c.make.result c.in-Ok.ledger c.args.settings.now c.args.store.now c.make.new.store (tells c.args.store.now) (tells c.make.new.store) c.in-Ok.is c.in-Crawl.is c.make.ensures

pub returns-in-Err : goal.returns-in-Err
returns-in-Err g c =
    let tells = g.S.Store.told in
    subst (λ (fault : OpenFault). RestMade (Err fault) c.args.settings.now (tells c.args.store.now) (tells c.make.new.store)) (sym c.bay_fault.ensures)
    (crawl_refused c.make.result c.in-Err.fault c.args.settings.now c.args.store.now c.make.new.store (tells c.args.store.now) (tells c.make.new.store) c.in-Err.is c.in-Crawl.is c.make.ensures)
