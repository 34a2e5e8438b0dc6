use Rattle.std.proofs.Common.{◌∙◌, refl, sym}
use Rattle.irl_ledger.proofs.Reading.{found_as}
use Rattle.irl_yard.proofs.Adding.{is_open}
use Rattle.irl_yard.proofs.Beside.{rest_same}
use Rattle.irl_yard.proofs.PassStates.{are_fresh, reads_state}
use Rattle.irl_yard.proofs.yard.Yard.read_fresh.Goals as goal

pub fresh-fresh-requires-clause-sent : goal.fresh-fresh-requires-clause-sent
fresh-fresh-requires-clause-sent g c =
    let self = c.args.self.now in
    (is_open self.parts.urls self.parts.rest c.in-Crawl.ledger (g.S.Store.told self.store).files c.in-Crawl.is self.rest_is).1.fits.sent

pub fresh-fresh-requires-clause-base : goal.fresh-fresh-requires-clause-base
fresh-fresh-requires-clause-base g c =
    let self = c.args.self.now in
    (is_open self.parts.urls self.parts.rest c.in-Crawl.ledger (g.S.Store.told self.store).files c.in-Crawl.is self.rest_is).1.urls_at

pub fresh-fresh-requires-clause-long : goal.fresh-fresh-requires-clause-long
fresh-fresh-requires-clause-long g c = λ files told. c.args.self.now.long c.requires.sound.0 files told

pub invariant_of-self : goal.invariant_of-self
invariant_of-self g c = record {
  long = λ sound files told. c.args.self.now.long sound files (sym c.fresh-fresh.ensures.reads.reads.same ∙ told);
  rest_is = rest_same _ _ c.args.self.now.parts.urls c.args.self.now.parts.rest c.fresh-fresh.ensures.reads.reads.same c.args.self.now.rest_is;
}

pub returns-clause-reads : goal.returns-clause-reads
returns-clause-reads g c =
    let self = c.args.self.now in
    found_as c.fresh-fresh.result _ _ self.parts.urls (g.S.Store.told self.store) (g.S.Store.told c.fresh-fresh.new.store)
    (λ items book holds found. are_fresh self.parts.rest c.in-Crawl.ledger items.items book c.in-Crawl.is found) c.fresh-fresh.ensures.reads

pub returns-clause-states : goal.returns-clause-states
returns-clause-states g c =
    let self = c.args.self.now in
    let opened = is_open self.parts.urls self.parts.rest c.in-Crawl.ledger (g.S.Store.told self.store).files c.in-Crawl.is self.rest_is in
    reads_state c.fresh-fresh.result _ (g.S.Store.told self.store) (g.S.Store.told c.fresh-fresh.new.store) self.parts _ c.is_sound-is_sound.ensures.drum
    (g.met.S.Store.is_consistent c.fresh-fresh.new.store) self.rest_is opened.0 refl refl (returns-clause-reads g c)
