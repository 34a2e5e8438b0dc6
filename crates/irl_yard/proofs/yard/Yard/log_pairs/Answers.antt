use Rattle.std.proofs.Common.{◌∙◌, refl, ap}
use Rattle.irl_yard.specs.declared.parts.Rest.{Rest}
use Rattle.irl_yard.specs.declared.parts.Rest.TheVariants.{Crawl}
use Rattle.irl_yard.proofs.Adding.{is_open, log_place, log_sound}
use Rattle.irl_yard.proofs.Beside.{crawl_open}
use Rattle.irl_yard.proofs.SentEvent.{event_long, event_open, logs_pairs}
use Rattle.irl_yard.proofs.SentStates.{begun_of, told_of}
use Rattle.irl_yard.proofs.yard.Yard.log_pairs.Goals as goal

pub log_pairs-requires-clause-place : goal.log_pairs-requires-clause-place
log_pairs-requires-clause-place g c =
    let self = c.args.self.now in
    log_place self.parts.urls self.parts.rest c.in-Crawl.ledger (g.S.Store.told self.store).files c.in-Crawl.is self.rest_is c.requires.sound.2

pub log_pairs-requires-clause-fits : goal.log_pairs-requires-clause-fits
log_pairs-requires-clause-fits g c =
    let self = c.args.self.now in
    (is_open self.parts.urls self.parts.rest c.in-Crawl.ledger (g.S.Store.told self.store).files c.in-Crawl.is self.rest_is).1.fits

pub invariant_of-self : goal.invariant_of-self
invariant_of-self g c =
    let self = c.args.self.now in
    let tells = g.S.Store.told in
    let law = g.met.S.Store.is_consistent in
    let parts = self.parts in
    let old = c.in-Crawl.ledger in
    let new = c.log_pairs.new.self in
    let opened = is_open parts.urls parts.rest old (tells self.store).files c.in-Crawl.is self.rest_is in
    let sound = log_sound parts.rest old c.in-Crawl.is c.requires.sound.2 in
    let begun = begun_of parts.rest old c.in-Crawl.is c.requires.begun in
    let all = told_of parts.rest old c.in-Crawl.is c.requires.told in
    record {
      long = λ urls_sound. event_long tells law c.log_pairs.result self.store c.log_pairs.new.store parts old new c.is_sound-is_sound.ensures.drum opened.1 sound begun all c.log_pairs.ensures.idle
          c.log_pairs.ensures.adds
          (λ files told. self.long urls_sound files told);
      rest_is = crawl_open parts.urls new (tells c.log_pairs.new.store).files opened.0
          (event_open tells law c.log_pairs.result self.store c.log_pairs.new.store parts old new c.is_sound-is_sound.ensures.drum opened.1 sound begun all c.log_pairs.ensures.idle
          c.log_pairs.ensures.adds);
    }

pub returns-clause-logs : goal.returns-clause-logs
returns-clause-logs g c =
    let self = c.args.self.now in
    let tells = g.S.Store.told in
    let law = g.met.S.Store.is_consistent in
    let parts = self.parts in
    let old = c.in-Crawl.ledger in
    let new = c.log_pairs.new.self in
    let opened = is_open parts.urls parts.rest old (tells self.store).files c.in-Crawl.is self.rest_is in
    let sound = log_sound parts.rest old c.in-Crawl.is c.requires.sound.2 in
    logs_pairs tells law c.log_pairs.result self.store c.log_pairs.new.store parts (record parts { rest = Crawl new }) old new c.is_sound-is_sound.ensures.drum c.in-Crawl.is refl refl
    (λ same. ap (λ (r : Rest). record parts { rest = r }) same) opened.1 sound (begun_of parts.rest old c.in-Crawl.is c.requires.begun) c.log_pairs.ensures.idle c.log_pairs.ensures.adds

pub returns-clause-begun : goal.returns-clause-begun
returns-clause-begun g c =
    let self = c.args.self.now in
    let logs = returns-clause-logs g c in
    (logs.tables c.in-Crawl.ledger c.log_pairs.new.self c.in-Crawl.is refl).begun ∙ begun_of self.parts.rest c.in-Crawl.ledger c.in-Crawl.is c.requires.begun
