use Rattle.std.proofs.Common.{◌∙◌, Result, refl, sym, ap, subst, arith}
use Rattle.irl_base.specs.declared.fault.Fault.{Fault}
use Rattle.irl_offer.specs.declared.settings.Settings.{Settings}
use Rattle.irl_yard.specs.declared.parts.Rest.TheVariants.{Crawl}
use Rattle.irl_yard.specs.declared.parts.Parts.{Parts}
use Rattle.irl_yard.specs.Sending.{OffersState}
use Rattle.irl_yard.proofs.Adding.{is_open}
use Rattle.irl_yard.proofs.Beside.{crawl_open}
use Rattle.irl_yard.proofs.RestFiles.{few}
use Rattle.irl_yard.proofs.SentStates.{begun_of, offers_state, pairs_sound, sent_long, sent_open}
use Rattle.irl_yard.proofs.yard.Yard.offer_pairs.Goals as goal

pub offer_pairs-offered-requires-clause-begun : goal.offer_pairs-offered-requires-clause-begun
offer_pairs-offered-requires-clause-begun g c =
    let self = c.args.self.now in
    let opened = is_open self.parts.urls self.parts.rest c.in-Crawl.ledger (g.S.Store.told self.store).files c.in-Crawl.is self.rest_is in
    sym opened.1.begun ∙ begun_of self.parts.rest c.in-Crawl.ledger c.in-Crawl.is c.requires.begun

pub offer_pairs-offered-requires-clause-sent : goal.offer_pairs-offered-requires-clause-sent
offer_pairs-offered-requires-clause-sent g c =
    let self = c.args.self.now in
    (is_open self.parts.urls self.parts.rest c.in-Crawl.ledger (g.S.Store.told self.store).files c.in-Crawl.is self.rest_is).1.fits.sent

pub offer_pairs-offered-requires-clause-urls : goal.offer_pairs-offered-requires-clause-urls
offer_pairs-offered-requires-clause-urls g c =
    let self = c.args.self.now in
    let opened = is_open self.parts.urls self.parts.rest c.in-Crawl.ledger (g.S.Store.told self.store).files c.in-Crawl.is self.rest_is in
    record {
      sound = c.requires.sound.0;
      long = λ files told. self.long c.requires.sound.0 files told;
      base = opened.1.urls_at;
      pairs_at = opened.1.base;
      settings = opened.1.settings;
    }

pub offer_pairs-offered-requires-clause-sound : goal.offer_pairs-offered-requires-clause-sound
offer_pairs-offered-requires-clause-sound g c = pairs_sound c.args.self.now.parts.rest c.in-Crawl.ledger c.in-Crawl.is c.requires.sound.2

pub offer_pairs-offered-requires-clause-long : goal.offer_pairs-offered-requires-clause-long
offer_pairs-offered-requires-clause-long g c =
    let self = c.args.self.now in
    let opened = is_open self.parts.urls self.parts.rest c.in-Crawl.ledger (g.S.Store.told self.store).files c.in-Crawl.is self.rest_is in
    opened.1.long (pairs_sound self.parts.rest c.in-Crawl.ledger c.in-Crawl.is c.requires.sound.2)

pub invariant_of-self : goal.invariant_of-self
invariant_of-self g c =
    let self = c.args.self.now in
    let tells = g.S.Store.told in
    let parts = self.parts in
    let old = c.in-Crawl.ledger in
    let new = c.offer_pairs-offered.new.self in
    let s = tells self.store in
    let t = tells c.offer_pairs-offered.new.store in
    let opened = is_open parts.urls parts.rest old s.files c.in-Crawl.is self.rest_is in
    let begun = begun_of parts.rest old c.in-Crawl.is c.requires.begun in
    record {
      long = λ sound. sent_long c.offer_pairs-offered.result parts (record { urls = parts.urls; rest = Crawl new; has_failed = c.is_failure-self.result }) old new s t c.is_sound-is_sound.ensures.drum
          (g.met.S.Store.is_consistent c.offer_pairs-offered.new.store) c.in-Crawl.is refl refl
          c.offer_pairs-offered.ensures.others opened.0 opened.1 begun c.offer_pairs-offered.ensures.offers (λ files told. self.long sound files told);
      rest_is = crawl_open parts.urls new t.files opened.0 (sent_open c.offer_pairs-offered.result parts (record { urls = parts.urls; rest = Crawl new; has_failed = c.is_failure-self.result }) old new
          s t c.is_sound-is_sound.ensures.drum
          (g.met.S.Store.is_consistent c.offer_pairs-offered.new.store) c.in-Crawl.is refl refl c.offer_pairs-offered.ensures.others opened.0 opened.1 begun c.offer_pairs-offered.ensures.offers);
    }

pub of_pairs-requires : goal.of_pairs-requires
of_pairs-requires g c = λ n full.
    let self = c.args.self.now in
    let opened = is_open self.parts.urls self.parts.rest c.in-Crawl.ledger (g.S.Store.told self.store).files c.in-Crawl.is self.rest_is in
    let within = (c.offer_pairs-offered.ensures.offers.runs.full n full).0 in
    let buckets = few self.parts.urls.settings c.is_sound-is_sound.ensures.drum.settings in
    omega (arith, within, buckets, ap (λ (s : Settings). s.buckets) opened.1.settings)

pub returns-clause-offers : goal.returns-clause-offers
returns-clause-offers g c =
    let self = c.args.self.now in
    let tells = g.S.Store.told in
    let parts = self.parts in
    let old = c.in-Crawl.ledger in
    let new = c.offer_pairs-offered.new.self in
    let s = tells self.store in
    let t = tells c.offer_pairs-offered.new.store in
    let now : Parts = record { urls = parts.urls; rest = Crawl new; has_failed = c.is_failure-self.result } in
    let opened = is_open parts.urls parts.rest old s.files c.in-Crawl.is self.rest_is in
    subst (λ (r : Result Unit Fault). OffersState r parts now s t) (sym c.of_pairs.ensures)
    (offers_state c.offer_pairs-offered.result parts now old new s t c.is_sound-is_sound.ensures.drum (g.met.S.Store.is_consistent c.offer_pairs-offered.new.store) c.in-Crawl.is refl refl
    c.offer_pairs-offered.ensures.others opened.0 opened.1 (begun_of parts.rest old c.in-Crawl.is c.requires.begun) c.offer_pairs-offered.ensures.offers)
