use Rattle.std.proofs.Common.{◌∙◌, [], refl, sym, ap, subst}
use Rattle.irl_frontier.specs.Frontier.{after_other}
use Rattle.irl_ledger.proofs.Settling.{fits_settled, settled_begun}
use Rattle.irl_ledger.specs.Settling.{outcomes_of}
use Rattle.irl_yard.specs.Settling.{MaySettle, settle_of}
use Rattle.irl_yard.specs.declared.parts.Rest.{Rest}
use Rattle.irl_yard.specs.declared.parts.Rest.TheVariants.{Crawl}
use Rattle.irl_yard.proofs.Adding.{adds_event, is_open, log_place, log_sound, still_open, urls_long}
use Rattle.irl_yard.proofs.Beside.{crawl_open}
use Rattle.irl_yard.proofs.Settling.{keeps_links, settle_next}
use Rattle.irl_yard.proofs.yard.Yard.settle.Goals as goal

pub settle-requires-clause-place : goal.settle-requires-clause-place
settle-requires-clause-place g c =
    let self = c.args.self.now in
    log_place self.parts.urls self.parts.rest c.in-Crawl.ledger (g.S.Store.told self.store).files c.in-Crawl.is self.rest_is c.requires.sound.2

pub settle-requires-clause-buckets : goal.settle-requires-clause-buckets
settle-requires-clause-buckets g c =
    let self = c.args.self.now in
    (is_open self.parts.urls self.parts.rest c.in-Crawl.ledger (g.S.Store.told self.store).files c.in-Crawl.is self.rest_is).1.buckets

pub settle-requires-clause-fits : goal.settle-requires-clause-fits
settle-requires-clause-fits g c =
    let self = c.args.self.now in
    (is_open self.parts.urls self.parts.rest c.in-Crawl.ledger (g.S.Store.told self.store).files c.in-Crawl.is self.rest_is).1.fits

pub settle-requires-clause-settles : goal.settle-requires-clause-settles
settle-requires-clause-settles g c = subst (λ (r : Rest). MaySettle c.args.self.now.parts.urls r c.args.done.now) c.in-Crawl.is c.requires.settles

pub invariant_of-self : goal.invariant_of-self
invariant_of-self g c =
    let self = c.args.self.now in
    let tells = g.S.Store.told in
    let law = g.met.S.Store.is_consistent in
    let parts = self.parts in
    let old = c.in-Crawl.ledger in
    let new = c.settle.new.self in
    let drum = c.is_sound-is_sound.ensures.drum in
    let opened = is_open parts.urls parts.rest old (tells self.store).files c.in-Crawl.is self.rest_is in
    let sound = log_sound parts.rest old c.in-Crawl.is c.requires.sound.2 in
    let may : MaySettle parts.urls (Crawl old) c.args.done.now = subst (λ (r : Rest). MaySettle parts.urls r c.args.done.now) c.in-Crawl.is c.requires.settles in
    let event = settle_of parts.urls c.args.done.now in
    let then = after_other old.frontier event in
    record {
      long = λ urls_sound. urls_long tells law c.settle.result event [] then old.suffixes self.store c.settle.new.store
          parts.urls old new drum opened.1 sound c.settle.ensures (λ files told. self.long urls_sound files told);
      rest_is = crawl_open parts.urls new (tells c.settle.new.store).files opened.0
          (still_open tells law c.settle.result event [] then old.suffixes self.store c.settle.new.store parts.urls old new drum opened.1 sound c.settle.ensures
          (fits_settled parts.urls old.pairs old.frontier (outcomes_of c.args.done.now) opened.1.fits) (sym (settled_begun parts.urls old c.args.done.now c.has_begun.ensures may) ∙ opened.1.begun));
    }

pub returns-clause-adds : goal.returns-clause-adds
returns-clause-adds g c =
    let self = c.args.self.now in
    let tells = g.S.Store.told in
    let law = g.met.S.Store.is_consistent in
    let parts = self.parts in
    let old = c.in-Crawl.ledger in
    let new = c.settle.new.self in
    let drum = c.is_sound-is_sound.ensures.drum in
    let opened = is_open parts.urls parts.rest old (tells self.store).files c.in-Crawl.is self.rest_is in
    let sound = log_sound parts.rest old c.in-Crawl.is c.requires.sound.2 in
    let may : MaySettle parts.urls (Crawl old) c.args.done.now = subst (λ (r : Rest). MaySettle parts.urls r c.args.done.now) c.in-Crawl.is c.requires.settles in
    let event = settle_of parts.urls c.args.done.now in
    adds_event tells law c.settle.result event old.suffixes self.store c.settle.new.store parts.urls old new drum opened.1 sound c.settle.ensures parts _ refl c.in-Crawl.is refl refl
    (λ same. ap (λ (r : Rest). record parts { rest = r }) same)
    (λ state beside held.
    let next = settle_next (tells self.store).images parts.urls old state c.args.done.now drum c.keeps.ensures c.has_begun.ensures opened.1.fits may beside held.frontier in
    record { next = next.0; begun = next.1 ∙ sym held.suffixes; tables = next.2 })
    refl

pub returns-clause-links : goal.returns-clause-links
returns-clause-links g c =
    let self = c.args.self.now in
    let parts = self.parts in
    let may : MaySettle parts.urls (Crawl c.in-Crawl.ledger) c.args.done.now = subst (λ (r : Rest). MaySettle parts.urls r c.args.done.now) c.in-Crawl.is c.requires.settles in
    keeps_links g.S.Store.told g.met.S.Store.is_consistent c.settle.result c.args.done.now parts _ self.store c.settle.new.store may.links (returns-clause-adds g c)
