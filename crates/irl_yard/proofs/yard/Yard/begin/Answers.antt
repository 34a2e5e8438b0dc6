use Rattle.std.proofs.Common.{Some, [], refl, ap, subst}
use Rattle.irl_events.specs.Events.{Begin}
use Rattle.irl_frontier.specs.Frontier.{after_other}
use Rattle.irl_ledger.proofs.Tables.{fits_idle}
use Rattle.irl_yard.specs.Adding.{MayBegin}
use Rattle.irl_yard.specs.declared.parts.Rest.{Rest}
use Rattle.irl_yard.specs.declared.parts.Rest.TheVariants.{Crawl}
use Rattle.irl_yard.proofs.Beside.{crawl_open}
use Rattle.irl_yard.proofs.Adding.{adds_event, begin_next, is_open, log_place, log_sound, still_open, urls_long}
use Rattle.irl_yard.proofs.yard.Yard.begin.Goals as goal

pub begin-requires-clause-place : goal.begin-requires-clause-place
begin-requires-clause-place g c =
    let self = c.args.self.now in
    log_place self.parts.urls self.parts.rest c.in-Crawl.ledger (g.S.Store.told self.store).files c.in-Crawl.is self.rest_is c.requires.sound.2

pub begin-requires-clause-begins : goal.begin-requires-clause-begins
begin-requires-clause-begins g c = subst (λ (r : Rest). MayBegin r c.args.suffixes.now) c.in-Crawl.is c.requires.begins

pub invariant_of-self : goal.invariant_of-self
invariant_of-self g c =
    let self = c.args.self.now in
    let tells = g.S.Store.told in
    let law = g.met.S.Store.is_consistent in
    let parts = self.parts in
    let old = c.in-Crawl.ledger in
    let new = c.begin.new.self in
    let drum = c.is_sound-is_sound.ensures.drum in
    let opened = is_open parts.urls parts.rest old (tells self.store).files c.in-Crawl.is self.rest_is in
    let sound = log_sound parts.rest old c.in-Crawl.is c.requires.sound.2 in
    let event = Begin c.args.suffixes.now in
    let then = after_other old.frontier event in
    record {
      long = λ urls_sound. urls_long tells law c.begin.result event [] then (Some c.args.suffixes.now) self.store c.begin.new.store
          parts.urls old new drum opened.1 sound c.begin.ensures (λ files told. self.long urls_sound files told);
      rest_is = crawl_open parts.urls new (tells c.begin.new.store).files opened.0
          (still_open tells law c.begin.result event [] then (Some c.args.suffixes.now) self.store c.begin.new.store parts.urls old new drum opened.1 sound c.begin.ensures
          (fits_idle parts.urls old.pairs old.frontier event tt opened.1.fits) refl);
    }

pub returns-clause-adds : goal.returns-clause-adds
returns-clause-adds g c =
    let self = c.args.self.now in
    let tells = g.S.Store.told in
    let law = g.met.S.Store.is_consistent in
    let parts = self.parts in
    let settings = parts.urls.settings in
    let old = c.in-Crawl.ledger in
    let new = c.begin.new.self in
    let drum = c.is_sound-is_sound.ensures.drum in
    let opened = is_open parts.urls parts.rest old (tells self.store).files c.in-Crawl.is self.rest_is in
    let sound = log_sound parts.rest old c.in-Crawl.is c.requires.sound.2 in
    let may : MayBegin (Crawl old) c.args.suffixes.now = subst (λ (r : Rest). MayBegin r c.args.suffixes.now) c.in-Crawl.is c.requires.begins in
    let event = Begin c.args.suffixes.now in
    adds_event tells law c.begin.result event (Some c.args.suffixes.now) self.store c.begin.new.store parts.urls old new drum opened.1 sound c.begin.ensures parts _ refl c.in-Crawl.is refl refl
    (λ same. ap (λ (r : Rest). record parts { rest = r }) same)
    (λ state beside held.
    let next = begin_next settings state.urls state.pairs state.events old.frontier c.args.suffixes.now may.0 c.keeps.ensures held.frontier in
    record { next = next.0; begun = next.1; tables = next.2 })
    refl
