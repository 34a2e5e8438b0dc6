use Rattle.std.proofs.Common.{◌∙◌, [], refl, sym, ap, subst}
use Rattle.irl_events.specs.Events.{Robots}
use Rattle.irl_frontier.specs.Frontier.{after_other}
use Rattle.irl_ledger.proofs.Tables.{fits_idle}
use Rattle.irl_yard.specs.Adding.{MayNote}
use Rattle.irl_yard.specs.declared.parts.Rest.{Rest}
use Rattle.irl_yard.specs.declared.parts.Rest.TheVariants.{Crawl}
use Rattle.irl_yard.proofs.Beside.{crawl_open}
use Rattle.irl_yard.proofs.Adding.{adds_event, note_next, is_open, log_place, log_sound, still_open, urls_long}
use Rattle.irl_yard.proofs.yard.Yard.note_robots.Goals as goal

pub note_robots-requires-clause-place : goal.note_robots-requires-clause-place
note_robots-requires-clause-place g c =
    let self = c.args.self.now in
    log_place self.parts.urls self.parts.rest c.in-Crawl.ledger (g.S.Store.told self.store).files c.in-Crawl.is self.rest_is c.requires.sound.2

pub note_robots-requires-clause-notes : goal.note_robots-requires-clause-notes
note_robots-requires-clause-notes g c = subst (λ (r : Rest). MayNote r c.args.note.now) c.in-Crawl.is c.requires.notes

pub invariant_of-self : goal.invariant_of-self
invariant_of-self g c =
    let self = c.args.self.now in
    let tells = g.S.Store.told in
    let law = g.met.S.Store.is_consistent in
    let parts = self.parts in
    let old = c.in-Crawl.ledger in
    let new = c.note_robots.new.self in
    let drum = c.is_sound-is_sound.ensures.drum in
    let opened = is_open parts.urls parts.rest old (tells self.store).files c.in-Crawl.is self.rest_is in
    let sound = log_sound parts.rest old c.in-Crawl.is c.requires.sound.2 in
    let may : MayNote (Crawl old) c.args.note.now = subst (λ (r : Rest). MayNote r c.args.note.now) c.in-Crawl.is c.requires.notes in
    let event = Robots c.args.note.now in
    let then = after_other old.frontier event in
    record {
      long = λ urls_sound. urls_long tells law c.note_robots.result event [] then old.suffixes self.store c.note_robots.new.store
          parts.urls old new drum opened.1 sound c.note_robots.ensures (λ files told. self.long urls_sound files told);
      rest_is = crawl_open parts.urls new (tells c.note_robots.new.store).files opened.0
          (still_open tells law c.note_robots.result event [] then old.suffixes self.store c.note_robots.new.store parts.urls old new drum opened.1 sound c.note_robots.ensures
          (fits_idle parts.urls old.pairs old.frontier event tt opened.1.fits) (sym may.0 ∙ opened.1.begun));
    }

pub returns-clause-adds : goal.returns-clause-adds
returns-clause-adds g c =
    let self = c.args.self.now in
    let tells = g.S.Store.told in
    let law = g.met.S.Store.is_consistent in
    let parts = self.parts in
    let settings = parts.urls.settings in
    let old = c.in-Crawl.ledger in
    let new = c.note_robots.new.self in
    let drum = c.is_sound-is_sound.ensures.drum in
    let opened = is_open parts.urls parts.rest old (tells self.store).files c.in-Crawl.is self.rest_is in
    let sound = log_sound parts.rest old c.in-Crawl.is c.requires.sound.2 in
    let may : MayNote (Crawl old) c.args.note.now = subst (λ (r : Rest). MayNote r c.args.note.now) c.in-Crawl.is c.requires.notes in
    let event = Robots c.args.note.now in
    adds_event tells law c.note_robots.result event old.suffixes self.store c.note_robots.new.store parts.urls old new drum opened.1 sound c.note_robots.ensures parts _ refl c.in-Crawl.is refl refl
    (λ same. ap (λ (r : Rest). record parts { rest = r }) same)
    (λ state beside held.
    let next = note_next settings state.urls state.pairs state.events old.frontier c.args.note.now may.0 may.1 held.frontier in
    record { next = next.0; begun = next.1 ∙ sym held.suffixes; tables = next.2 })
    refl
