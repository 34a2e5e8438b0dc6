use Rattle.std.proofs.Common.{refl, ap, subst}
use Rattle.irl_yard.specs.Adding.{MayNoteAll}
use Rattle.irl_yard.specs.declared.parts.Rest.{Rest}
use Rattle.irl_yard.specs.declared.parts.Rest.TheVariants.{Crawl}
use Rattle.irl_yard.proofs.Adding.{is_open, log_place, log_sound}
use Rattle.irl_yard.proofs.Beside.{crawl_open}
use Rattle.irl_yard.proofs.NotesAdded.{adds_notes, notes_long, notes_open}
use Rattle.irl_yard.proofs.yard.Yard.note_all.Goals as goal

pub note_all-requires-clause-place : goal.note_all-requires-clause-place
note_all-requires-clause-place g c =
    let self = c.args.self.now in
    log_place self.parts.urls self.parts.rest c.in-Crawl.ledger (g.S.Store.told self.store).files c.in-Crawl.is self.rest_is c.requires.sound.2

pub note_all-requires-clause-notes : goal.note_all-requires-clause-notes
note_all-requires-clause-notes g c = subst (λ (r : Rest). MayNoteAll r c.args.notes.now) c.in-Crawl.is c.requires.notes

pub invariant_of-self : goal.invariant_of-self
invariant_of-self g c =
    let self = c.args.self.now in
    let tells = g.S.Store.told in
    let law = g.met.S.Store.is_consistent in
    let parts = self.parts in
    let old = c.in-Crawl.ledger in
    let new = c.note_all.new.self in
    let drum = c.is_sound-is_sound.ensures.drum in
    let opened = is_open parts.urls parts.rest old (tells self.store).files c.in-Crawl.is self.rest_is in
    let sound = log_sound parts.rest old c.in-Crawl.is c.requires.sound.2 in
    let may : MayNoteAll (Crawl old) c.args.notes.now = subst (λ (r : Rest). MayNoteAll r c.args.notes.now) c.in-Crawl.is c.requires.notes in
    record {
      long = λ urls_sound. notes_long tells law c.note_all.result c.args.notes.now self.store c.note_all.new.store parts.urls old new drum opened.1 sound may.0 may.1 c.note_all.ensures
          (λ files told. self.long urls_sound files told);
      rest_is = crawl_open parts.urls new (tells c.note_all.new.store).files opened.0
          (notes_open tells law c.note_all.result c.args.notes.now self.store c.note_all.new.store parts.urls old new drum opened.1 sound may.0 may.1 c.note_all.ensures);
    }

pub returns-clause-adds : goal.returns-clause-adds
returns-clause-adds g c =
    let self = c.args.self.now in
    let tells = g.S.Store.told in
    let law = g.met.S.Store.is_consistent in
    let parts = self.parts in
    let old = c.in-Crawl.ledger in
    let new = c.note_all.new.self in
    let drum = c.is_sound-is_sound.ensures.drum in
    let opened = is_open parts.urls parts.rest old (tells self.store).files c.in-Crawl.is self.rest_is in
    let sound = log_sound parts.rest old c.in-Crawl.is c.requires.sound.2 in
    let may : MayNoteAll (Crawl old) c.args.notes.now = subst (λ (r : Rest). MayNoteAll r c.args.notes.now) c.in-Crawl.is c.requires.notes in
    adds_notes tells law c.note_all.result c.args.notes.now self.store c.note_all.new.store parts.urls old new drum opened.1 sound may.0 may.1 c.note_all.ensures parts _ refl c.in-Crawl.is refl refl
    (λ same. ap (λ (r : Rest). record parts { rest = r }) same)
