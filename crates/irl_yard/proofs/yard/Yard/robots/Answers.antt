use Rattle.std.proofs.Common.{◌∙◌, refl, sym}
use Rattle.irl_yard.proofs.Beside.{rest_same}
use Rattle.irl_yard.proofs.NoteStates.{may_read, note_state}
use Rattle.irl_yard.proofs.yard.Yard.robots.Goals as goal

pub robots-note-requires : goal.robots-note-requires
robots-note-requires g c = may_read c.args.self.now.parts.urls c.args.self.now.parts.rest _ c.args.host.now c.args.self.now.rest_is

pub invariant_of-self : goal.invariant_of-self
invariant_of-self g c = record {
  long = λ sound files told. c.args.self.now.long sound files (sym c.robots-note.ensures.reads.same ∙ told);
  rest_is = rest_same _ _ c.args.self.now.parts.urls c.args.self.now.parts.rest c.robots-note.ensures.reads.same c.args.self.now.rest_is;
}

pub returns-clause-note : goal.returns-clause-note
returns-clause-note g c =
    let self = c.args.self.now in
    note_state c.robots-note.result c.args.host.now c.args.moment (g.S.Store.told self.store) (g.S.Store.told c.robots-note.new.store) self.parts _ c.is_sound-is_sound.ensures.drum
    (g.met.S.Store.is_consistent c.robots-note.new.store) self.rest_is refl refl c.robots-note.ensures
