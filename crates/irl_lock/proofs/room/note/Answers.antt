use Rattle.std.proofs.Common.{rules, Some, ◌∙◌, ap}
use Rattle.irl_lock.specs.declared.held.Held.TheVariants.{InBin, InYard}
use Rattle.irl_lock.proofs.NoteSteps.{begins, left_out, notes_by}
use Rattle.irl_lock.proofs.room.note.Goals as goal

pub load-requires : goal.load-requires
load-requires g c =
    let was = c.requires.refilled in (
      search rules,
      search rules,
      notes_by (λ s. g.met.S.Store.is_consistent s) _ _ _ c.args.last c.args.b _ c.args.token.now.me.0 was.0 was.1 c.args.bin was.2 c.args.stand c.requires.places.0 c.requires.places.1
          c.put_both.ensures.view c.requires.own.part was.3 was.4 c.put_both.ensures.put,
    )

pub give_back-requires-clause-held : goal.give_back-requires-clause-held
give_back-requires-clause-held g c =
    let told = c.load.ensures.2 c.args.last c.args.b c.args.stand c.args.bin c.put_both.ensures.put in (
      InYard c.args.stand,
      begins _ _ _ (ap (λ m. m.0.turns) told),
      begins _ _ _ (ap (λ m. m.1) told ∙ c.put_both.ensures.put),
    )

pub exchange-taken-requires : goal.exchange-taken-requires
exchange-taken-requires g c = (
  c.give_back.ensures.own.own_is,
  (
    Some (InBin c.args.bin),
    left_out c.put_both.new.token.me c.load.new.seat.me c.give_back.new.token.me _ _ _ _ c.put_both.ensures.put
        (c.load.ensures.2 c.args.last c.args.b c.args.stand c.args.bin c.put_both.ensures.put) c.give_back.ensures.released,
  ),
)
