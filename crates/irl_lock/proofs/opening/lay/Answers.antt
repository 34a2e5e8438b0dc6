use Rattle.std.proofs.Common.{ℕ, List, sym, subst}
use Rattle.atomic_table.specs.Table.{opening as table_of}
use Rattle.irl_yard.specs.declared.yard.Yard.{Yard}
use Rattle.irl_lock.specs.Rule.{IsKept, first_view}
use Rattle.irl_lock.proofs.Laying.{has_store}
use Rattle.irl_lock.proofs.SeatSteps.{opens}
use Rattle.irl_lock.proofs.opening.lay.Goals as goal

pub new-requires : goal.new-requires
new-requires g c =
    let yard = c.args.yard in
    let words = c.word_values-words.result.items in
    let slots = c.slot_values-slots.result.items in
    let r = c.requires in
    let made = opens g.met.S.Store.is_consistent yard words c.args.arrays.items slots c.is_sound-is_sound.ensures.drum r.sound r.arrays r.empty c.word_values-words.ensures
    c.slot_values-slots.ensures in
    subst (λ (y : Yard g.row.S.Denot g.S.Store). IsKept y (table_of c.deref.result.now slots (first_view y))) (sym c.of-key.ensures)
    (subst (λ (ws : List ℕ). IsKept yard (table_of ws slots (first_view yard))) (sym c.deref.ensures.value) made)

pub yard_in-requires : goal.yard_in-requires
yard_in-requires g c =
    has_store c.args.yard c.args.arrays.items c.slot_values-slots.result.items c.in-Err.field-0.slots.items c.slot_values-slots.ensures c.in-Err.ensures.err
