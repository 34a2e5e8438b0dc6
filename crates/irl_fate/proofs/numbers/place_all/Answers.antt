use Rattle.std.proofs.Common.{◌∙◌, ℕ, List, ap, cond, get_or, subst, sym}
use Rattle.std.specs.Prelude.{nat_eq}
use Rattle.irl_offer.specs.declared.place.Place.{Place}
use Rattle.irl_offer.specs.declared.place.Slot.TheVariants.{Front}
use Rattle.irl_events.specs.Events.{has_number}
use Rattle.irl_fate.specs.declared.fate.Fate.{Fate}
use Rattle.irl_fate.specs.Kept.{fate_in, fate_of_slot, AreSorted}
use Rattle.irl_fate.proofs.Marking.{placed_more}
use Rattle.irl_fate.proofs.numbers.place_all.Goals as goal

pub relabel-requires-clause-sorted : goal.relabel-requires-clause-sorted
relabel-requires-clause-sorted c = subst AreSorted (sym c.loop-place.invariant.numbers) c.requires.sorted

pub relabel-requires-clause-entry : goal.relabel-requires-clause-entry
relabel-requires-clause-entry c =
    let i = c.loop-place.place-index in
    let none : Place = record { number = 0; slot = Front } in
    let place : Place = get_or c.args.places.now i none in
    ap (λ (t : List ℕ). has_number t place.number) c.loop-place.invariant.numbers ∙ c.requires.entries i none c.loop-place-test.true

pub loop-place-preserved : goal.loop-place-preserved
loop-place-preserved c =
    let i = c.loop-place.place-index in
    let old = c.args.entries.now in
    let none : Place = record { number = 0; slot = Front } in
    let place : Place = get_or c.args.places.now i none in
    record {
      fates = λ q.
          c.relabel.ensures.fate q
          ∙ ap (λ (f : Fate). cond (nat_eq place.number q) f (fate_in c.loop-place.entries q)) c.slot_fate.ensures
          ∙ ap (cond (nat_eq place.number q) (fate_of_slot place.slot)) (c.loop-place.invariant.fates q)
          ∙ placed_more c.args.places.now i none q (fate_in old q) c.loop-place-test.true;
      numbers = c.relabel.ensures.numbers ∙ c.loop-place.invariant.numbers;
    }
