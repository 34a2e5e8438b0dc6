-- Items put in their places, and lists that grow by them.
use Rattle.std.proofs.Common.{◌≡◌, ◌+◌, ◌-◌, List, [], ◌∷◌, ◌++◌, length, refl, arith}
use Rattle.irl_offer.specs.declared.place.Slot.{Slot}
use Rattle.irl_offer.specs.declared.place.Slot.TheVariants.{Front, Queue, Last}
use Rattle.irl_offer.specs.declared.place.Place.{Place}
use Rattle.irl_base.specs.Lists.{Grown}
use Rattle.irl_base.proofs.ListLemmas.{grown_one}
use Rattle.irl_events.specs.Queues.{put, delivered}

pub grown_put : {X : Type 0} (old new : List (List X)) (item : X) (slot : Slot) → Grown old new → Grown old (put new item slot)
grown_put old new item Front grown = grown
grown_put old new item (Queue number) grown = grown_one old new (number - 1) item grown
grown_put old new item Last grown = grown_one old new 64 item grown

pub delivered-none : {X : Type 0} (lists : List (List X)) (places : List Place) → delivered lists [] places ≡ lists
unfolding delivered
delivered-none lists places = refl

-- one more item in its place
pub delivered-more : {X : Type 0} (lists : List (List X)) (items : List X) (places : List Place) (x : X) (at : Place) → length places ≡ length items
    → delivered lists (items ++ x ∷ []) (places ++ at ∷ []) ≡ put (delivered lists items places) x at.slot
unfolding delivered
delivered-more lists [] [] x at e = refl
delivered-more lists [] (place ∷ places) x at e = absurd (omega arith)
delivered-more lists (item ∷ items) [] x at e = absurd (omega arith)
delivered-more lists (item ∷ items) (place ∷ places) x at e =
    delivered-more (put lists item place.slot) items places x at (omega arith)
