-- The definitions on a worked row: five fresh items of one domain with a budget of 1, with 2 queues, and a pass with nothing fresh.
use Rattle.std.proofs.Common.{◌≡◌, ℕ, List, [], ◌∷◌, refl}
use Rattle.std.specs.Prelude.{map}
use Rattle.irl_offer.specs.Purses.{Budget}
use Rattle.irl_offer.specs.declared.place.Slot.TheVariants.{Front, Queue, Last}
use Rattle.irl_beast.specs.declared.item.Item.{Item}
use Rattle.irl_events.specs.Queues.{Waiting, delivered}
use Rattle.irl_beast.specs.Places.{count_of, place, places_behind}
use Rattle.irl_events.specs.Queues.{none_waiting, queue_of, last_of}
use Rattle.irl_beast.specs.Passes.{passed}

abbrev one : Budget
one = λ _. 1

abbrev item : ℕ → Item
item number = record { number = number; pld = 97 ∷ [] }

abbrev five : List Item
five = item 0 ∷ item 1 ∷ item 2 ∷ item 3 ∷ item 4 ∷ []

abbrev second : Waiting Item
second = passed one (passed one (none_waiting 2) five) []

slots_row : map (λ at. at.slot) (place 0 2 one five) ≡ Front ∷ Queue 2 ∷ Last ∷ Last ∷ Last ∷ []
unfolding places_behind count_of
slots_row = refl

round_row : ◌≡◌ {A = List Item × (List Item × (ℕ × ℕ))} (queue_of second 1, (last_of second, (second.queues, second.passes))) (item 2 ∷ item 3 ∷ item 4 ∷ [], ([], (4, 0)))
unfolding places_behind count_of delivered
round_row = refl
