-- A pass that is planned before it is done.
use Rattle.std.specs.Prelude.{◌≡◌, ℕ, List, [], ◌∷◌, ◌++◌, length, map, slice_set}
use Rattle.irl_offer.specs.Purses.{Budget}
use Rattle.irl_offer.specs.declared.place.Place.{Place}
use Rattle.irl_events.specs.Queues.{Waiting, delivered, empty_lists}
use Rattle.irl_beast.specs.declared.item.Item.{Item}
use Rattle.irl_beast.specs.Passes.{read_by}
use Rattle.irl_beast.specs.Places.{place}

-- what a pass is to do
pub record Planned : Type 0 where
  -- the places that it gives
  pub places : List Place
  -- how many items each list has when it puts others behind them: the queue that it reads is empty then
  pub lengths : List ℕ
  -- and the items that it puts there
  pub more : List (List Item)

-- the plan of a pass that reads these fresh items
abbrev pub planned : Budget → Waiting Item → List Item → Planned
planned budget waiting fresh =
    let read = read_by waiting fresh in
    let places = place waiting.passes waiting.queues budget read in
    record {
      places = places;
      lengths = map length (slice_set waiting.lists waiting.passes []);
      more = delivered empty_lists read places;
    }

-- it is a plan of a pass of what waits, by some budgets and with some fresh items
abbrev pub IsPlanOf : Waiting Item → Planned → Type 0
IsPlanOf waiting plan = (budget : Budget) × (fresh : List Item) × (plan ≡ planned budget waiting fresh)

-- each list with more items behind its own
abbrev pub joined : {X : Type 0} → List (List X) → List (List X) → List (List X)
joined [] more = []
joined (list ∷ lists) [] = list ∷ lists
joined (list ∷ lists) (items ∷ more) = (list ++ items) ∷ joined lists more
