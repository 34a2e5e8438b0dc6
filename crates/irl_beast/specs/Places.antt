-- Where the items of a pass are put, by the budgets of their domains.
use Rattle.std.specs.Prelude.{ℕ, ◌+◌, ◌/◌, nat_eq, nat_le, if◌then◌else◌, List, [], ◌∷◌, ◌++◌, count_by, bytes_eq}
use Rattle.irl_offer.specs.Purses.{Budget}
use Rattle.irl_offer.specs.declared.place.Place.{Place}
use Rattle.irl_offer.specs.declared.place.Slot.{Slot}
use Rattle.irl_offer.specs.declared.place.Slot.TheVariants.{Front, Queue, Last}
use Rattle.irl_beast.specs.declared.item.Item.{Item}

-- how many of the items are of this domain
unfoldable pub count_of : List Item → List ℕ → ℕ
count_of items pld = count_by (λ item. bytes_eq pld item.pld) items

-- in the pass behind p others, with j queues, the slot of an item that s whole budgets of its domain are read before
abbrev pub slot_at : ℕ → ℕ → ℕ → Slot
slot_at p j s = if nat_eq s 0 then Front else (if nat_le (p + 1 + s) j then Queue (p + 1 + s) else Last)

-- the place of an item that these are read before
abbrev pub place_behind : ℕ → ℕ → Budget → List Item → Item → Place
place_behind p j budget earlier item =
    record { number = item.number; slot = slot_at p j (count_of earlier item.pld / budget item.pld) }

-- the places of items, in order, that others are read before
unfoldable pub places_behind : ℕ → ℕ → Budget → List Item → List Item → List Place
places_behind p j budget earlier [] = []
places_behind p j budget earlier (item ∷ items) =
    place_behind p j budget earlier item ∷ places_behind p j budget (earlier ++ item ∷ []) items

-- the places of the items that a pass reads
abbrev pub place : ℕ → ℕ → Budget → List Item → List Place
place p j budget items = places_behind p j budget [] items
