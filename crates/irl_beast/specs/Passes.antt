-- What a pass makes of what waits (Lee, Leonard, Wang and Loguinov, "IRLbot: Scaling to 6 Billion Pages and Beyond",
-- WWW 2008, section 6).
use Rattle.std.specs.Prelude.{ℕ, List, ◌++◌, map}
use Rattle.irl_offer.specs.Purses.{Budget}
use Rattle.irl_base.specs.Lists.{list_at}
use Rattle.irl_events.specs.Queues.{Waiting, after_pass}
use Rattle.irl_beast.specs.declared.item.Item.{Item}
use Rattle.irl_beast.specs.Places.{place}

-- what the next pass reads: the next queue, and then the fresh items
abbrev pub read_by : Waiting Item → List Item → List Item
read_by waiting fresh = list_at waiting.lists waiting.passes ++ fresh

-- what waits after a pass: the items that it read left their queue and were put in their places
abbrev pub passed : Budget → Waiting Item → List Item → Waiting Item
passed budget waiting fresh =
    let read = read_by waiting fresh in after_pass waiting read (place waiting.passes waiting.queues budget read)

-- the numbers of items, and what waits by its numbers alone, as the events of a crawl have it
abbrev pub item_numbers : List Item → List ℕ
item_numbers items = map (λ item. item.number) items

abbrev pub numbered : Waiting Item → Waiting ℕ
numbered waiting = record { lists = map item_numbers waiting.lists; queues = waiting.queues; passes = waiting.passes }
