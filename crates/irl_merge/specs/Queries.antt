-- What pending entries ask of a set, each with its place in the order in which they came.
use Rattle.std.specs.Prelude.{◌≡◌, ◌<◌, ◌+◌, ℕ, List, [], ◌∷◌, map, length, slice_index_or, Option, None}
use Rattle.irl_offer.specs.declared.entry.Entry.{Entry}
use Rattle.irl_offer.specs.declared.offer.Verdict.{Verdict}
use Rattle.irl_offer.specs.Tuple.{Tuple}
use Rattle.irl_merge.specs.declared.query.Query.{Query}

-- what an offer asks of a set, without what it only carries along
abbrev pub bare : Tuple → Tuple
bare offer = record { op = offer.op; key = offer.key; value = offer.value; from = 0; aux = [] }

-- and what an entry asks
abbrev pub bare_entry : Entry → Tuple
bare_entry entry = record { op = entry.op; key = entry.key; value = entry.value; from = 0; aux = [] }

-- these entries are those of these offers, in order: they ask the same
abbrev pub AreEntriesOf : List Tuple → List Entry → Type 0
AreEntriesOf offers entries = map bare_entry entries ≡ map bare offers

abbrev pub tuple_of : Query → Tuple
tuple_of asked = record { op = asked.op; key = asked.key; value = asked.value; from = 0; aux = [] }

-- what offers ask, each with its place, from one on
abbrev pub numbered : ℕ → List Tuple → List Query
numbered place [] = []
numbered place (offer ∷ offers) = record { key = offer.key; place = place; op = offer.op; value = offer.value }
    ∷ numbered (place + 1) offers

-- a list has at the place of each that was asked the verdict on it
abbrev pub AreTold : List Query → List (Option Verdict) → List (Option Verdict) → Type 0
AreTold asked verdicts told = (i : ℕ) (d : Query) → i < length asked
    → slice_index_or told (slice_index_or asked i d).place None ≡ slice_index_or verdicts i None
