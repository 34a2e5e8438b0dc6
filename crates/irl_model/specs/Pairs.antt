-- Keys with their values, in the order of the keys.
use Rattle.std.specs.Prelude.{◌≡◌, ℕ, List, map, IsTrue}
use Rattle.std.specs.Ordering.{nat_cmp}
use Rattle.std.specs.FinMap.{entries, from_entries, is_sorted}
use Rattle.irl_offer.specs.declared.receipt.Pair.{Pair}
use Rattle.irl_model.specs.Judging.{KeyMap}

abbrev pub pair_of : Pair → ℕ × ℕ
pair_of pair = (pair.key, pair.value)

-- these are all of a set's keys with their values, keys rising
abbrev pub ArePairsOf : KeyMap → List Pair → Type 0
ArePairsOf keys pairs = map pair_of pairs ≡ entries keys

-- each key is above the one before it
abbrev pub IsRising : List Pair → Type 0
IsRising pairs = IsTrue (is_sorted nat_cmp (map pair_of pairs))

-- the set that has these
abbrev pub keys_of : List Pair → KeyMap
keys_of pairs = from_entries (map pair_of pairs)
