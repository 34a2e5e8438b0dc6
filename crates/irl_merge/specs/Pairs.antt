-- How far the pairs of a set were given out.
use Rattle.std.specs.Prelude.{◌≡◌, ◌≤◌, ℕ, List, [], ◌∷◌, ◌++◌, map, Option, None, Some}
use Rattle.std.specs.FinMap.{entries}
use Rattle.irl_offer.specs.declared.receipt.Pair.{Pair}
use Rattle.irl_model.specs.Judging.{KeyMap}
use Rattle.irl_model.specs.Pairs.{pair_of}

-- a pair that is held back, if there is one, has at most this key
abbrev pub IsUpTo : Option Pair → ℕ → Type 0
IsUpTo None key = Unit {0}
IsUpTo (Some pair) key = pair.key ≤ key

-- the pairs that were given out and the one that is held back are these keys with their values
abbrev pub HasGiven : KeyMap → List Pair → Option Pair → Type 0
HasGiven keys given None = (given ≡ []) × (entries keys ≡ [])
HasGiven keys given (Some held) = entries keys ≡ map pair_of given ++ pair_of held ∷ []
