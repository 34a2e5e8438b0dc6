-- A sorted run on the disk: keys with their values, 16 bytes each, the lowest byte first, keys rising. What lies past
-- the last entry means nothing.
use Rattle.std.specs.Prelude.{◌≡◌, ◌⊎◌, ℕ, zero, suc, ◌+◌, ◌*◌, ◌^◌, ◌<◌, ◌≤◌, List, [], ◌∷◌, ◌++◌, length, drop, Option, None, Some}
use Rattle.std.specs.List.{flat_map, AllByRecursion}
use Rattle.std.specs.FinMap.{entries}
use Rattle.byteorder.specs.Endian.{little_bytes, little_number}
use Rattle.irl_offer.specs.declared.receipt.Pair.{Pair}
use Rattle.irl_model.specs.Judging.{KeyMap}

-- the bytes of keys with their values
abbrev pub pairs_bytes : List (ℕ × ℕ) → List ℕ
pairs_bytes pairs = flat_map (λ p. little_bytes 8 p.0 ++ little_bytes 8 p.1) pairs

-- each key and each value has its room
abbrev pub AreWordPairs : List (ℕ × ℕ) → Type 0
AreWordPairs pairs = AllByRecursion (λ p. (p.0 < 2 ^ 64) × (p.1 < 2 ^ 64)) pairs

abbrev pub AreWords : KeyMap → Type 0
AreWords keys = AreWordPairs (entries keys)

-- ---- what rises
-- the key of the last of these, or else this one
abbrev pub last_from : Option ℕ → List Pair → Option ℕ
last_from last [] = last
last_from last (pair ∷ pairs) = last_from (Some pair.key) pairs

-- a key is above the last one, if there is one
abbrev pub IsAbove : Option ℕ → ℕ → Type 0
IsAbove None key = Unit {0}
IsAbove (Some last) key = last < key

-- each key is above the one before it, and the first above this one
abbrev pub RisesFrom : Option ℕ → List Pair → Type 0
RisesFrom last [] = Unit {0}
RisesFrom last (pair ∷ pairs) = IsAbove last pair.key × RisesFrom (Some pair.key) pairs

-- ---- damage
-- the key before entry i of a part of a run, where this one is the last before the part
abbrev pub last_at : Option ℕ → ℕ → List ℕ → Option ℕ
last_at last zero part = last
last_at last (suc i) part = Some (little_number 8 (drop (16 * i) part))

-- the key at this place of a run isn't above the one before it
pub record FallsAt (count : ℕ) (file : List ℕ) (at : ℕ) : Type 0 where
  pub i : ℕ
  pub within : i + 1 < count
  pub place : at ≡ 16 * (i + 1)
  -- both entries are there whole
  pub there : at + 16 ≤ length file
  pub falls : little_number 8 (drop at file) ≤ little_number 8 (drop (16 * i) file)

-- the key at this place of a part of a run isn't above the one before it, which for the first is the last key before
-- the part
pub record FallsFrom (last : Option ℕ) (part : List ℕ) (at : ℕ) : Type 0 where
  pub i : ℕ
  pub within : 16 * i + 16 ≤ length part
  pub place : at ≡ 16 * i
  pub before : ℕ
  pub is_before : last_at last i part ≡ Some before
  pub falls : little_number 8 (drop at part) ≤ before

-- the file ends before so many entries, at this place
pub record EndsEarly (count : ℕ) (file : List ℕ) (at : ℕ) : Type 0 where
  pub short : length file < 16 * count
  pub place : at ≡ length file

-- a file has no run of so many entries, as this place shows
abbrev pub IsSpoiltRun : ℕ → List ℕ → ℕ → Type 0
IsSpoiltRun count file at = EndsEarly count file at ⊎ FallsAt count file at
