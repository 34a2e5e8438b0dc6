-- The turns of a table, each with a value behind it: who holds which, and what stands behind each. A value is plain
-- data here. A turn is a lock: its word is 0 where nobody holds it.
use Rattle.std.specs.Prelude.{◌≡◌, ◌≢◌, ◌⊎◌, ℕ, ◌+◌, ◌≤◌, List, [], ◌∷◌, length, Option, Some, slice_index, ⊤}
use mathlib.Core.Option.{Option as Home, some}
use lib.ListN.{get_elem?}

module _ {H : Type 0} where
  -- a seat holds a turn, and keeps that this stands behind it
  abbrev pub Holds : ℕ → H → List (ℕ × H) → Type 0
  Holds t h [] = ⊥
  Holds t h (x ∷ xs) = ((x.0 ≡ t) × (x.1 ≡ h)) ⊎ Holds t h xs

  -- it holds no turn twice
  abbrev pub AreApart : List (ℕ × H) → Type 0
  AreApart [] = ⊤
  AreApart (x ∷ xs) = ((h : H) → Holds x.0 h xs → ⊥) × AreApart xs

  -- Of one seat: it is the one that the turns which it holds name, and what it keeps of each is what stands behind it.
  pub record HoldsTurns (last : ℕ) (turn holder : ℕ → ℕ) (held : ℕ → H) (id : ℕ) (turns : List (ℕ × H)) : Type 0 where
    pub each : (t : ℕ) (h : H) → Holds t h turns → (t ≤ last) × (holder t ≡ id) × (turn t ≢ 0) × (held t ≡ h)
    pub apart : AreApart turns

  -- Of all: the turns are 0 to the last one, each with a word and a slot of its number. The value behind a turn that
  -- nobody holds is at home; one that is held is held by one seat, which keeps what stands behind it.
  pub record AreTurns (last : ℕ) (words : List ℕ) (homes : List (Home (Option H))) (seats : List (List (ℕ × H)))
      (held : ℕ → H) : Type 0 where
    pub turn : ℕ → ℕ
    pub holder : ℕ → ℕ
    pub homes_are : length homes ≡ last + 1
    pub turn_words : (t : ℕ) → t ≤ last → slice_index words t ≡ turn t
    pub at_home : (t : ℕ) → t ≤ last → turn t ≡ 0 → get_elem? homes t ≡ some (some (Some (held t)))
    pub out : (t : ℕ) → t ≤ last → turn t ≢ 0 → (turns : List (ℕ × H)) × (get_elem? seats (holder t) ≡ some turns)
        × Holds t (held t) turns
    pub seats_are : (id : ℕ) (turns : List (ℕ × H)) → get_elem? seats id ≡ some turns
        → HoldsTurns last turn holder held id turns
