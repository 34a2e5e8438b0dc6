-- Which paths a pattern matches (RFC 9309, sections 2.2.2 and 2.2.3). Pattern and path are in their normal form.
use Rattle.std.specs.Prelude.{◌≡◌, ℕ, List, [], ◌∷◌, Bool, true, false, ◌&&◌, ◌||◌, ◌==◌, if◌then◌else◌}
use Rattle.std.specs.List.{AllZip, concat}

-- a part of a pattern: any run of octets, or one octet
pub data Part : Type 0 where
  Run : Part
  One : ℕ → Part

-- `*` stands for any run of octets, any other octet for itself
abbrev pub part_of : ℕ → Part
part_of c = if c == 42 then Run else One c

-- The parts of a pattern. `$` as its last octet stands for the path's end; without it anything may follow.
abbrev pub parts : List ℕ → List Part
parts [] = Run ∷ []
parts (c ∷ []) = if c == 36 then [] else part_of c ∷ Run ∷ []
parts (c ∷ d ∷ cs) = part_of c ∷ parts (d ∷ cs)

-- the part stands for the piece
abbrev pub StandsFor : Part → List ℕ → Type 0
StandsFor Run piece = Unit {0}
StandsFor (One c) piece = piece ≡ c ∷ []

-- the path is cut into pieces, one for each part
abbrev pub IsCut : List Part → List ℕ → Type 0
IsCut ps path = (pieces : List (List ℕ)) × AllZip StandsFor ps pieces × (concat pieces ≡ path)

-- the pattern matches the path
abbrev pub Matches : List ℕ → List ℕ → Type 0
Matches pattern path = IsCut (parts pattern) path

abbrev pub is_empty : List ℕ → Bool
is_empty [] = true
is_empty (c ∷ cs) = false

-- whether an end of the octets passes, where all of them and none of them are ends
abbrev pub some_end : (List ℕ → Bool) → List ℕ → Bool
some_end passes [] = passes []
some_end passes (c ∷ cs) = passes (c ∷ cs) || some_end passes cs

-- whether the first octet is this one, and the others pass
abbrev pub one_then : ℕ → (List ℕ → Bool) → List ℕ → Bool
one_then c passes [] = false
one_then c passes (d ∷ ds) = (c == d) && passes ds

-- the same as a test, which tries each end of the path at each `*`
unfoldable pub matches : List ℕ → List ℕ → Bool
matches [] path = true
matches (c ∷ cs) path =
    if c == 42 then some_end (matches cs) path else (if (c == 36) && is_empty cs then is_empty path else one_then c
    (matches cs) path)
