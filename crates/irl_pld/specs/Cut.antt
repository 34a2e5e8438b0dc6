-- A text and its parts between separators.
use Rattle.std.specs.Prelude.{ℕ, ◌==◌, List, [], ◌∷◌, Option, Some, None, if◌then◌else◌}
use Rattle.std.specs.List.{slice_split}

-- the bytes before the first separator, and what follows it where there is one
unfoldable pub cut : ℕ → List ℕ → List ℕ × Option (List ℕ)
cut separator [] = ([], None)
cut separator (b ∷ bytes) =
    let later = cut separator bytes in
    if b == separator then ([], Some bytes) else (b ∷ later.0, later.1)

-- the parts between the separators, one more than there are separators
abbrev pub split : ℕ → List ℕ → List (List ℕ)
split separator bytes = slice_split (λ b. b == separator) bytes

-- the parts of what is left of a text, if anything is
abbrev pub parts_left : ℕ → Option (List ℕ) → List (List ℕ)
parts_left separator None = []
parts_left separator (Some bytes) = split separator bytes
