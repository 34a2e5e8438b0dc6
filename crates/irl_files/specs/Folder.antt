-- The folder of a store, and the names of its files.
use Rattle.std.specs.Prelude.{ℕ, ◌+◌, ◌/◌, ◌%◌, List, [], ◌∷◌}

-- a number below 10,000 in four decimal digits
abbrev pub four_digits : ℕ → List ℕ
four_digits n = (48 + n / 1000) ∷ (48 + n / 100 % 10) ∷ (48 + n / 10 % 10) ∷ (48 + n % 10) ∷ []

-- the path of the folder that a text names: an empty one names `.`, the folder that the program runs in
abbrev pub named_folder : List ℕ → List ℕ
named_folder [] = 46 ∷ []
named_folder (byte ∷ bytes) = byte ∷ bytes
