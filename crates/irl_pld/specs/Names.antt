-- Suffix texts: names, one on each line.
use Rattle.std.specs.Prelude.{ℕ, Bool, not, ◌&&◌, ◌||◌, ◌==◌, nat_lt, nat_le, List, [], ◌∷◌, length, bytes_eq, Option}
use Rattle.std.specs.Char.{is_ascii_digit, is_ascii_lowercase}
use Rattle.std.specs.List.{list_all, list_any, position_from}
use Rattle.irl_pld.specs.Cut.{split}

-- `-`, a digit or a lower-case letter
abbrev pub is_name_byte : ℕ → Bool
is_name_byte b = b == 45 || is_ascii_digit b || is_ascii_lowercase b

-- one such byte or more
abbrev pub is_label : List ℕ → Bool
is_label label = nat_lt 0 (length label) && list_all is_name_byte label

-- a suffix name: labels joined by dots, 253 bytes at most in all
abbrev pub is_name : List ℕ → Bool
is_name name = nat_le (length name) 253 && list_all is_label (split 46 name)

-- the lines of a suffix text, joined by line feeds; an empty text has none
abbrev pub lines_of : List ℕ → List (List ℕ)
lines_of [] = []
lines_of (b ∷ text) = split 10 (b ∷ text)

-- the line is no name
abbrev pub is_bad : List ℕ → Bool
is_bad line = not (is_name line)

-- the first line that is no name, counted from 1
abbrev pub bad_line : List ℕ → Option ℕ
bad_line text = position_from is_bad 1 (lines_of text)

-- some line of the text is this name
abbrev pub is_listed : List ℕ → List ℕ → Bool
is_listed text name = list_any (bytes_eq name) (lines_of text)
