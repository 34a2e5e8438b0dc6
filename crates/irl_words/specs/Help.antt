-- When the words of a command ask for its help.
use Rattle.std.specs.Prelude.{ℕ, Bool, false, ◌||◌, ◌&&◌, List, [], ◌∷◌, codes, is_some}
use Rattle.std.specs.Str.{bytes_eq}
use Rattle.irl_words.specs.Options.{name_of}

-- a word that asks for help
abbrev pub is_help_word : List ℕ → Bool
is_help_word word = bytes_eq word (codes "--help") || bytes_eq word (codes "-h")

-- the first word names a command, and the next one asks for help
abbrev pub asks_help : List (List ℕ) → Bool
asks_help [] = false
asks_help (command ∷ []) = false
asks_help (command ∷ option ∷ words) = is_some (name_of command) && is_help_word option
