-- What the words of the command line ask for.
use Rattle.std.specs.Prelude.{ℕ, nat_eq, Bool, true, List, [], ◌∷◌, codes, if◌then◌else◌}
use Rattle.std.specs.Cmp.Lexicographic.{pointwise}
use Rattle.irl_words.specs.Help.{is_help_word}
use Rattle.irl.specs.declared.words.Request.{Request}
use Rattle.irl.specs.declared.words.Request.TheVariants.{Help, Version, Refused, Command}

-- a word is this text
abbrev pub is_word : List ℕ → List ℕ → Bool
is_word word text = pointwise nat_eq word text

-- a word that names no folder: an empty one, and one that begins with `-`
abbrev pub names_no_folder : List ℕ → Bool
names_no_folder [] = true
names_no_folder (byte ∷ bytes) = nat_eq byte 45

-- what all the words ask for: help or the version where the first word is so named in place of a folder, and a refusal
-- where there is none or it names no folder
abbrev pub asked : List (List ℕ) → Request
asked [] = Refused
asked (first ∷ words) =
    if is_help_word first then Help
    else (if is_word first (codes "--version") then Version
    else (if names_no_folder first then Refused else Command))

-- the word that the words are refused with where the first names no folder: that one, or `-` where it is empty or there
-- is none
abbrev pub refusing_word : List (List ℕ) → List ℕ
refusing_word [] = codes "-"
refusing_word ([] ∷ words) = codes "-"
refusing_word ((byte ∷ bytes) ∷ words) = byte ∷ bytes

-- the folder: the first word, and where there is none the current one
abbrev pub folder_in : List (List ℕ) → List ℕ
folder_in [] = codes "."
folder_in (first ∷ words) = first
