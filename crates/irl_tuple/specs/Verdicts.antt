-- The lines in which verdicts are told: `unique KEY`, `absent KEY` or `known KEY VALUE`, then a space and the text
-- where it isn't empty, and a line feed.
use Rattle.std.specs.Prelude.{ℕ, zero, suc, ◌/◌, ◌%◌, List, [], ◌∷◌, ◌++◌, codes, Option, None, Some}
use Rattle.std.specs.Char.{digit_char}
use Rattle.std.specs.Fmt.{decimal}
use Rattle.irl_offer.specs.declared.offer.Verdict.{Verdict}
use Rattle.irl_offer.specs.declared.offer.Verdict.TheVariants.{Unique, Absent, Known}
use Rattle.irl_offer.specs.declared.receipt.Judged.{Judged}
use Rattle.irl_tuple.specs.Forms.{spaced}

-- a number in so many hexadecimal digits, the highest first
abbrev pub hex_digits : ℕ → ℕ → List ℕ
hex_digits zero n = []
hex_digits (suc count) n = hex_digits count (n / 16) ++ digit_char (n % 16) ∷ []

-- a key in 16 digits
abbrev pub key_digits : ℕ → List ℕ
key_digits key = hex_digits 16 key

-- a verdict on a key
abbrev pub verdict_words : ℕ → Verdict → List ℕ
verdict_words key Unique = codes "unique " ++ key_digits key
verdict_words key Absent = codes "absent " ++ key_digits key
verdict_words key (Known value) = codes "known " ++ (key_digits key ++ 32 ∷ decimal value)

-- the line of a key and a text with their verdict; an offer that only updates has none
abbrev pub told_line : ℕ → List ℕ → Option Verdict → List ℕ
told_line key aux None = []
told_line key aux (Some verdict) = verdict_words key verdict ++ (spaced aux ++ 10 ∷ [])

abbrev pub verdict_line : Judged → List ℕ
verdict_line judged = told_line judged.offer.key judged.offer.aux judged.verdict
