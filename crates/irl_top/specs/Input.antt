-- What an input offers, line by line.
use Rattle.std.specs.Prelude.{ℕ, ◌+◌, ◌||◌, nat_lt, if◌then◌else◌, Bool, List, [], ◌∷◌, length, Option, None, Some, unwrap_or}
use Rattle.std.specs.Option.{option_map, is_none}
use Rattle.std.specs.List.{flat_map}
use Rattle.irl_offer.specs.declared.offer.Op.TheVariants.{Both}
use Rattle.irl_base.specs.Limits.{max_text}
use Rattle.irl_offer.specs.Tuple.{Tuple}
use Rattle.irl_io.specs.Lines.{lines, most_lines}
use Rattle.irl_key.specs.Key.{key_of}
use Rattle.irl_tuple.specs.Tuples.{tuple_of}
use Rattle.irl_top.specs.declared.line.LineKind.{LineKind}
use Rattle.irl_top.specs.declared.line.LineKind.TheVariants.{Text as TextLine, Tuple as TupleLine}

-- the offer of a text
abbrev pub text_tuple : List ℕ → Tuple
text_tuple line = record { op = Both; key = key_of line; value = 0; from = 0; aux = line }

-- what a line offers, or None where it is refused: a text offers itself where it isn't empty, a tuple line the offer
-- that it writes
abbrev pub line_offers : LineKind → List ℕ → Option (List Tuple)
line_offers TextLine line = Some (if nat_lt 0 (length line) then text_tuple line ∷ [] else [])
line_offers TupleLine line = option_map (λ offer. offer ∷ []) (tuple_of line)

-- whether the line of this number, from 1, is refused: it is too long, there were lines enough, or it is none of its
-- kind
abbrev pub is_refused : LineKind → ℕ → List ℕ → Bool
is_refused kind number line = nat_lt max_text (length line) || nat_lt most_lines number || is_none
    (line_offers kind line)

-- the number of the first line that is refused, where the first line has this number
abbrev pub refused_from : LineKind → ℕ → List (List ℕ) → Option ℕ
refused_from kind number [] = None
refused_from kind number (line ∷ lines) = if is_refused kind number line then Some number else refused_from kind
    (number + 1) lines

-- the lines before it
abbrev pub accepted_from : LineKind → ℕ → List (List ℕ) → List (List ℕ)
accepted_from kind number [] = []
accepted_from kind number (line ∷ lines) = if is_refused kind number line then [] else line
    ∷ accepted_from kind (number + 1) lines

-- the number of the input's first line that is refused
abbrev pub refused : LineKind → List ℕ → Option ℕ
refused kind input = refused_from kind 1 (lines input)

-- the offers of lines, the first of which has this number: those of the lines before the first that is refused
abbrev pub offered_from : LineKind → ℕ → List (List ℕ) → List Tuple
offered_from kind number lines = flat_map (λ line. unwrap_or (line_offers kind line) [])
    (accepted_from kind number lines)

-- the offers of an input
abbrev pub offered : LineKind → List ℕ → List Tuple
offered kind input = offered_from kind 1 (lines input)
