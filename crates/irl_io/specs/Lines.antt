-- The lines of some bytes.
use Rattle.std.specs.Prelude.{◌≡◌, ℕ, ◌≤◌, ◌≢◌, Bool, ◌==◌, List, [], ◌∷◌, ◌++◌, length, if◌then◌else◌}
use Rattle.std.specs.List.{onto_first, flat_map, AllByRecursion}
use Rattle.irl_base.specs.Limits.{max_text}

-- a line feed, at which a line ends
abbrev pub is_line_feed : ℕ → Bool
is_line_feed b = b == 10

-- A line ends at each line feed, which is no part of it. Bytes behind the last line feed are a line if there are any
-- (POSIX.1-2017, Base Definitions, 3.206 Line and 3.195 Incomplete Line).
abbrev pub lines : List ℕ → List (List ℕ)
lines [] = []
lines (b ∷ bytes) = if is_line_feed b then [] ∷ lines bytes else onto_first b (lines bytes)

-- the most lines of an input
abbrev pub most_lines : ℕ
most_lines = 4294967295

-- a line that may be given: it is short, and no byte of it is a line feed
pub record IsLine (line : List ℕ) : Type 0 where
  pub short : length line ≤ max_text
  pub whole : AllByRecursion (λ b. b ≢ 10) line

-- the text of these lines, a line feed behind each
abbrev pub text : List (List ℕ) → List ℕ
text ls = flat_map (λ line. line ++ 10 ∷ []) ls

-- no bytes stand behind the last line feed
abbrev pub IsClosed : List ℕ → Type 0
IsClosed [] = Unit {0}
IsClosed (b ∷ []) = b ≡ 10
IsClosed (b ∷ c ∷ bytes) = IsClosed (c ∷ bytes)
