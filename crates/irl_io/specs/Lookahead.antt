-- What the bytes left begin with, by those that were read ahead and those that the source has left.
use Rattle.std.specs.Prelude.{◌≡◌, ℕ, ◌+◌, ◌<◌, ◌≤◌, ⊤, ◌⊎◌, List, [], length, Option}
use Rattle.std.specs.List.{position_or_len}
use Rattle.std.specs.Io.KnownBytes.{IsAtEnd}
use Rattle.irl_base.specs.Limits.{max_text}
use Rattle.irl_io.specs.Lines.{is_line_feed}
use Rattle.irl_io.specs.declared.lines.Lookahead.{Lookahead}
use Rattle.irl_io.specs.declared.lines.Lookahead.TheVariants.{Line, Long, End, Failed}

-- a whole line was read ahead: its line feed behind it, or else nothing and nothing left
pub record HasLine (size whole : ℕ) (ahead : List ℕ) (left : Option (List ℕ)) : Type 0 where
  pub first : size ≡ position_or_len is_line_feed ahead
  pub short : size ≤ max_text
  pub some : 0 < whole
  pub within : whole ≤ length ahead
  pub ended : (whole ≡ size + 1) ⊎ ((whole ≡ size) × (whole ≡ length ahead) × IsAtEnd left)

abbrev pub Stands : Lookahead → List ℕ → Option (List ℕ) → Type 0
Stands (Line size whole) ahead left = HasLine size whole ahead left
Stands Long ahead left = max_text < position_or_len is_line_feed ahead
Stands End ahead left = (ahead ≡ []) × IsAtEnd left
Stands Failed ahead left = ⊤
