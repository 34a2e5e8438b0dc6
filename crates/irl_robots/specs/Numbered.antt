-- What the numbers of rules say.
use Rattle.std.specs.Prelude.{◌≡◌, ℕ, ◌-◌, ◌≤◌, List, map, false, Some, slice_get}
use Rattle.irl_robots.specs.declared.rule.PathRule.{PathRule}
use Rattle.irl_robots.specs.Lines.{Line, Access, text_of, lines, line_of}
use Rattle.irl_robots.specs.Matching.{is_empty}
use Rattle.irl_robots.specs.Normal.{normal}

-- what the lines of a file say
abbrev pub said_by : List ℕ → List Line
said_by file = map line_of (lines (text_of file))

-- The rule is what the line with its number says: an allow or disallow line, whose value isn't empty and has the
-- pattern as its normal form.
pub record IsOfLine (said : List Line) (rule : PathRule) : Type 0 where
  pub value : List ℕ
  pub counted : 1 ≤ rule.line
  pub says : slice_get said (rule.line - 1) ≡ Some (Access rule.allow value)
  pub some : is_empty value ≡ false
  pub pattern : rule.pattern ≡ normal value
