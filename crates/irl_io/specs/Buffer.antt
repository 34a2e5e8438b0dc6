-- The fields of a reader of lines.
use Rattle.std.specs.Prelude.{◌≡◌, ◌≤◌, length}
use Rattle.irl_io.specs.Lines.{most_lines}
use Rattle.irl_io.specs.declared.lines.Lines.TheInside.{Inside}

-- what was read ahead lies between two places of the buffer, which never grows
pub record IsBuffer (a : Inside) : Type 0 where
  pub ordered : a.start ≤ a.end
  pub within : a.end ≤ 131072
  pub room : length a.buffer.items ≡ 131072
  pub number : a.number ≤ most_lines
