use Rattle.std.proofs.Common.{◌≡◌, ◌+◌, ◌++◌, false, map, length}
use Rattle.irl_robots.specs.Lines.{lines, line_of}
use Rattle.irl_robots.specs.Agents.{are_meant}
use Rattle.irl_robots.proofs.GroupsLemmas.{gathered}
use Rattle.irl_robots.proofs.groups.rules_for.Given as goal

-- the rules so far and those of the lines that are left are those of all lines
abbrev pub invariant-loop-line : goal.invariant-loop-line
invariant-loop-line l =
    let left = lines l.line-iterator.0.now in
    record {
      told : l.rules.items ++ gathered (are_meant l.agents) (l.number + 1) l.opening l.meant (map line_of left) ≡ gathered (are_meant l.agents) 1 false false (map line_of (lines l.text));
      counted : l.number + length left ≡ length (lines l.text);
    }
