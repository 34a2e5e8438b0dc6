use Rattle.std.proofs.Common.{◌≡◌, map}
use Rattle.irl_robots.specs.Lines.{lines, line_of}
use Rattle.irl_robots.specs.Groups.{is_named}
use Rattle.irl_robots.proofs.GroupsLemmas.{any_agent}
use Rattle.irl_robots.proofs.groups.has_group.Given as goal

-- no line so far names the agent
abbrev pub invariant-loop-line : goal.invariant-loop-line
invariant-loop-line l =
    any_agent (is_named l.agent) (map line_of (lines l.line-iterator.0.now)) ≡ any_agent (is_named l.agent) (map line_of (lines l.text))
