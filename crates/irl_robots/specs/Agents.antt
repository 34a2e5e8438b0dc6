-- Whose groups are read.
use Rattle.std.specs.Prelude.{ℕ, List, Bool}
use Rattle.irl_robots.specs.declared.groups.Agents.{Agents}
use Rattle.irl_robots.specs.declared.groups.Agents.TheVariants.{Named, All}
use Rattle.irl_robots.specs.Groups.{is_named, is_star}

-- whether a user-agent value is for these
abbrev pub are_meant : Agents → List ℕ → Bool
are_meant (Named agent) value = is_named agent.now value
are_meant All value = is_star value
