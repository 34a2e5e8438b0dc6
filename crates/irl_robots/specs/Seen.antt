-- What a line says, as the code holds it.
use Rattle.irl_robots.specs.declared.lines.Line.{Line as Parsed}
use Rattle.irl_robots.specs.declared.lines.Line.TheVariants as parsed
use Rattle.irl_robots.specs.Lines.{Line, Agent, Access, Other}

abbrev pub seen : Parsed → Line
seen (parsed.Agent value) = Agent value.now
seen (parsed.Access allow value) = Access allow value.now
seen parsed.Other = Other
