use Rattle.std.proofs.Common.{sym, not}
use Rattle.irl_robots.specs.Groups.{is_token_octet}
use Rattle.irl_robots.proofs.LinesLemmas.{before-Some, before-None}
use Rattle.irl_robots.proofs.groups.token.Goals as goal

pub returns-in-Some : goal.returns-in-Some
returns-in-Some c = before-Some (λ b. not (is_token_octet b)) c.args.value.now c.in-Some.end (sym c.in-Some.ensures)

pub returns-in-None : goal.returns-in-None
returns-in-None c = before-None (λ b. not (is_token_octet b)) c.args.value.now (sym c.in-None.ensures)
