use Rattle.std.proofs.Common.{arith}
use Rattle.irl_key.specs.Web.{robots_text}
use Rattle.irl_answer.proofs.Chains.{short_from, asked_from}
use Rattle.irl_answer.proofs.laws.chains_are_short.Goals as goal

pub returns-clause-short : goal.returns-clause-short
returns-clause-short c = λ host answers state says.
    let short = short_from answers (robots_text host) 0 state (omega arith) says in
    omega arith

pub returns-clause-asked : goal.returns-clause-asked
returns-clause-asked c = λ host answers state says. asked_from answers (robots_text host) 0 state says
