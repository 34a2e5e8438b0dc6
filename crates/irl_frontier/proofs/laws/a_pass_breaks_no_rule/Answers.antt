use Rattle.irl_star.specs.Budgets.{budget}
use Rattle.irl_beast.proofs.LegalPasses.{pass_legal}
use Rattle.irl_frontier.proofs.laws.a_pass_breaks_no_rule.Goals as goal

pub returns : goal.returns
returns c = λ x adds fresh kept begun front rising. pass_legal x.progress x.waiting (budget x.settings adds) fresh begun front kept.waiting rising
