use Rattle.std.specs.Prelude.{IsTrue}
use Rattle.irl_reach.proofs.Reaching.{reached_alone, reached_closed, reached_least}
use Rattle.irl_reach.proofs.laws.the_reached_are_least.Goals as goal

pub returns-clause-closed : goal.returns-clause-closed
returns-clause-closed c = reached_closed

pub returns-clause-least : goal.returns-clause-least
returns-clause-least c = λ tape agent holds closed key there. reached_least tape agent (λ k. IsTrue (holds k)) closed key there

pub returns-clause-alone : goal.returns-clause-alone
returns-clause-alone c = reached_alone
