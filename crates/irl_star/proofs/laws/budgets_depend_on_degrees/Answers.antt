use Rattle.irl_star.proofs.SameDegrees.{same_budget}
use Rattle.irl_star.proofs.laws.budgets_depend_on_degrees.Goals as goal

pub returns : goal.returns
returns c = λ settings xs ys same pld. same_budget settings xs ys same pld
