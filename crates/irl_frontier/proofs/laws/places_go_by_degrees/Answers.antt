use Rattle.std.proofs.Common.{ap}
use mathlib.Core.Path.{fun_ext}
use Rattle.irl_offer.specs.Purses.{Budget}
use Rattle.irl_star.proofs.SameDegrees.{same_budget}
use Rattle.irl_beast.specs.Passes.{read_by}
use Rattle.irl_beast.specs.Places.{place}
use Rattle.irl_frontier.proofs.laws.places_go_by_degrees.Goals as goal

pub returns : goal.returns
returns c = λ x fresh adds others same.
    ap (λ (b : Budget). place x.waiting.passes x.waiting.queues b (read_by x.waiting fresh)) (fun_ext (same_budget x.settings adds others same))
