use Rattle.std.proofs.Common.{◌∙◌, [], sym, ap}
use Rattle.std.specs.Prelude.{unwrap_or}
use Rattle.std.specs.FinMap.{get}
use Rattle.irl_star.proofs.TextMaps.{get-texts}
use Rattle.irl_star.proofs.Counting.{degree_in-counts}
use Rattle.irl_star.proofs.degrees.Degrees.degree.Goals as goal

pub returns-clause-value : goal.returns-clause-value
returns-clause-value c =
    c.unwrap_or.ensures ∙ ap (λ o. unwrap_or o 0) (c.copied.ensures ∙ c.get.ensures.value
    ∙ sym (get-texts c.self.inside.degrees.entries c.args.pld.now) ∙ ap (λ m. get m c.args.pld.now) c.self.view_is)

pub returns-clause-counts : goal.returns-clause-counts
returns-clause-counts c = λ adds counts. returns-clause-value c ∙ degree_in-counts c.args.self.now adds [] counts c.args.pld.now
