use Rattle.std.proofs.Common.{◌≡◌, sym, ap, ◌∙◌}
use Rattle.irl_robots.specs.Matching.{matches}
use Rattle.irl_robots.specs.Normal.{normal}
use Rattle.irl_robots.proofs.CutLemmas.{cut-from_match, match-from_cut}
use Rattle.irl_robots.proofs.matching.is_match.Goals as goal

pub returns-clause-cut : goal.returns-clause-cut
returns-clause-cut c =
    let p = c.args.pattern.now in
    let t = normal c.args.path.now in
    let value : c.search.result ≡ matches p t = c.search.ensures ∙ ap (matches p) c.new.ensures in
    (λ yes. cut-from_match p t (sym value ∙ yes), λ cut. value ∙ match-from_cut p t cut)
