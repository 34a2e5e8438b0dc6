use Rattle.std.proofs.Common.{◌++◌, ◌-◌, sym, ap, ◌∙◌, take, drop, length}
use Rattle.irl_robots.specs.Normal.{normal}
use Rattle.irl_robots.proofs.NormalLemmas.{normal-at_lone}
use Rattle.irl_robots.proofs.octets.split_unit.Goals as goal

pub returns-in-len1-up : goal.returns-in-len1-up
returns-in-len1-up c =
    let path = c.args.path.now in
    normal-at_lone path c.in-len1-up.len_at_least c.in-None.ensures
    ∙ ap (λ unit. unit ++ normal (take (length path - 1) (drop 1 path))) (sym c.lone.ensures)
