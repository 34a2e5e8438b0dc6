use Rattle.std.proofs.Common.{◌≡◌, ◌-◌, ◌++◌, true, get_or, sym, ap, ◌∙◌, take, drop, length, arith}
use Rattle.std.proofs.lemmas.Bool.Decides.{nat_tests}
use Rattle.irl_robots.specs.Normal.{is_triplet, normal}
use Rattle.irl_robots.proofs.NormalLemmas.{normal-at_triplet}
use Rattle.irl_robots.proofs.octets.split_triplet.Goals as goal

pub returns-in-Some : goal.returns-in-Some
returns-in-Some c =
    let path = c.args.path.now in
    let whole : is_triplet (get_or path 0 0) (get_or path 1 0) (get_or path 2 0) ≡ true = grind (arith, nat_tests) in
    normal-at_triplet path c.in-37.len_at_least whole
    ∙ ap (λ unit. unit ++ normal (take (length path - 3) (drop 3 path))) (sym c.triplet.ensures)
