use Rattle.std.proofs.Common.{◌∷◌, ◌<◌, length, take, sym, ap, ◌∙◌, arith}
use Rattle.std.proofs.lemmas.Bool.Decides.{nat_tests}
use Rattle.irl_robots.specs.Lines.{lines}
use Rattle.irl_robots.proofs.LinesLemmas.{lines-Some, lines-None}
use Rattle.irl_robots.proofs.lines.split_line.Goals as goal

pub returns-in-Some : goal.returns-in-Some
returns-in-Some c =
    let text = c.args.text.now in
    lines-Some text c.in-Some.at (sym c.in-Some.ensures)
    ∙ ap (λ rest. take c.in-Some.at text ∷ lines rest) (sym c.behind_end.ensures)

pub returns-in-None : goal.returns-in-None
returns-in-None c =
    let some : 0 < length c.args.text.now = grind (arith, nat_tests) in
    lines-None c.args.text.now some (sym c.in-None.ensures)
