use Rattle.std.proofs.Common.{◌∙◌, ◌-◌, ℕ, List, ap, take, drop, length, arith}
use Rattle.std.proofs.lemmas.List.{take_all, length-drop}
use Rattle.irl_fate.specs.Kept.{front_left}
use Rattle.irl_fate.proofs.Ordering.{left_none}
use Rattle.irl_fate.proofs.order.first_from.Goals as goal

pub returns : goal.returns
returns c =
    let order = c.args.order.now in
    let from = c.args.from in
    let rest = take_all (length order - from) (drop from order) (omega (arith, length-drop from order)) in
    c.in_ok-first.ensures ∙ ap (λ (t : List ℕ). take c.args.most (front_left c.args.entries.now t)) rest
    ∙ ap (take c.args.most) (left_none c.args.entries.now order from c.requires.passed)
