use Rattle.std.proofs.Common.{◌≡◌, ◌∙◌, ℕ, List, ap, rules}
use Rattle.irl_base.specs.Lists.{items_of, with_one}
use Rattle.irl_beast.proofs.lists.push_copy.Goals as goal

pub returns-clause-ok : goal.returns-clause-ok
returns-clause-ok c =
    let text : c.in_ok-copy.field-0 ≡ c.args.item.now.pld = search rules in
    c.in_ok-push_at.ensures.ok
    ∙ ap (λ (t : List ℕ). with_one (items_of c.args.lists.now.items) c.args.at (record { number = c.args.item.now.number; pld = t })) text
