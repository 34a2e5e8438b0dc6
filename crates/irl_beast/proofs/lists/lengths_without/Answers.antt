use Rattle.std.proofs.Common.{◌∙◌, ℕ, List, [], length, set, sym, ap}
use Rattle.std.proofs.lemmas.List.{map-set}
use Rattle.irl_base.specs.Lists.{items_of}
use Rattle.irl_beast.proofs.lists.lengths_without.Goals as goal

pub returns-clause-lengths : goal.returns-clause-lengths
returns-clause-lengths c =
    ap (λ (ns : List ℕ). set ns c.args.at 0) c.in_ok-lengths.ensures
    ∙ sym (map-set length (items_of c.args.lists.now) c.args.at [])
