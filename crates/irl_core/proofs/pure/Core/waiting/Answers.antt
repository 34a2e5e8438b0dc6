use Rattle.std.proofs.Common.{◌≡◌, ◌≤◌, ◌∙◌, List, [], length, get_or, ap, arith}
use Rattle.irl_base.specs.Lists.{items_of}
use Rattle.irl_core.proofs.pure.Core.waiting.Goals as goal

pub returns-clause-small : goal.returns-clause-small
returns-clause-small c =
    let is : c.length_at.result ≡ length (get_or (items_of c.self.inside.arrays.items) c.args.bucket []) = c.length_at.ensures
    ∙ ap (λ (ls : List _). length (get_or (items_of ls) c.args.bucket [])) c.deref.ensures.value in
    let short : length (get_or (items_of c.self.inside.arrays.items) c.args.bucket []) ≤ c.self.inside.settings.array = c.self.invariant.core.room c.args.bucket in
    let most : c.self.inside.settings.array ≤ 8192 = c.self.invariant.core.settings.sizes.array.1 in
    omega arith
