use Rattle.std.proofs.Common.{◌≡◌, ◌≤◌, ◌∙◌, List, [], length, get_or, ap, sym, arith}
use Rattle.irl_base.specs.Lists.{items_of}
use Rattle.irl_core.specs.Steps.{durable_in}
use Rattle.irl_core.proofs.Shown.{durable_is_shown}
use Rattle.irl_core.proofs.pure.Core.durable.Goals as goal

pub returns-clause-value : goal.returns-clause-value
returns-clause-value c =
    c.length_at.ensures ∙ ap (λ (ls : List _). length (get_or (items_of ls) c.args.bucket [])) c.deref.ensures.value
    ∙ sym (durable_is_shown c.self.inside c.args.bucket c.self.invariant) ∙ ap (λ x. durable_in x c.args.bucket) c.self.view_is

pub returns-clause-small : goal.returns-clause-small
returns-clause-small c =
    let is : c.length_at.result ≡ length (get_or (items_of c.self.inside.lists.items) c.args.bucket []) = c.length_at.ensures
    ∙ ap (λ (ls : List _). length (get_or (items_of ls) c.args.bucket [])) c.deref.ensures.value in
    let short : length (get_or (items_of c.self.inside.lists.items) c.args.bucket []) ≤ c.self.inside.settings.cap = c.self.invariant.short c.args.bucket in
    let most : c.self.inside.settings.cap ≤ 1099511627776 = c.self.invariant.core.settings.sizes.cap.1 in
    omega arith
