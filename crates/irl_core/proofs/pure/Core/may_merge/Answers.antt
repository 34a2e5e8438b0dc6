use Rattle.std.proofs.Common.{◌≡◌, ◌∙◌, ℕ, List, length, map, ap, sym}
use Rattle.irl_events.specs.Legal.{one_rose}
use Rattle.irl_base.specs.Lists.{items_of}
use Rattle.irl_model.specs.Book.{judged_cut, lengths_of}
use Rattle.irl_core.specs.Kept.{shown}
use Rattle.irl_core.specs.Steps.{CoreState, may_merge}
use Rattle.irl_core.proofs.Shown.{lengths_are, cut_is_long}
use Rattle.irl_core.proofs.pure.Core.may_merge.Goals as goal

pub a_front_rose-requires : goal.a_front_rose-requires
a_front_rose-requires c =
    ap length c.deref-3.ensures.value ∙ ap length (c.in_ok-lengths.ensures ∙ ap (λ (ls : List _). map length (items_of ls)) c.deref.ensures.value)
    ∙ cut_is_long c.self.inside c.self.invariant ∙ ap length (sym c.deref-2.ensures.value)

pub returns : goal.returns
returns c =
    let a = c.self.inside in
    let lengths : c.in_ok-lengths.lengths.items ≡ lengths_of (shown a).urls = c.in_ok-lengths.ensures ∙ ap (λ (ls : List _). map length (items_of ls)) c.deref.ensures.value
    ∙ sym (lengths_are a c.self.invariant) in
    c.a_front_rose.ensures
    ∙ ap (λ (ns : List ℕ). one_rose ns c.deref-3.result.now) (c.deref-2.ensures.value ∙ c.self.invariant.cut)
    ∙ ap (one_rose (judged_cut (shown a).urls)) (c.deref-3.ensures.value ∙ lengths)
    ∙ ap (λ (x : CoreState). may_merge x) c.self.view_is
