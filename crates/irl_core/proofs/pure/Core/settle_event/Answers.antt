use Rattle.std.proofs.Common.{◌≡◌, ◌∙◌, List, ℕ, length, map, ap, sym}
use Rattle.irl_model.specs.Book.{lengths_of}
use Rattle.irl_events.specs.Events.{Settle as SeenSettle}
use Rattle.irl_base.specs.Lists.{items_of}
use Rattle.irl_core.specs.Steps.{CoreState}
use Rattle.irl_core.proofs.Shown.{lengths_are}
use Rattle.irl_core.proofs.pure.Core.settle_event.Goals as goal

pub returns-clause-event : goal.returns-clause-event
returns-clause-event c =
    let a = c.self.inside in
    let fronts : c.in_ok-fronts.fronts ≡ lengths_of c.args.self.now.urls = c.in_ok-fronts.ensures ∙ c.deref-2.ensures.value ∙ c.in_ok-lengths.ensures
    ∙ ap (λ (ls : List _). map length (items_of ls)) c.deref.ensures.value ∙ sym (lengths_are a c.self.invariant) ∙ ap (λ (y : CoreState). lengths_of y.urls) c.self.view_is in
    ap (λ (ns : List ℕ). SeenSettle ns c.args.done) fronts
