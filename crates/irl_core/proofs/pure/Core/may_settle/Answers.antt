use Rattle.std.proofs.Common.{◌≡◌, ◌∙◌, ap, refl, [], rules}
use Rattle.std.specs.Prelude.{is_none, Option, ℕ}
use Rattle.irl_events.specs.Seen.{seen}
use Rattle.irl_core.proofs.Shown.{has_fronts, settle_is}
use Rattle.irl_core.proofs.pure.Core.may_settle.Goals as goal

pub broken-requires : goal.broken-requires
broken-requires c = has_fronts c.self.inside c.args.self.now c.in_ok-event.event c.self.invariant c.self.view_is c.in_ok-event.ensures.fronts

pub returns : goal.returns
returns c =
    let is : c.is_none.result ≡ is_none c.in_ok-broken.field-0 = search rules in
    is ∙ ap (λ (o : Option ℕ). is_none o) c.in_ok-broken.ensures
    ∙ settle_is c.self.inside c.args.self.now (seen c.in_ok-event.event) c.args.done [] c.self.invariant c.self.view_is c.in_ok-event.ensures.event refl
