use Rattle.std.proofs.Common.{◌≡◌, ◌∙◌, sym, true, false, rules}
use Rattle.std.proofs.lemmas.Bool.{cond-true}
use Rattle.irl_events.specs.Seen.{seen}
use Rattle.irl_core.proofs.Shown.{has_fronts, settle_is}
use Rattle.irl_core.proofs.Effects.{keeps_settle, shows_settle}
use Rattle.irl_core.proofs.pure.Core.add_settle.Goals as goal

pub add_event-requires : goal.add_event-requires
add_event-requires c = has_fronts c.self.inside c.args.self.now c.in_ok-event.event c.self.invariant c.self.view_is c.in_ok-event.ensures.fronts

pub returns-then-not-branch-clause-value : goal.returns-then-not-branch-clause-value
returns-then-not-branch-clause-value c =
    let no : c.in_ok-add_event.field-0 ≡ false = search rules in
    sym no ∙ c.in_ok-add_event.ensures.value
    ∙ settle_is c.self.inside c.args.self.now (seen c.in_ok-event.event) c.args.done c.new-places.result c.self.invariant c.self.view_is c.in_ok-event.ensures.event c.new-places.ensures

pub returns-clause-value : goal.returns-clause-value
returns-clause-value c =
    let yes : c.in_ok-add_event.field-0 ≡ true = search rules in
    sym yes ∙ c.in_ok-add_event.ensures.value
    ∙ settle_is c.self.inside c.args.self.now (seen c.in_ok-event.event) c.args.done c.new-places.result c.self.invariant c.self.view_is c.in_ok-event.ensures.event c.new-places.ensures

pub invariant_of-self-2 : goal.invariant_of-self-2
invariant_of-self-2 c =
    let yes : c.in_ok-add_event.field-0 ≡ true = search rules in
    let took = settle_is c.self.inside c.args.self.now (seen c.in_ok-event.event) c.args.done c.new-places.result c.self.invariant c.self.view_is c.in_ok-event.ensures.event c.new-places.ensures in
    keeps_settle c.self.inside c.args.self.now c.add_event.new.events c.add_event.new.fates c.in_ok-event.event c.args.done c.new-places.result c.self.invariant c.self.view_is
    c.in_ok-event.ensures.event c.new-places.ensures (sym took ∙ sym c.in_ok-add_event.ensures.value ∙ yes)
    (c.in_ok-add_event.ensures.events ∙ cond-true c.in_ok-add_event.field-0 _ _ yes)
    (c.in_ok-add_event.ensures.fates ∙ cond-true c.in_ok-add_event.field-0 _ _ yes)

pub returns-clause-ok : goal.returns-clause-ok
returns-clause-ok c = λ e.
    let yes : c.in_ok-add_event.field-0 ≡ true = search rules in
    shows_settle c.self.inside c.args.self.now c.add_event.new.events c.in_ok-event.event c.args.done c.new-places.result c.self.view_is c.in_ok-event.ensures.event c.new-places.ensures
    (c.in_ok-add_event.ensures.events ∙ cond-true c.in_ok-add_event.field-0 _ _ yes)
