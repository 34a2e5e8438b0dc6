use Rattle.std.proofs.Common.{◌≡◌, ◌∙◌, ℕ, List, Some, sym, ap, subst, rules}
use mathlib.Core.Path.{fun_ext}
use Rattle.irl_offer.specs.Purses.{Budget}
use Rattle.irl_offer.specs.declared.place.Place.{Place}
use Rattle.irl_events.specs.Events.{Pass as SeenPass}
use Rattle.irl_events.specs.Legal.{broken}
use Rattle.irl_star.specs.Degrees.{Counts}
use Rattle.irl_beast.specs.Passes.{read_by}
use Rattle.irl_beast.specs.Places.{place}
use Rattle.irl_frontier.specs.Frontier.{Frontier, places_for, shown}
use Rattle.irl_frontier.specs.Plans.{IsPlanOf, PlansPass}
use Rattle.irl_frontier.proofs.Passing.{placed, plan_is, plan_passes}
use Rattle.irl_frontier.proofs.frontier.Frontier.plan_pass.Goals as goal

pub returns-clause-plan : goal.returns-clause-plan
returns-clause-plan c =
    let x : Frontier = shown c.self.inside in
    subst (λ (y : Frontier). IsPlanOf y (record { event = c.in_ok-event.event; pass = Some c.in_ok-pass.pass; tally = c.self.inside.tally })) c.self.view_is
    (plan_is x c.self.invariant.frontier c.args.judged c.args.fresh.now _ c.in_ok-pass.pass c.places.result.now c.in_ok-pass.ensures c.places.ensures c.in_ok-event.event c.self.inside.tally
    c.in_ok-event.ensures.after c.in_ok-event.ensures.plan c.self.invariant.tally)

pub returns-clause-ok : goal.returns-clause-ok
returns-clause-ok c =
    let x : Frontier = shown c.self.inside in
    subst (λ (y : Frontier). (adds : List (List ℕ)) → Counts y.degrees adds → PlansPass y c.args.judged c.args.fresh.now
    (record { event = c.in_ok-event.event; pass = Some c.in_ok-pass.pass; tally = c.self.inside.tally }) adds) c.self.view_is
    (plan_passes x c.self.invariant.frontier c.args.judged c.args.fresh.now _ c.in_ok-pass.pass c.places.result.now c.in_ok-pass.ensures c.places.ensures c.in_ok-event.event c.self.inside.tally
    c.in_ok-event.ensures.after c.in_ok-event.ensures.legal c.in_ok-budgets.ensures)

pub returns-in_err-event-clause-illegal : goal.returns-in_err-event-clause-illegal
returns-in_err-event-clause-illegal c = λ n adds was counts.
    let x : Frontier = shown c.self.inside in
    let broke : broken x.progress (SeenPass c.args.judged) c.places.result.now ≡ Some n = search rules in
    let at : c.places.result.now ≡ place x.waiting.passes x.waiting.queues _ (read_by x.waiting c.args.fresh.now) =
    placed x c.self.invariant.frontier c.args.judged c.args.fresh.now _ c.in_ok-pass.pass c.places.result.now c.in_ok-pass.ensures c.places.ensures in
    let told : Counts x.degrees adds = subst (λ (y : Frontier). Counts y.degrees adds) (sym c.self.view_is) counts in
    let same : c.places.result.now ≡ places_for adds x c.args.fresh.now =
    at ∙ ap (λ (f : Budget). place x.waiting.passes x.waiting.queues f (read_by x.waiting c.args.fresh.now)) (fun_ext (c.in_ok-budgets.ensures adds told)) in
    subst (λ (y : Frontier). broken y.progress (SeenPass c.args.judged) (places_for adds y c.args.fresh.now) ≡ Some n) c.self.view_is
    (ap (λ (ps : List Place). broken x.progress (SeenPass c.args.judged) ps) (sym same) ∙ broke)
