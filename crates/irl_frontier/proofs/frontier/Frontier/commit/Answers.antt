use Rattle.std.proofs.Common.{◌∙◌, sym, ap, subst}
use Rattle.irl_beast.specs.Plans.{IsPlanOf as IsPassOf}
use Rattle.irl_frontier.specs.Frontier.{Frontier, IsFrontier, shown}
use Rattle.irl_frontier.specs.Plans.{MayPass, after_plan}
use Rattle.irl_frontier.specs.Tallies.{HasTally}
use Rattle.irl_frontier.proofs.Passing.{pass_done}
use Rattle.irl_frontier.proofs.frontier.Frontier.commit.Goals as goal

pub returns-in-Some : goal.returns-in-Some
returns-in-Some c =
    let x : Frontier = shown c.self.inside in
    let may : IsPassOf x.waiting c.in-Some.pass = subst (MayPass x.waiting) c.in-Some.is (subst (λ (y : Frontier). MayPass y.waiting c.args.plan.pass) (sym c.self.view_is) c.requires.pass) in
    pass_done x c.self.invariant.frontier c.args.plan c.in-Some.pass c.commit.new.self c.commit-in-Some.new.self c.in-Some.is may c.commit.ensures c.commit-in-Some.ensures.passed
    ∙ ap (λ (y : Frontier). after_plan y c.args.plan) c.self.view_is

pub invariant_of-self : goal.invariant_of-self
invariant_of-self c = record {
  frontier = subst IsFrontier (sym (returns-in-Some c)) c.requires.kept;
  tally = subst (λ (y : Frontier). HasTally c.args.plan.tally y.progress.done) (sym (returns-in-Some c)) c.requires.tally;
}
