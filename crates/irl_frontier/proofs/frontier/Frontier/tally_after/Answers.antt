use Rattle.std.proofs.Common.{◌≡◌, ◌∙◌, ℕ, ◌++◌, List, [], sym, ap, subst}
use Rattle.irl_offer.specs.declared.outcome.Outcome.{Outcome}
use Rattle.irl_events.specs.Events.{Progress, after_event}
use Rattle.irl_events.specs.Seen.{seen}
use Rattle.irl_events.specs.declared.event.Event.{Event}
use Rattle.irl_frontier.specs.Frontier.{Frontier}
use Rattle.irl_frontier.specs.Tallies.{HasTally}
use Rattle.irl_frontier.proofs.frontier.Frontier.tally_after.Goals as goal

pub returns-in_ok-tally-in-Settle : goal.returns-in_ok-tally-in-Settle
returns-in_ok-tally-in-Settle c =
    let p : Progress = c.args.self.now.progress in
    let is : c.self.inside.fates.done ++ c.items.result.now ≡ (after_event p (seen c.args.event.now) []).done =
    ap (λ (y : Frontier). y.progress.done ++ c.items.result.now) c.self.view_is ∙ ap (λ (ds : List (ℕ × Outcome)). p.done ++ ds) c.items.ensures
    ∙ sym (ap (λ (e : Event). (after_event p (seen e) []).done) c.in-Settle.is) in
    subst (λ (ds : List (ℕ × Outcome)). HasTally c.in_ok-tally-in-Settle.tally ds) is (c.in_ok-tally-in-Settle.ensures c.self.inside.fates.done c.self.invariant.tally)
