-- A pass and a turn, each as a step of a run.
use Rattle.std.proofs.Common.{◌≡◌, ℕ, List, Result, IfOk, OnOk, IsErrOf, subst}
use Rattle.irl_base.specs.declared.fault.Fault.{Fault}
use Rattle.irl_base.specs.declared.fault.Fault.TheVariants.{Failed}
use Rattle.irl_disk.specs.Images.{Told}
use Rattle.irl_offer.specs.declared.settings.Settings.{Settings}
use Rattle.irl_polite.specs.Schedule.{Schedule}
use Rattle.irl_reach.specs.Crawls.{IsCrawlStore}
use Rattle.irl_schedule.proofs.Outcomes.{ok_weaker}
use Rattle.irl_yard.specs.declared.parts.Parts.{Parts}
use Rattle.irl_yard.specs.Leading.{IsEither}
use Rattle.irl_yard.specs.Passing.{with_pass}
use Rattle.irl_crawl.proofs.Leading.{leads_wide}
use Rattle.irl_crawl.proofs.Passing.{either_turns, pass_step}
use Rattle.irl_crawl.proofs.Stores.{held_is_crawl}
use Rattle.irl_crawl.specs.Leading.{IsSent, KeepsBegun, Leads}
use Rattle.irl_crawl.specs.Running.{Passes, Steps}
use Rattle.irl_crawl.specs.Turning.{MayTurn, Turns}
use Rattle.irl_crawl.specs.Workers.{Given}

module _ (given : Given) (agent suffixes : List ℕ) (most : ℕ) (result : Result ℕ Fault) (was now : Parts) (before after : Told) where
  abbrev settings : Settings
  settings = was.urls.settings

  pub pass_steps : given.may_miss 0 → given.made ≡ 0 → (fronts : List Schedule) → IfOk result (λ count. count ≡ 0) → OnOk result (KeepsBegun was now × IsSent now)
      → Leads (IsErrOf result Failed) (λ x y. IsEither x (with_pass settings x) y) (Passes result settings) was now before after
      → Leads (IsErrOf result Failed) (MayTurn given agent suffixes settings most fronts) (Steps result given agent suffixes settings most fronts fronts) was now before after
  pass_steps zero nothing fronts none keeps passes =
      leads_wide (IsErrOf result Failed) _ _ _ _ was now before after passes (λ x y held front may noted. either_turns given zero agent suffixes settings most x y fronts may)
      (λ x y held later front did judged.
      let made : OnOk result (IsCrawlStore settings y) =
      ok_weaker result keeps (λ both. subst (λ (s : Settings). IsCrawlStore s y) passes.settings (held_is_crawl after.images now y passes.goes_on.drum both.0.begun later)) in
      pass_step given zero agent suffixes settings most x y fronts nothing result none made did judged)

  pub turn_steps : (olds news : List Schedule) → Leads (IsErrOf result Failed) (MayTurn given agent suffixes settings most olds) (Turns result given agent suffixes settings most olds news) was now
      before after
      → Leads (IsErrOf result Failed) (MayTurn given agent suffixes settings most olds) (Steps result given agent suffixes settings most olds news) was now before after
  turn_steps olds news turns = leads_wide (IsErrOf result Failed) _ _ _ _ was now before after turns (λ x y held front may. may) (λ x y held later front did judged. did)
