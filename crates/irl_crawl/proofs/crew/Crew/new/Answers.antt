use Rattle.std.proofs.Common.{◌≡◌, ◌∙◌, ℕ, List, [], length, get_or, None, Some, sym, ap, arith}
use Rattle.std.specs.List.{All}
use Rattle.std.proofs.lemmas.List.{length-map}
use Rattle.std.proofs.lemmas.List.Elements.{All-get_or, All-map, All-weaker}
use Rattle.std.proofs.lemmas.Option.{get_or_from_slice_get, slice_get_within}
use Rattle.irl_events.specs.Events.{Happened}
use Rattle.irl_polite.specs.Inside.{Held, schedule}
use Rattle.irl_polite.specs.Schedule.{Schedule, empty_of}
use Rattle.irl_crawl.specs.Workers.{AreIdle, AreNotedIn, schedules}
use Rattle.irl_crawl.proofs.crew.Crew.new.Goals as goal

module _ (delay : ℕ) (agent : List ℕ) (fronts : List Held) (empty : All (λ f. schedule f ≡ empty_of delay agent) fronts) where
  all_empty : All (λ s. s ≡ empty_of delay agent) (schedules fronts)
  all_empty = All-map (λ (s : Schedule). s ≡ empty_of delay agent) schedule fronts empty

  idle : (n : ℕ) (said : List ℕ) → length fronts ≡ n → said ≡ agent → AreIdle n said (schedules fronts)
  idle n said count is = record {
    count_is = length-map fronts schedule ∙ count;
    agents = All-weaker (λ (s : Schedule). s ≡ empty_of delay agent) (λ (s : Schedule). s.agent ≡ said) (λ s same. ap (λ (t : Schedule). t.agent) same ∙ sym is) (schedules fronts) all_empty;
    items = All-weaker (λ (s : Schedule). s ≡ empty_of delay agent) (λ (s : Schedule). s.items ≡ []) (λ s same. ap (λ (t : Schedule). t.items) same) (schedules fronts) all_empty;
  }

  unknown : (said : List ℕ) (events : List Happened) → AreNotedIn said events (schedules fronts)
  unknown said events at front here host known is =
      let there : get_or (schedules fronts) at front ≡ front = get_or_from_slice_get (schedules fronts) at front front here in
      let same : front ≡ empty_of delay agent = sym there ∙ All-get_or (λ (s : Schedule). s ≡ empty_of delay agent) (schedules fronts) at front (slice_get_within (schedules fronts) at front here)
      all_empty in
      let none : None ≡ Some known = sym (ap (λ (s : Schedule). s.known host) same) ∙ is in
      absurd (cc)

pub returns-clause-idle : goal.returns-clause-idle
returns-clause-idle c =
    let count : length c.loop.fronts.items ≡ c.args.workers = omega arith in
    idle c.args.plan.now.delay c.args.plan.now.agent c.loop.fronts.items c.loop.invariant.empty c.args.workers c.in_ok-copy.field-0 count c.in_ok-copy.ensures

pub returns-clause-empty : goal.returns-clause-empty
returns-clause-empty c = all_empty c.args.plan.now.delay c.args.plan.now.agent c.loop.fronts.items c.loop.invariant.empty

pub returns-clause-unknown : goal.returns-clause-unknown
returns-clause-unknown c = λ events. unknown c.args.plan.now.delay c.args.plan.now.agent c.loop.fronts.items c.loop.invariant.empty c.in_ok-copy.field-0 events
