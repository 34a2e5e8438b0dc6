use Rattle.std.proofs.Common.{◌∙◌, ◌≤◌, ℕ, Err, List, length, refl, sym, subst, arith}
use Rattle.irl_schedule.proofs.Outcomes.{ok_gives}
use Rattle.irl_crawl.proofs.Going.{all_go_then}
use Rattle.irl_crawl.proofs.Looping.{runs_done, runs_first, runs_limit, runs_next, runs_stop}
use Rattle.irl_crawl.specs.Workers.{AreIdle, schedules}
use Rattle.irl_crawl.proofs.RecordsThen.{leads_on}
use Rattle.irl_crawl.proofs.RecordsTurned.{ended_batch, first_batch, step_batch, stopped_batch}
use Rattle.irl_crawl.proofs.Refusing.{refused_ok, refused_on}
use Rattle.irl_crawl.proofs.crawling.go_on.Given.{Over}
use Rattle.irl_disk.specs.Images.{IsConsistent}
use Rattle.irl_record.specs.Widening.{Widens}
use Rattle.irl_crawl.proofs.crawling.go_on.Goals as goal

-- what a store that may be sent keeps in every thread, it keeps in this one
abbrev consistent : (g : Over) (store : g.row.S.Denot) → IsConsistent (g.S.Store.told store)
consistent g = (g.met.S.Store g.world.𝓛 g.world.𝓜 g.world.𝓡 ((λ s x. x), (λ x. x), (λ x. x), λ x. x)).is_consistent

-- so does a fetcher
abbrev earlier : (g : Over) (x : g.row.F.Denot) (since later : ℕ) → since ≤ later → Widens (g.F.Fetch.gives x later) (g.F.Fetch.gives x since)
earlier g = (g.met.F.Fetch g.world.𝓛 g.world.𝓜 g.world.𝓡 ((λ s x. x), (λ x. x), (λ x. x), λ x. x)).earlier

pub loop-init : goal.loop-init
loop-init g c = (
  tt,
  tt,
  record {
    runs = runs_first (consistent g c.args.yard.store) c.is_sound-is_sound.ensures.drum c.requires.open c.requires.sent c.requires.suffixes c.requires.idle
        (λ x. c.requires.unknown x.events);
    agent = refl;
    suffixes = refl;
    gates = refl;
    batches = first_batch c.args.yard.parts (g.S.Store.told c.args.yard.store) c.args.yard.rest_is c.is_sound-is_sound.ensures.drum (consistent g c.args.yard.store)
        c.requires.open.begun;
  },
)

pub returns-then-is_done-clause-leads : goal.returns-then-is_done-clause-leads
returns-then-is_done-clause-leads g c = runs_done c.loop.invariant.2.runs (λ y held. (c.is_done.ensures y held).0 c.if-is_done.true)

pub returns-then-left-eq0-clause-leads : goal.returns-then-left-eq0-clause-leads
returns-then-left-eq0-clause-leads g c =
    runs_limit c.loop.invariant.2.runs c.if-left-eq0.true
    (λ y held none. let yes = (c.is_done.ensures y held).1 none in let not = c.if-is_done.false in let both = sym not ∙ yes in cc)

pub loop-preserved : goal.loop-preserved
loop-preserved g c =
    let far = c.loop.invariant.2 in
    let step = c.step-settled.ensures in
    let most = c.min-most.result in
    let within : most ≤ c.loop.left = omega arith in
    let small : most ≤ c.args.plan.now.batch = omega arith in
    let fronts = schedules c.step-settled.new.crew.fronts.items in
    let agent = step.crew.0 ∙ far.agent in
    let idle = subst (λ (a : List ℕ). AreIdle (length c.loop.fetchers) a fronts) agent (ok_gives c.step-settled.result.0 c.in-Ok.count step.idle c.in-Ok.is) in
    let keeps = ok_gives c.step-settled.result.0 c.in-Ok.count step.keeps c.in-Ok.is in (
      tt,
      tt,
      record {
        runs = runs_next far.runs (earlier g) most c.step-settled.result.0 fronts c.step-settled.new.fetchers c.step-settled.result.1.parts (g.S.Store.told c.step-settled.result.1.store)
            c.loop.crew.agent c.loop.crew.suffixes far.agent far.suffixes step.leads step.fetchers within small c.in-Ok.count c.in-Ok.is keeps idle;
        agent = agent;
        suffixes = step.crew.1 ∙ far.suffixes;
        gates = let same = c.step-settled.auto.gates in let was = far.gates in omega (arith, same, was);
        batches = step_batch c.step-settled.result.0 c.in-Ok.count c.args.yard.parts c.loop.yard.parts c.step-settled.result.1.parts (g.S.Store.told c.args.yard.store)
            (g.S.Store.told c.loop.yard.store) (g.S.Store.told c.step-settled.result.1.store) c.in-Ok.is
            (leads_on ⊥ _ _ c.args.yard.parts c.loop.yard.parts (g.S.Store.told c.args.yard.store) (g.S.Store.told c.loop.yard.store) far.runs.leads) far.batches step.batches;
      },
    )

pub returns-in-Err-clause-leads : goal.returns-in-Err-clause-leads
returns-in-Err-clause-leads g c =
    let far = c.loop.invariant.2 in
    let step = c.step-settled.ensures in
    let most = c.min-most.result in
    let within : most ≤ c.loop.left = omega arith in
    let small : most ≤ c.args.plan.now.batch = omega arith in
    runs_stop far.runs (earlier g) most c.step-settled.result.0 (schedules c.step-settled.new.crew.fronts.items) c.step-settled.new.fetchers c.step-settled.result.1.parts
    (g.S.Store.told c.step-settled.result.1.store) c.loop.crew.agent c.loop.crew.suffixes far.agent far.suffixes step.leads step.fetchers within small c.in-Err.fault c.in-Err.is

pub returns-in-Err-clause-fetchers : goal.returns-in-Err-clause-fetchers
returns-in-Err-clause-fetchers g c =
    let f = g.F.Fetch in
    all_go_then f.asked f.gives f.faults f.last f.aim c.args.fetchers.now c.loop.fetchers c.step-settled.new.fetchers c.loop.invariant.2.runs.goes_on c.step-settled.ensures.fetchers

pub returns-then-is_done-clause-batches : goal.returns-then-is_done-clause-batches
returns-then-is_done-clause-batches g c =
    let tells = g.S.Store.told in
    ended_batch _ c.args.yard.parts c.loop.yard.parts (tells c.args.yard.store) (tells c.loop.yard.store) c.loop.invariant.2.batches

pub returns-then-left-eq0-clause-batches : goal.returns-then-left-eq0-clause-batches
returns-then-left-eq0-clause-batches g c =
    let tells = g.S.Store.told in
    ended_batch _ c.args.yard.parts c.loop.yard.parts (tells c.args.yard.store) (tells c.loop.yard.store) c.loop.invariant.2.batches

pub returns-in-Err-clause-batches : goal.returns-in-Err-clause-batches
returns-in-Err-clause-batches g c =
    let tells = g.S.Store.told in
    let was = c.args.yard in
    let mid = c.loop.yard in
    let now = c.step-settled.result.1 in
    let far = c.loop.invariant.2 in
    stopped_batch c.step-settled.result.0 c.in-Err.fault was.parts mid.parts now.parts (tells was.store) (tells mid.store) (tells now.store) c.in-Err.is
    (leads_on ⊥ _ _ was.parts mid.parts (tells was.store) (tells mid.store) far.runs.leads) far.batches c.step-settled.ensures.batches

pub returns-then-is_done-clause-refused : goal.returns-then-is_done-clause-refused
returns-then-is_done-clause-refused g c = refused_ok tt c.loop.yard.parts (g.S.Store.told c.loop.yard.store)

pub returns-then-left-eq0-clause-refused : goal.returns-then-left-eq0-clause-refused
returns-then-left-eq0-clause-refused g c = refused_ok tt c.loop.yard.parts (g.S.Store.told c.loop.yard.store)

pub returns-in-Err-clause-refused : goal.returns-in-Err-clause-refused
returns-in-Err-clause-refused g c =
    let now = c.step-settled.result.1 in
    refused_on {B = Unit} c.step-settled.result.0 (Err c.in-Err.fault) c.in-Err.fault now.parts (g.S.Store.told now.store) c.in-Err.is refl c.step-settled.ensures.refused
