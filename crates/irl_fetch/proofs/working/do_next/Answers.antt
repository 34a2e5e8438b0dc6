use Rattle.std.proofs.Common.{◌≡◌, ◌∙◌, true, refl, sym, ap, arith}
use Rattle.std.proofs.lemmas.Result.{err_from_is_err_and, IfOk-at_ok, IfErr-at_err}
use Rattle.irl_offer.specs.Offering.{fault_or}
use Rattle.irl_robots.specs.declared.host.Leave.TheVariants as leave
use Rattle.irl_polite.specs.Inside.{schedule}
use Rattle.irl_polite.specs.Schedule.{Schedule, raised}
use Rattle.irl_polite.proofs.Awaited.{asked_awaited}
use Rattle.irl_fetch.specs.Handling.{Handled, Fetched, Denied, ShutOut}
use Rattle.irl_fetch.specs.Telling.{Fetcher, GoesOn, MakesAtMost, Offering, fetcher, offering}
use Rattle.irl_fetch.proofs.Telling.{goes_then, makes_none, makes_then}
use Rattle.irl_fetch.proofs.Jobs.{taken_page, taken_denied, taken_shut, does_one, stops_page, goes_asked, goes_now, next_does, next_drops, next_ends, next_lacks, next_notes, next_refuses, next_stops, next_waits, true_is_more}
use Rattle.irl_fetch.proofs.working.do_next.Given.{Over}
use Rattle.irl_fetch.proofs.working.do_next.Goals as goal
use Rattle.irl_fetch.proofs.working.do_next.Goals.{After-take}

abbrev seen : (g : Over) → g.row.F.Denot → Fetcher
seen g fetch = fetcher g.F.Fetch.asked g.F.Fetch.gives g.F.Fetch.faults g.F.Fetch.last g.F.Fetch.aim fetch

abbrev way : (g : Over) → g.row.O.Denot → Offering g.row.O.Denot
way g offers = offering g.O.Offers.entries g.O.Offers.last_fault g.O.Offers.takes g.O.Offers.follows offers

-- ---- once a job was taken
-- the fetcher at first, and when it told the moment
abbrev first : (g : Over) (c : After-take g) → Fetcher
first g c = seen g c.args.fetch.now

abbrev looked : (g : Over) (c : After-take g) → Fetcher
looked g c = seen g c.now-now.new.self

-- the front, before it and after
abbrev stood : (g : Over) (c : After-take g) → Schedule
stood g c = schedule c.args.front.now

abbrev left : (g : Over) (c : After-take g) → Schedule
left g c = schedule c.take.new.self

now_on : (g : Over) (c : After-take g) → GoesOn (first g c) (looked g c)
now_on g c =
    let now = c.now-now.ensures in
    goes_now (first g c) (looked g c) c.now-now.result now.asked now.wider now.faults now.later now.told now.aim

-- its clock makes no connection
now_makes : (g : Over) (c : After-take g) → MakesAtMost 0 (first g c) (looked g c)
now_makes g c = makes_none (first g c) (looked g c) c.now-now.ensures.asked

-- ---- goals
pub returns-in_err-fetch_page-in-Page : goal.returns-in_err-fetch_page-in-Page
returns-in_err-fetch_page-in-Page g c =
    let at = (goal.at.returns-in_err-fetch_page-in-Page g c).After-take in
    let d = seen g c.fetch_page.new.fetch in
    let p = way g c.fetch_page.new.sink in
    let work = c.in-Page.work in
    let bd : GoesOn (looked g at) d = c.fetch_page.ensures.goes_on in
    let taken = taken_page (stood g at) (left g at) c.now-now.result work c.in-Page.ensures.step in
    let out = err_from_is_err_and c.from_residual.result c.from_residual.ensures.1 in
    let told = IfErr-at_err _ c.in_err-fetch_page-in-Page.was c.fetch_page.ensures.err in
    let fault = IfErr-at_err _ c.in_err-fetch_page-in-Page.was c.fetch_page.ensures.fault.1 in
    next_stops c.from_residual.result out.0 _ _ c.args.suffixes.now (first g at) d (stood g at) (left g at) (way g c.args.offers.now) p out.1
    (stops_page c.args.suffixes.now (first g at) (looked g at) d (stood g at) (left g at) (way g c.args.offers.now) p work told.0 (g.met.F.Fetch.earlier c.fetch_page.new.fetch) (now_on g at) bd taken
    told.1 told.2 (omega (arith, now_makes g at, c.fetch_page.ensures.asked))) (fault ∙ ap (fault_or (way g c.args.offers.now).last_fault) (sym out.2))
    (goes_then (first g at) (looked g at) d (now_on g at) bd) taken.agent taken.delay

pub returns-in_err-refuse-in-Denied : goal.returns-in_err-refuse-in-Denied
returns-in_err-refuse-in-Denied g c =
    let at = (goal.at.returns-in_err-refuse-in-Denied g c).After-take in
    let out = err_from_is_err_and c.from_residual-in_err-refuse-in-Denied.result c.from_residual-in_err-refuse-in-Denied.ensures.1 in
    next_drops c.from_residual-in_err-refuse-in-Denied.result out.0 _ _ c.args.suffixes.now (first g at) (looked g at) (stood g at) (left g at) (way g c.args.offers.now) c.in-Denied.work
    (leave.Denied c.in-Denied.line) out.1 out.2 (now_on g at) (now_makes g at)
    (taken_denied (stood g at) (left g at) c.now-now.result c.in-Denied.work c.in-Denied.line c.in-Denied.ensures.step)

pub returns-in_err-refuse-in-ShutOut : goal.returns-in_err-refuse-in-ShutOut
returns-in_err-refuse-in-ShutOut g c =
    let at = (goal.at.returns-in_err-refuse-in-ShutOut g c).After-take in
    let out = err_from_is_err_and c.from_residual-in_err-refuse-in-ShutOut.result c.from_residual-in_err-refuse-in-ShutOut.ensures.1 in
    next_drops c.from_residual-in_err-refuse-in-ShutOut.result out.0 _ _ c.args.suffixes.now (first g at) (looked g at) (stood g at) (left g at) (way g c.args.offers.now) c.in-ShutOut.work leave.Shut
    out.1 out.2 (now_on g at) (now_makes g at)
    (taken_shut (stood g at) (left g at) c.now-now.result c.in-ShutOut.work c.in-ShutOut.ensures.step)

pub ask-requires-clause-awaited : goal.ask-requires-clause-awaited
ask-requires-clause-awaited g c =
    asked_awaited (raised (schedule c.args.front.now) c.now-now.result) (schedule c.take.new.self) c.take.result c.in-Robots.host c.take.ensures.step c.in-Robots.is

pub returns-in_err-ask-in-Robots : goal.returns-in_err-ask-in-Robots
returns-in_err-ask-in-Robots g c =
    let at = (goal.at.returns-in_err-ask-in-Robots g c).After-take in
    let d = seen g c.ask.new.fetch in
    let u = schedule c.ask.new.front in
    let out = err_from_is_err_and c.from_residual-in_err-ask-in-Robots.result c.from_residual-in_err-ask-in-Robots.ensures.1 in
    let same : u ≡ left g at = IfErr-at_err _ c.in_err-ask-in-Robots.was c.ask.ensures.err in
    next_lacks c.from_residual-in_err-ask-in-Robots.result out.0 _ _ c.args.suffixes.now (first g at) d (stood g at) (left g at) u (way g c.args.offers.now) c.now-now.result c.in-Robots.host out.1
    out.2 (goes_then (first g at) (looked g at) d (now_on g at) c.ask.ensures.goes_on)
    (omega (arith, now_makes g at, c.ask.ensures.asked))
    c.in-Robots.ensures.step.1 same

pub returns-in_ok-fetch_page-in-Page : goal.returns-in_ok-fetch_page-in-Page
returns-in_ok-fetch_page-in-Page g c =
    let at = (goal.at.returns-in_ok-fetch_page-in-Page g c).After-take in
    let d = seen g c.fetch_page.new.fetch in
    let p = way g c.fetch_page.new.sink in
    let work = c.in-Page.work in
    let bd : GoesOn (looked g at) d = c.fetch_page.ensures.goes_on in
    let taken = taken_page (stood g at) (left g at) c.now-now.result work c.in-Page.ensures.step in
    let told = IfOk-at_ok _ c.in_ok-fetch_page-in-Page.was c.fetch_page.ensures.ok in
    let calm = IfOk-at_ok _ c.in_ok-fetch_page-in-Page.was c.fetch_page.ensures.fault.0 in
    let handled : Handled = record { work = work; treated = Fetched told.0 told.1 } in
    next_does true _ _ c.args.suffixes.now (first g at) d (stood g at) (left g at) (way g c.args.offers.now) p
    (does_one _ _ c.args.suffixes.now (first g at) (looked g at) d (stood g at) (left g at) (way g c.args.offers.now) p handled (g.met.F.Fetch.earlier c.fetch_page.new.fetch) (now_on g at) bd
    c.requires.ready taken told.2 told.3 refl told.4 told.5 (omega (arith, now_makes g at, c.fetch_page.ensures.asked)))
    true_is_more calm (goes_then (first g at) (looked g at) d (now_on g at) bd) taken.agent taken.delay

pub returns-in_ok-refuse-in-Denied : goal.returns-in_ok-refuse-in-Denied
returns-in_ok-refuse-in-Denied g c =
    let at = (goal.at.returns-in_ok-refuse-in-Denied g c).After-take in
    let handled : Handled = record { work = c.in-Denied.work; treated = Denied c.in-Denied.line } in
    let kept = IfOk-at_ok _ c.in_ok-refuse-in-Denied.was c.refuse.ensures in
    next_refuses _ _ c.args.suffixes.now (first g at) (looked g at) (stood g at) (left g at) (way g c.args.offers.now) handled (g.met.F.Fetch.earlier c.now-now.new.self) (now_on g at) (now_makes g at)
    c.requires.ready (taken_denied (stood g at) (left g at) c.now-now.result c.in-Denied.work c.in-Denied.line c.in-Denied.ensures.step) tt refl refl kept refl

pub returns-in_ok-refuse-in-ShutOut : goal.returns-in_ok-refuse-in-ShutOut
returns-in_ok-refuse-in-ShutOut g c =
    let at = (goal.at.returns-in_ok-refuse-in-ShutOut g c).After-take in
    let handled : Handled = record { work = c.in-ShutOut.work; treated = ShutOut } in
    let kept = IfOk-at_ok _ c.in_ok-refuse-in-ShutOut.was c.refuse-in-ShutOut.ensures in
    next_refuses _ _ c.args.suffixes.now (first g at) (looked g at) (stood g at) (left g at) (way g c.args.offers.now) handled (g.met.F.Fetch.earlier c.now-now.new.self) (now_on g at) (now_makes g at)
    c.requires.ready (taken_shut (stood g at) (left g at) c.now-now.result c.in-ShutOut.work c.in-ShutOut.ensures.step) tt refl refl
    kept refl

pub returns-in_ok-ask-in-Robots : goal.returns-in_ok-ask-in-Robots
returns-in_ok-ask-in-Robots g c =
    let at = (goal.at.returns-in_ok-ask-in-Robots g c).After-take in
    let d = seen g c.ask.new.fetch in
    let u = schedule c.ask.new.front in
    let told = IfOk-at_ok _ c.in_ok-ask-in-Robots.was c.ask.ensures.ok in
    next_notes _ _ c.args.suffixes.now (first g at) (looked g at) d (stood g at) (left g at) u (way g c.args.offers.now) c.now-now.result c.in-Robots.host told.0
    (g.met.F.Fetch.earlier c.ask.new.fetch) (now_on g at) c.ask.ensures.goes_on c.now-now.ensures.told c.requires.ready
    c.in-Robots.ensures.step.1 told.1 told.3 refl told.2 (omega (arith, now_makes g at, told.1.asked))

pub returns-in-WaitTill : goal.returns-in-WaitTill
returns-in-WaitTill g c =
    let at = (goal.at.returns-in-WaitTill g c).After-take in
    let d = seen g c.wait_till.new.self in
    let bd : GoesOn (looked g at) d = record {
      asked = goes_asked (looked g at) d c.wait_till.ensures.asked;
      wider = c.wait_till.ensures.wider;
      faults = c.wait_till.ensures.faults;
      last = c.wait_till.ensures.later;
      aim = c.wait_till.ensures.aim;
    } in
    next_waits _ c.args.suffixes.now (first g at) d (stood g at) (left g at) c.now-now.result (way g c.args.offers.now) (goes_then (first g at) (looked g at) d (now_on g at) bd)
    (makes_then 0 0 (first g at) (looked g at) d (now_makes g at) (makes_none (looked g at) d c.wait_till.ensures.asked)) c.requires.ready
    c.in-WaitTill.ensures.step.2

pub returns-in-Idle : goal.returns-in-Idle
returns-in-Idle g c =
    let at = (goal.at.returns-in-Idle g c).After-take in
    next_ends _ c.args.suffixes.now (first g at) (looked g at) (stood g at) (left g at) c.now-now.result (way g c.args.offers.now) (now_on g at) (now_makes g at) c.requires.ready
    c.in-Idle.ensures.step.0
    c.in-Idle.ensures.step.1
