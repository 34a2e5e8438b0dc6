use Rattle.std.proofs.Common.{◌≡◌, false, rules}
use Rattle.std.proofs.lemmas.Result.{err_from_is_err_and, IfOk-at_ok, IfErr-at_err}
use Rattle.irl_polite.specs.Inside.{schedule}
use Rattle.irl_fetch.proofs.Joining.{SoFar, far_first, far_next, works_done, works_stopped}
use Rattle.irl_fetch.proofs.working.work.Given.{Over}
use Rattle.irl_fetch.proofs.working.work.Goals as goal
use Rattle.irl_fetch.proofs.working.work.Goals.{In_ok-do_next}
use Rattle.irl_fetch.proofs.working.work.Invariants.{seen, way}

pub loop-init : goal.loop-init
loop-init g c = (
  tt,
  tt,
  far_first (record { done = c.new.result; notes = c.new-2.result }) c.args.suffixes.now (seen g c.args.fetch.now) (schedule c.args.front.now) (way g c.args.offers.now)
      c.new.ensures.items c.new-2.ensures.items c.requires.ready,
)

pub returns-in_err-do_next : goal.returns-in_err-do_next
returns-in_err-do_next g c =
    let out = err_from_is_err_and c.from_residual.result c.from_residual.ensures.1 in
    let stops = IfErr-at_err _ c.in_err-do_next.was c.do_next.ensures.stops in
    let fault = IfErr-at_err _ c.in_err-do_next.was c.do_next.ensures.fault.1 in
    works_stopped c.from_residual.result out.0 c.in_err-do_next.field-0.0 c.loop.log c.args.suffixes.now (seen g c.args.fetch.now) (seen g c.loop.fetch) (seen g c.do_next.new.fetch)
    (schedule c.args.front.now) (schedule c.loop.front) (schedule c.do_next.new.front) (way g c.args.offers.now) (way g c.loop.offers) (way g c.do_next.new.offers) out.1 out.2
    (g.met.F.Fetch.earlier c.do_next.new.fetch) c.loop.invariant.2 c.do_next.ensures.goes_on stops fault c.do_next.ensures.agent c.do_next.ensures.delay

-- one job more was done
more : (g : Over) (c : In_ok-do_next g) → SoFar c.do_next.new.log c.args.suffixes.now (seen g c.args.fetch.now) (seen g c.do_next.new.fetch) (schedule c.args.front.now)
    (schedule c.do_next.new.front) (way g c.args.offers.now) (way g c.do_next.new.offers)
more g c =
    let does = IfOk-at_ok _ c.in_ok-do_next.was c.do_next.ensures.does in
    let calm = IfOk-at_ok _ c.in_ok-do_next.was c.do_next.ensures.fault.0 in
    far_next c.loop.log c.do_next.new.log c.args.suffixes.now (seen g c.args.fetch.now) (seen g c.loop.fetch) (seen g c.do_next.new.fetch) (schedule c.args.front.now) (schedule c.loop.front)
    (schedule c.do_next.new.front) (way g c.args.offers.now) (way g c.loop.offers) (way g c.do_next.new.offers) (g.met.F.Fetch.earlier c.do_next.new.fetch) c.loop.invariant.2 does
    c.do_next.ensures.goes_on calm c.do_next.ensures.agent c.do_next.ensures.delay

pub returns-then-not-branch : goal.returns-then-not-branch
returns-then-not-branch g c =
    let idle = IfOk-at_ok _ c.in_ok-do_next.was c.do_next.ensures.idle in
    let is : c.in_ok-do_next.field-0 ≡ false = search rules in
    works_done c.do_next.new.log c.args.suffixes.now (seen g c.args.fetch.now) (seen g c.do_next.new.fetch) (schedule c.args.front.now) (schedule c.do_next.new.front) (way g c.args.offers.now)
    (way g c.do_next.new.offers) (more g (goal.at.returns-then-not-branch g c).In_ok-do_next) (idle is)

pub loop-preserved : goal.loop-preserved
loop-preserved g c = (tt, tt, more g (goal.at.loop-preserved g c).In_ok-do_next)
