use Rattle.irl_yard.proofs.Core.{flush_step, merge_step}
use Rattle.irl_yard.proofs.SettleSteps.{settle_is_step}
use Rattle.irl_yard.proofs.tie.calls_are_steps.Goals as goal

pub returns-clause-flush : goal.returns-clause-flush
returns-clause-flush g c =
    let yard = c.args.yard.now in
    λ state arrays acknowledged b law holds may fits. flush_step (g.S.Store.told yard.store).images yard.parts.urls state arrays acknowledged law holds.urls b may fits

pub returns-clause-merge : goal.returns-clause-merge
returns-clause-merge g c =
    let yard = c.args.yard.now in
    λ state arrays acknowledged law holds some. merge_step (g.S.Store.told yard.store).images yard.parts.urls state arrays acknowledged law holds.urls some

pub returns-clause-settle : goal.returns-clause-settle
returns-clause-settle g c =
    let yard = c.args.yard.now in
    let tells = g.S.Store.told yard.store in
    λ state arrays acknowledged done law holds may.
    settle_is_step tells.images tells.files yard.parts.urls state arrays acknowledged done law holds.urls yard.parts.rest holds.open_rest yard.rest_is c.keeps.ensures.frontier (λ ledger is n.
    c.keeps.ensures.begun ledger n is) may
