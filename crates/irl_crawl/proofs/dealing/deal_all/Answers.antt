use Rattle.std.proofs.Common.{◌≡◌, ◌∙◌, ℕ, [], ◌∷◌, ◌++◌, length, Ok, subst}
use Rattle.std.proofs.lemmas.Result.{err_from_is_err_and}
use Rattle.irl_crawl.specs.Dealing.{ServesOn}
use Rattle.irl_crawl.proofs.Deals.{deals_other, deals_then, serves_then, serves_unit}
use Rattle.irl_crawl.proofs.Going.{all_go_then}
use Rattle.irl_crawl.proofs.dealing.deal_all.Goals as goal

pub loop-work-preserved : goal.loop-work-preserved
loop-work-preserved g c =
    let same : length c.loop-work.fetchers ≡ length c.args.fetchers.now = c.loop-work.invariant.fetchers.count in
    let kept = subst (λ (n : ℕ). ServesOn (Ok c.in_ok-deal.field-0) n c.loop-work.hosts c.deal.new.hosts c.loop-work.shares c.deal.new.shares) same c.in_ok-deal.ensures.serves in
    record {
      deals = deals_then (Ok tt) c.loop-work.yielded (c.in-Some.work ∷ []) c.args.yard.now.parts c.loop-work.yard.parts c.deal.new.yard.parts (g.S.Store.told c.args.yard.now.store)
          (g.S.Store.told c.loop-work.yard.store)
          (g.S.Store.told c.deal.new.yard.store) c.args.shares.now c.loop-work.shares c.deal.new.shares (g.met.S.Store.is_consistent c.loop-work.yard.store) c.loop-work.invariant.deals
          c.in_ok-deal.ensures.deals;
      serves = serves_then (Ok tt) (length c.args.fetchers.now) c.args.hosts.now c.loop-work.hosts c.deal.new.hosts c.args.shares.now c.loop-work.shares c.deal.new.shares c.loop-work.invariant.serves
          (serves_unit c.in_ok-deal.field-0 (length c.args.fetchers.now) c.loop-work.hosts c.deal.new.hosts c.loop-work.shares c.deal.new.shares kept);
      fetchers = all_go_then g.F.Fetch.asked g.F.Fetch.gives g.F.Fetch.faults g.F.Fetch.last g.F.Fetch.aim c.args.fetchers.now c.loop-work.fetchers c.deal.new.fetchers c.loop-work.invariant.fetchers
          c.deal.ensures.fetchers;
      made = c.deal.ensures.made ∙ c.loop-work.invariant.made;
    }

pub returns-in_err-deal-clause-deals : goal.returns-in_err-deal-clause-deals
returns-in_err-deal-clause-deals g c =
    let out = err_from_is_err_and c.from_residual.result c.from_residual.ensures.1 in
    deals_other c.deal.result c.from_residual.result c.in_err-deal.field-0.0 out.0 (c.loop-work.yielded ++ c.in-Some.work ∷ []) c.args.works.items c.args.yard.now.parts c.deal.new.yard.parts
    (g.S.Store.told c.args.yard.now.store) (g.S.Store.told c.deal.new.yard.store) c.args.shares.now c.deal.new.shares c.in_err-deal.was out.1 out.2
    (deals_then c.deal.result c.loop-work.yielded (c.in-Some.work ∷ []) c.args.yard.now.parts c.loop-work.yard.parts c.deal.new.yard.parts (g.S.Store.told c.args.yard.now.store)
    (g.S.Store.told c.loop-work.yard.store)
    (g.S.Store.told c.deal.new.yard.store) c.args.shares.now c.loop-work.shares c.deal.new.shares (g.met.S.Store.is_consistent c.loop-work.yard.store) c.loop-work.invariant.deals c.deal.ensures.deals)

pub returns-in_err-deal-clause-fetchers : goal.returns-in_err-deal-clause-fetchers
returns-in_err-deal-clause-fetchers g c =
    all_go_then g.F.Fetch.asked g.F.Fetch.gives g.F.Fetch.faults g.F.Fetch.last g.F.Fetch.aim c.args.fetchers.now c.loop-work.fetchers c.deal.new.fetchers c.loop-work.invariant.fetchers
    c.deal.ensures.fetchers

pub returns-in_err-deal-clause-made : goal.returns-in_err-deal-clause-made
returns-in_err-deal-clause-made g c = c.deal.ensures.made ∙ c.loop-work.invariant.made
