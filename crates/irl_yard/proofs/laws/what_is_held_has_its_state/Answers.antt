use Rattle.std.proofs.Common.{ℕ, ◌<◌, ◌++◌, sym, subst}
use Rattle.irl_yard.proofs.Holding.{held_has}
use Rattle.irl_yard.proofs.laws.what_is_held_has_its_state.Goals as goal

pub returns-clause-left : goal.returns-clause-left
returns-clause-left g c = λ state image law holds left. held_has (g.S.Store.told c.args.store.now).images c.args.parts.now.urls state image law holds.urls left

pub returns-clause-told : goal.returns-clause-told
returns-clause-told g c = λ state files law holds told.
    held_has (g.S.Store.told c.args.store.now).images c.args.parts.now.urls state files law holds.urls ((g.met.S.Store.is_consistent c.args.store.now).told files told)

pub returns-clause-records : goal.returns-clause-records
returns-clause-records g c = λ state b holds within.
    let bucket = holds.urls.urls_hold.buckets b (subst (λ (n : ℕ). b < n) (sym holds.urls.urls_hold.book_is.buckets) within) in
    (bucket.before ++ bucket.behind, bucket.are, bucket.journal)
