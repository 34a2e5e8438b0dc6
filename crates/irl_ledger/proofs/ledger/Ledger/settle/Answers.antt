use Rattle.std.proofs.Common.{◌≡◌, [], None, subst}
use Rattle.std.specs.List.{AllByRecursion}
use Rattle.irl_events.specs.Legal.{broken}
use Rattle.irl_log.specs.Form.{IsDone, IsLogged, IsWord}
use Rattle.irl_ledger.proofs.Settling.{settle_keeps, settle_logged, with_same}
use Rattle.irl_ledger.proofs.ledger.Ledger.settle.Goals as goal

pub add-requires-clause-logged : goal.add-requires-clause-logged
add-requires-clause-logged g c =
    let urls = c.args.urls.now in
    let buckets = c.args.self.now.log.buckets in
    let fronts = c.in_ok-fronts.ensures in
    let done = c.in_ok-done.ensures in
    with_same (IsLogged buckets) c.in_ok-fronts.fronts _ c.in_ok-done.done _ fronts.value done.value
    (settle_logged buckets urls c.args.done.now c.requires.drum c.requires.buckets c.requires.settles.limit
    (subst (AllByRecursion IsWord) fronts.value fronts.words) (subst (AllByRecursion IsDone) done.value done.form))

pub add-requires-clause-legal : goal.add-requires-clause-legal
add-requires-clause-legal g c =
    let ledger = c.args.self.now in
    with_same (λ event. broken ledger.frontier.progress event [] ≡ None) c.in_ok-fronts.fronts _ c.in_ok-done.done _ c.in_ok-fronts.ensures.value c.in_ok-done.ensures.value
    (settle_keeps c.args.urls.now ledger.pairs ledger c.args.done.now c.requires.drum c.keeps.ensures c.has_begun.ensures c.requires.fits c.requires.settles)
