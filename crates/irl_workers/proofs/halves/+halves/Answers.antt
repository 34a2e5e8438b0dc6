use Rattle.std.proofs.Common.{rules, ◌≡◌, ◌++◌}
use Rattle.irl_fetch.specs.Telling.{fetcher, offering}
use Rattle.irl_workers.specs.Workers.{IsDone}
use Rattle.irl_workers.specs.declared.halves.Worker.{Worker}
use Rattle.irl_workers.proofs.EachWorker.{each_whole}
use Rattle.irl_workers.proofs.halves.+halves.Goals as goal

pub work_side_by_side-returns : goal.work_side_by_side-returns
work_side_by_side-returns g t c =
    let F = g.row.F.Denot in
    let W = Worker g.row.O.Denot in
    let Done : F → F → W → W → Type 0 =
    IsDone (fetcher g.F.Fetch.asked g.F.Fetch.gives g.F.Fetch.faults g.F.Fetch.last g.F.Fetch.aim)
    (offering g.O.Offers.entries g.O.Offers.last_fault g.O.Offers.takes g.O.Offers.follows) c.args.suffixes.now in
    let fetchers = c.split_at_mut-fetchers.result in
    let workers = c.split_at_mut-workers.result in
    let all : fetchers.0.now ++ fetchers.1.now ≡ c.args.fetchers.now = search rules in
    let whole : workers.0.now ++ workers.1.now ≡ c.args.workers.now = search rules in
    each_whole Done _ _ _ _ _ _ _ _ _ _ all whole c.work_both.ensures.some c.work_both.ensures.others
