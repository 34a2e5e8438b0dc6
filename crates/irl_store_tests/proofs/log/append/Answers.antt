use Rattle.std.proofs.Common.{◌++◌, map, arith}
use Rattle.std.proofs.lemmas.Result.{IfOk-weaker}
use Rattle.irl_disk.specs.MemoryLaws.{now_are_images}
use Rattle.irl_events.specs.Seen.{seen}
use Rattle.irl_journal.proofs.Gates.{within}
use Rattle.irl_log.specs.Spelling.{log_records}
use Rattle.irl_store_tests.proofs.log.append.Goals as goal

pub append-requires-clause-place : goal.append-requires-clause-place
append-requires-clause-place c = λ files told.
    let holds = c.requires.holds in
    let log = c.args.kept.now.log in
    let fits = within (log_records holds.0) (files log.journal.file) log.journal.end (holds.1.records files (now_are_images c.args.kept.now.store files told)) in
    omega (arith, fits)

pub returns-clause-holds : goal.returns-clause-holds
returns-clause-holds c =
    let holds = c.requires.holds in
    IfOk-weaker c.append.result _ _ (λ done acknowledged. (holds.0 ++ map seen c.args.events.now, acknowledged holds.0 holds.1)) c.append.ensures.acknowledged
