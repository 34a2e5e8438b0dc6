-- What is remembered of failed syncs, and of the first failure.
use Rattle.std.proofs.Common.{◌≡◌}
use Rattle.irl_disk.specs.DeviceCall.{Sync}
use Rattle.irl_files.specs.FileStore.{lost_syncs}
use Rattle.irl_files.proofs.Remembered.{KeepsLost-same, FailsOnce-answer, KeepsFirst-answer}
use Rattle.irl_files.proofs.file_store.FileStoreStore.sync.Goals as goal

pub returns-clause-logs : goal.returns-clause-logs
returns-clause-logs g c =
    let old = lost_syncs c.args.self.now in
    let mid = c.sync-answer.new.self.files.lost in
    let new = lost_syncs c.end.new.self in
    let did = c.sync-answer.ensures in
    let same = c.end.ensures.lost in (
      record {
        kept = KeepsLost-same old mid new c.sync-answer.ensures.kept same;
        once = FailsOnce-answer _ _ _ old mid new c.end.ensures.value did.first did.lost same;
      },
      KeepsFirst-answer (Sync c.args.f) (λ error failure. failure.error ≡ error) c.sync-answer.result c.end.result _ _
          c.end.ensures.value c.end.ensures.first,
    )
