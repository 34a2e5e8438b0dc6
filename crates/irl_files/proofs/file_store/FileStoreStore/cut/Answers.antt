-- What is remembered of failed syncs, and of the first failure.
use Rattle.std.proofs.Common.{◌≡◌}
use Rattle.irl_disk.specs.DeviceCall.{Cut}
use Rattle.irl_files.specs.FileStore.{lost_syncs}
use Rattle.irl_files.proofs.Remembered.{KeepsLost-same, KeepsFirst-answer}
use Rattle.irl_files.proofs.file_store.FileStoreStore.cut.Goals as goal

pub returns-clause-logs : goal.returns-clause-logs
returns-clause-logs g c =
    let old = lost_syncs c.args.self.now in
    let mid = c.cut-answer.new.self.files.lost in
    let new = lost_syncs c.end.new.self in
    let same = c.end.ensures.lost in (
      record {
        kept = KeepsLost-same old mid new c.cut-answer.ensures same;
        once = tt;
      },
      KeepsFirst-answer (Cut c.args.f c.args.to) (λ error failure. failure.error ≡ error) c.cut-answer.result c.end.result _ _
          c.end.ensures.value c.end.ensures.first,
    )
