use Rattle.std.proofs.Common.{◌≡◌, ◌≤◌}
use Rattle.std.specs.Option.{ForSome}
use Rattle.irl_disk.specs.Images.{LeavesSame}
use Rattle.irl_yard.specs.Entering.{AreSyncedWithin}
use Rattle.irl_yard.proofs.enter.sync_files.Given as goal

-- the files so far are synced
abbrev pub invariant-loop-f : goal.invariant-loop-f
invariant-loop-f g l =
    let store = g.S.Store in
    record {
      synced : ForSome (store.told l.fn.store).files (λ files. AreSyncedWithin (store.told l.store).images l.fn.from l.f files);
      same : (store.told l.store).files ≡ (store.told l.fn.store).files;
      stops : LeavesSame (store.told l.fn.store) (store.told l.store);
      taken : (store.told l.store).taken ≡ (store.told l.fn.store).taken;
      later : (store.told l.fn.store).faults ≤ (store.told l.store).faults;
    }
