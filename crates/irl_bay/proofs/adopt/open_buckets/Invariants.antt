use Rattle.std.proofs.Common.{◌≡◌, ℕ, ◌<◌, ◌≤◌, length, get_or, vec_capacity}
use Rattle.irl_disk.specs.Disk.{TellsBy}
use Rattle.irl_disk.specs.Images.{LeavesBy}
use Rattle.irl_disk.specs.Taken.{TakesAmong}
use Rattle.irl_layout.specs.Commits.{live_at, live_side}
use Rattle.irl_bay.specs.Drum.{no_bucket}
use Rattle.irl_bay.specs.Opening.{IsJournalBelow, OpensBelow, OpensBucket}
use Rattle.irl_bay.proofs.adopt.open_buckets.Given as goal

-- the buckets so far are open, and only their journals changed
abbrev pub invariant-loop-b : goal.invariant-loop-b
invariant-loop-b g l =
    let store = g.S.Store in
    record {
      count : length l.buckets.items ≡ l.b;
      room : l.settings.buckets ≤ vec_capacity l.buckets;
      opened : (c : ℕ) → c < l.b → OpensBucket l.base l.settings c (live_at l.settings.buckets l.last c) (store.told l.fn.store) (store.told l.store) (get_or l.buckets.items c no_bucket);
      files : TellsBy (OpensBelow l.base (live_side l.last) l.b) (store.told l.fn.store).files (store.told l.store).files;
      stops : LeavesBy (OpensBelow l.base (live_side l.last) l.b) (store.told l.fn.store) (store.told l.store);
      taken : TakesAmong (IsJournalBelow l.base (live_side l.last) l.settings.buckets) (store.told l.fn.store).taken (store.told l.store).taken;
      later : (store.told l.fn.store).faults ≤ (store.told l.store).faults;
    }
