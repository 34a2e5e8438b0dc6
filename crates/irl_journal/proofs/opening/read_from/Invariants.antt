use Rattle.std.proofs.Common.{◌≡◌, ◌-◌, ◌≤◌, vec_len, min, drop}
use Rattle.std.specs.Option.{ForSome}
use Rattle.irl_disk.specs.Images.{LeavesSame}
use Rattle.irl_disk.specs.Taken.{TakesOnly}
use Rattle.irl_journal.specs.Visiting.{TookUpTo}
use Rattle.irl_journal.proofs.Reading.{HasRead}
use Rattle.irl_journal.proofs.opening.read_from.Given as goal

abbrev pub invariant-loop-at : goal.invariant-loop-at
invariant-loop-at g l =
    let store = g.S.Store in
    record {
      same : (store.told l.store).files ≡ (store.told l.fn.store).files;
      stops : LeavesSame (store.told l.fn.store) (store.told l.store);
      taken : TakesOnly l.f (store.told l.fn.store).taken (store.told l.store).taken;
      later : (store.told l.fn.store).faults ≤ (store.told l.store).faults;
      took : TookUpTo g.V.Visit.takes l.fn.visitor l.visitor l.from l.at;
      piece : vec_len l.piece ≡ min l.left 16777222;
      told : ForSome (store.told l.fn.store).files (λ files. HasRead g.V.Visit.takes l.fn.visitor l.visitor l.from l.at (drop l.from (files l.f)));
    }

abbrev pub decreases-loop-at : goal.decreases-loop-at
decreases-loop-at g l = l.length - l.at
