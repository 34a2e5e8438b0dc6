use Rattle.std.proofs.Common.{◌≡◌, ◌<◌, ◌≤◌, ℕ, length}
use Rattle.std.specs.Option.{ForSome}
use Rattle.irl_disk.specs.Images.{LeavesSame}
use Rattle.irl_head.proofs.journal.has_others.Given as goal

-- none so far has more than one byte
abbrev pub invariant-loop-f : goal.invariant-loop-f
invariant-loop-f g l =
    let store = g.S.Store in
    record {
      none : ForSome (store.told l.fn.store).files (λ files. (f : ℕ) → 1 ≤ f → f < l.f → length (files f) ≤ 1);
      same : (store.told l.store).files ≡ (store.told l.fn.store).files;
      stops : LeavesSame (store.told l.fn.store) (store.told l.store);
      taken : (store.told l.store).taken ≡ (store.told l.fn.store).taken;
      later : (store.told l.fn.store).faults ≤ (store.told l.store).faults;
    }
