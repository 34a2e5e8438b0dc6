use Rattle.std.proofs.Common.{◌≡◌, ◌≤◌, vec_capacity}
use Rattle.irl_bay.proofs.Blank.{MadeSoFar}
use Rattle.irl_bay.proofs.bay.Bay.make.Given as goal

-- the manifest and the buckets so far are made, and there is room for the others
abbrev pub invariant-loop-b : goal.invariant-loop-b
invariant-loop-b g l =
    let store = g.S.Store in
    record {
      made : MadeSoFar (store.told l.fn.store) (store.told l.store) l.base l.settings.buckets l.manifest l.buckets.items l.b;
      room : l.settings.buckets ≤ vec_capacity l.buckets;
      taken : (store.told l.store).taken ≡ (store.told l.fn.store).taken;
      later : (store.told l.fn.store).faults ≤ (store.told l.store).faults;
    }
