use Rattle.std.proofs.Common.{◌≤◌, ◌-◌, vec_capacity}
use Rattle.irl_layout.specs.Commits.{live_side}
use Rattle.irl_bay.proofs.Emptied.{EmptiedSoFar}
use Rattle.irl_bay.proofs.bay.Bay.empty_side.Given as goal

-- the journals of the buckets so far are made, and there is room for the others
abbrev pub invariant-loop-b : goal.invariant-loop-b
invariant-loop-b g l =
    let store = g.S.Store in
    record {
      made : EmptiedSoFar l.self (1 - live_side l.self.last) l.self.settings.buckets (store.told l.fn.store) (store.told l.store) l.buckets.items l.b;
      room : l.self.settings.buckets ≤ vec_capacity l.buckets;
    }
