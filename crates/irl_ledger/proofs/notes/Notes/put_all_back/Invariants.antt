use Rattle.std.proofs.Common.{◌≡◌, vec_len}
use Rattle.irl_ledger.specs.Noting.{CanRestoreAll, restored_all}
use Rattle.irl_ledger.proofs.notes.Notes.put_all_back.Given as goal

abbrev pub invariant-loop-before : goal.invariant-loop-before
invariant-loop-before l = record {
  can : CanRestoreAll l.all.items l.self;
  same : restored_all l.all.items l.self ≡ restored_all l.initial.all.items l.initial.self;
}

abbrev pub decreases-loop-before : goal.decreases-loop-before
decreases-loop-before l = vec_len l.all
