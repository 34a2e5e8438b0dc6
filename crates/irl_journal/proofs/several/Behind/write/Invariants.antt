use Rattle.std.proofs.Common.{◌≡◌, ◌≤◌, Ok, drop, take}
use Rattle.irl_disk.specs.declared.store.Failed.{Failed}
use Rattle.irl_journal.specs.Format.{records_text}
use Rattle.irl_journal.specs.Growing.{Puts}
use Rattle.irl_journal.proofs.several.Behind.write.Given as goal

-- the records so far are put, but for the first one's gate
abbrev pub invariant-loop-i : goal.invariant-loop-i
invariant-loop-i g l = record {
  some : 1 ≤ l.i;
  room : l.self.frame.room ≡ l.fn.self.frame.room;
  puts : Puts {E = Failed} (Ok tt) (drop 1 (records_text (take l.i (g.P.Payloads.payloads l.payloads)))) l.fn.self.writer l.self.writer (g.S.Store.told l.fn.store) (g.S.Store.told l.store);
}
