use Rattle.std.proofs.Common.{◌≡◌, ◌++◌, List, length}
use Rattle.irl_offer.specs.declared.entry.Entry.{Entry}
use Rattle.irl_layout.proofs.EntryBytes.{AreRead}
use Rattle.irl_layout.proofs.entries.read_run.Given as goal

-- the first bytes are entries of the bucket, which stand behind the others
abbrev pub invariant-loop-bytes : goal.invariant-loop-bytes
invariant-loop-bytes l = (taken : List Entry) × AreRead l.settings.buckets l.b l.payload l.rest taken × (l.entries.items ≡ l.initial.entries.items ++ taken)

abbrev pub decreases-loop-bytes : goal.decreases-loop-bytes
decreases-loop-bytes l = length l.rest
