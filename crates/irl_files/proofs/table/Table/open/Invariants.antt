use Rattle.irl_files.specs.Lost.{KeepsLost}
use Rattle.irl_files.proofs.table.Table.open.Given as goal

-- each failed sync is remembered so far
abbrev pub invariant-tries : goal.invariant-tries
invariant-tries g l = KeepsLost l.fn.self.lost l.self.lost
