use Rattle.irl_files.specs.Lost.{KeepsLost}
use Rattle.irl_files.proofs.opening.make_folder.Given as goal

-- each failed sync is remembered so far
abbrev pub invariant-levels : goal.invariant-levels
invariant-levels g l = KeepsLost l.fn.files.lost l.files.lost
