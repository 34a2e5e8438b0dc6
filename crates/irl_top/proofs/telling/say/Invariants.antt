use Rattle.std.proofs.Common.{ℕ, ◌≤◌, List, Bor, take}
use Rattle.std.specs.List.{flat_map}
use Rattle.std.specs.Io.KnownBytes.{Appends}
use Rattle.irl_top.proofs.telling.say.Given as goal

-- the pieces so far are written
abbrev pub invariant-loop-piece : goal.invariant-loop-piece
invariant-loop-piece g l = record {
  written : Appends (g.E.Sink.written l.fn.errors) (g.E.Sink.written l.errors) (flat_map (λ (piece : Bor (List ℕ)). piece.now) (take l.piece-index l.pieces));
  later : g.E.Sink.faults l.fn.errors ≤ g.E.Sink.faults l.errors;
}
