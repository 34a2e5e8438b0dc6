use Rattle.std.proofs.Common.{ℕ, List, Bor, sym, subst, arith}
use Rattle.std.specs.Io.KnownBytes.{Appends}
use Rattle.irl_layout.proofs.Numbers.{flat-more}
use Rattle.irl_top.proofs.Sinks.{appends_both, pieces_part, on_err_always}
use Rattle.irl_top.proofs.telling.say.Goals as goal

pub returns-in_err-write-clause-err : goal.returns-in_err-write-clause-err
returns-in_err-write-clause-err g c =
    on_err_always _ _ (pieces_part (λ (piece : Bor (List ℕ)). piece.now) c.args.pieces.now c.loop-piece.piece-index _ _ _ _ (omega arith) c.loop-piece.invariant.written c.in_err-write.ensures.err)

pub loop-piece-preserved : goal.loop-piece-preserved
loop-piece-preserved g c = record {
  written = subst (λ (l : List ℕ). Appends (g.E.Sink.written c.args.errors.now) (g.E.Sink.written c.write.new.self) l)
      (sym (flat-more (λ (piece : Bor (List ℕ)). piece.now) c.args.pieces.now c.loop-piece.piece-index _ (omega arith)))
      (appends_both _ _ _ _ _ c.loop-piece.invariant.written c.in_ok-write.ensures.ok);
  later = omega (arith, c.loop-piece.invariant.later, c.in_ok-write.ensures.cause.later);
}
