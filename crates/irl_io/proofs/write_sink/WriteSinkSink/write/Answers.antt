-- What the writer took of the rest of the piece is the next part of the piece.
use Rattle.std.proofs.Common.{◌≡◌, ℕ, ◌+◌, ◌-◌, List, ◌++◌, Option, length, take, drop, sym, ap, ◌∙◌, subst, arith, rules}
use Rattle.std.proofs.Math.Seq.{take-add}
use Rattle.std.proofs.lemmas.List.{take_rest}
use Rattle.std.specs.Io.KnownBytes.{Appends}
use Rattle.std.proofs.KnownBytes.{Appends-trans}
use Rattle.irl_io.proofs.write_sink.WriteSinkSink.write.Goals as goal

next_part : (a b c : Option (List ℕ)) (piece : List ℕ) (n m : ℕ) → Appends a b (take n piece) → Appends b c (take m (take (length piece - n) (drop n piece))) → Appends a c (take (n + m) piece)
next_part a b c piece n m first second =
    let joined : take n piece ++ take m (take (length piece - n) (drop n piece)) ≡ take (n + m) piece = ap (λ l. take n piece ++ take m l) (take_rest piece n) ∙ sym (take-add n m piece) in
    subst (Appends a c) joined (Appends-trans a b c _ _ first second)

pub loop-taken-preserved-then-count-gt0 : goal.loop-taken-preserved-then-count-gt0
loop-taken-preserved-then-count-gt0 g c =
    record {
      within = search rules;
      written = next_part _ _ _ _ _ _ c.loop-taken.invariant.written c.in-Ok.ensures.bytes;
      later = omega arith;
    }
