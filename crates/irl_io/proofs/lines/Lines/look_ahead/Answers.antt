-- At the end of the source, all that was read ahead is the last line.
use Rattle.std.proofs.Common.{length, sym, ap, ◌∙◌, refl, inr, arith}
use Rattle.irl_io.proofs.FeedLemmas.{all_first}
use Rattle.irl_io.proofs.lines.Lines.look_ahead.Goals as goal

pub returns-in-Ok-eq0-2-clause-stands : goal.returns-in-Ok-eq0-2-clause-stands
returns-in-Ok-eq0-2-clause-stands g c =
    let end = c.in-Ok-eq0.ensures.end c.in-Ok-eq0.field-0-test in
    let same = end.0 ∙ sym c.ahead-ahead.ensures in
    let size = ap length same in
    record {
      first = all_first c.ahead-ahead.result.now c.fill.new.self.ahead c.in_default.ensures.none (omega arith) same;
      short = omega arith;
      some = omega arith;
      within = omega (arith, size);
      ended = inr (refl, sym size, end.1);
    }
