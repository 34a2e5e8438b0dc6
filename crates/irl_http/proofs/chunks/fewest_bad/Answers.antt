use Rattle.std.proofs.Common.{sym, subst, length, arith}
use Rattle.std.proofs.lemmas.List.{take_all}
use Rattle.httparse.specs.Grammar.{NeverHasChunkLine}
use Rattle.irl_http.proofs.ChunkSteps.{line_empty_may, line_some_bad}
use Rattle.irl_http.proofs.chunks.fewest_bad.Goals as goal

pub loop-bad-init : goal.loop-bad-init
loop-bad-init c =
    let front = c.args.front.now in
    record {
      ordered = line_some_bad front c.requires;
      within = omega arith;
      bad = subst NeverHasChunkLine (sym (take_all (length front) front (omega arith))) c.requires;
      good = line_empty_may;
    }
