-- Only as many bytes are looked at as a line may have.
use Rattle.std.proofs.Common.{arith}
use Rattle.irl_http.proofs.ChunkSteps.{line_whole, line_too_long, line_is_bad}
use Rattle.irl_http.proofs.chunks.parse_line.Goals as goal

pub returns-in-Ok-Complete : goal.returns-in-Ok-Complete
returns-in-Ok-Complete c = line_whole c.args.bytes.now c.min.result c.in-Ok-Complete.length c.in-Ok-Complete.size (omega arith) (rw c.in-Ok-Complete.field-0-is at c.in-Ok-Complete.ensures.complete)

pub returns-in-Ok-Partial : goal.returns-in-Ok-Partial
returns-in-Ok-Partial c =
    line_too_long c.args.bytes.now c.min.result (omega arith) c.if-front-eq-MAX_CHUNK_LINE.true
    (rw c.in-Ok-Partial.field-0-is at c.in-Ok-Partial.ensures.partial)
    (rw c.in-Ok-Partial.field-0-is at c.in-Ok-Partial.ensures.unfinished)

pub returns-in-Err : goal.returns-in-Err
returns-in-Err c =
    line_is_bad c.args.bytes.now c.min.result c.fewest_bad.result (omega arith) c.in-Err.ensures.invalid c.fewest_bad.ensures.some c.fewest_bad.ensures.within c.fewest_bad.ensures.bad
    c.fewest_bad.ensures.fewest
