use Rattle.std.proofs.Common.{arith}
use Rattle.irl_log.proofs.Behind.{settle_front}
use Rattle.irl_log.proofs.codec.reading.split_settle.Goals as goal

pub returns-then-rest-fronts-clause-none : goal.returns-then-rest-fronts-clause-none
returns-then-rest-fronts-clause-none c = λ fronts done is bytes.
    let read = c.in_ok-count.ensures.found in
    let front = settle_front c.args.buckets c.args.bytes.now c.in_ok-count.count c.in_ok-count.rest.now fronts done is c.requires read.1 read.0 bytes in
    c.if-rest-fronts.true (omega (arith, front.2))
