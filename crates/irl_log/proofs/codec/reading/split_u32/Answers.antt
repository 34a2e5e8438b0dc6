use Rattle.std.proofs.Common.{◌≤◌, length, arith}
use Rattle.irl_log.proofs.Words.{read_4}
use Rattle.irl_log.proofs.codec.reading.split_u32.Goals as goal

pub returns-clause-found : goal.returns-clause-found
returns-clause-found c =
    let long : 4 ≤ length c.args.bytes.now = omega (arith, c.in_ok-word.ensures.cases) in (
      read_4 c.args.bytes.now c.in_ok-word.word.now c.in_ok-word.rest.now c.from_le_bytes.result (λ i. omega (arith, c.type_inv.bytes i)) long c.in_ok-word.ensures.cases.0
          c.in_ok-word.ensures.cases.1 c.from_le_bytes.ensures,
      omega (arith, c.from_le_bytes.type_inv),
    )
