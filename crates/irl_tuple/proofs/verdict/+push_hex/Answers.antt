use Rattle.std.proofs.Common.{arith}
use Rattle.irl_tuple.proofs.HexLemmas.{hex_pushed}
use Rattle.irl_tuple.proofs.verdict.+push_hex.Goals as goal

pub returns-clause-ok : goal.returns-clause-ok
returns-clause-ok t c =
    hex_pushed c.extend_from_slice.result c.args.count c.args.number c.hex_digit-digit.result c.args.out.now.items _ _ (omega (arith, c.if-count-eq0.false)) c.in_ok-push_hex.ensures.ok
    c.hex_digit-digit.ensures c.extend_from_slice.ensures.items
