use Rattle.std.proofs.Common.{length, arith}
use Rattle.irl_scan.proofs.References.{one_text, some_text}
use Rattle.irl_scan.proofs.reference.one_text.Goals as goal

pub returns-clause-some : goal.returns-clause-some
returns-clause-some c = λ value.
    let text = some_text (length value) value (omega arith) in
    (text.has.items, text.has.reads)

pub returns-clause-one : goal.returns-clause-one
returns-clause-one c = one_text
