use Rattle.std.proofs.Common.{length, arith}
use Rattle.irl_scan.proofs.Exists.{some_cut}
use Rattle.irl_scan.proofs.Pieces.{one_cut}
use Rattle.irl_scan.proofs.scan.one_cut.Goals as goal

pub returns-clause-some : goal.returns-clause-some
returns-clause-some c = λ page.
    let cut = some_cut (length page) (length page) page (omega arith) (omega arith) in
    (cut.gives.pieces, cut.gives.cut)

pub returns-clause-one : goal.returns-clause-one
returns-clause-one c = one_cut
