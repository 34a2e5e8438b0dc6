-- From the first byte on, what was handed over is what the file has.
use Rattle.std.proofs.Common.{◌<◌, length, arith}
use Rattle.std.proofs.lemmas.Result.{IfOk-weaker}
use Rattle.irl_journal.proofs.Handed.{ends_handed, damage_handed}
use Rattle.irl_journal.proofs.opening.read_records.Goals as goal

pub read_from-requires : goal.read_from-requires
read_from-requires g c = record { file = c.requires.file; long = λ files tells. (c.requires.long files tells).0 }

pub returns-clause-records : goal.returns-clause-records
returns-clause-records g c =
    IfOk-weaker c.read_from.result _ _ (λ end stops files tells. ends_handed g.V.Visit.takes c.args.visitor.now c.read_from.new.visitor (files c.args.f) end (stops files tells))
    c.read_from.ensures.records

pub returns-clause-damaged : goal.returns-clause-damaged
returns-clause-damaged g c = λ at e files tells.
    let long : 1 < length (files c.args.f) = omega (arith, c.requires.long files tells) in
    damage_handed g.V.Visit.takes g.V.Visit.refuses c.args.visitor.now c.read_from.new.visitor (files c.args.f) at long (c.read_from.ensures.damaged at e files tells)
