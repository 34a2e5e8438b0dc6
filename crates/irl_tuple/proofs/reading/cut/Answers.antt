use Rattle.std.proofs.Common.{rules}
use Rattle.std.proofs.lemmas.List.{take_rest}
use Rattle.irl_tuple.proofs.CutLemmas.{cut-none, cut-first}
use Rattle.irl_tuple.proofs.reading.cut.Goals as goal

pub returns-in-Some-clause-front : goal.returns-in-Some-clause-front
returns-in-Some-clause-front c =
    let found = cut-first c.args.text.now c.in-Some.at (search rules) (search rules) (search rules) in
    rw found

pub returns-in-Some-clause-rest : goal.returns-in-Some-clause-rest
returns-in-Some-clause-rest c =
    let found = cut-first c.args.text.now c.in-Some.at (search rules) (search rules) (search rules) in
    rw (found, take_rest)

pub returns-in-None-clause-front : goal.returns-in-None-clause-front
returns-in-None-clause-front c = rw (cut-none c.args.text.now (search rules))

pub returns-in-None-clause-rest : goal.returns-in-None-clause-rest
returns-in-None-clause-rest c = rw (cut-none c.args.text.now (search rules))
