use Rattle.std.proofs.Common.{rules, refl, ◌∙◌}
use Rattle.std.proofs.lemmas.List.{take_rest}
use Rattle.irl_pld.proofs.CutLemmas.{cut-none, cut-first, split-cut}
use Rattle.irl_pld.proofs.parts.cut.Goals as goal

pub returns-in-Some-clause-front : goal.returns-in-Some-clause-front
returns-in-Some-clause-front c =
    let found = cut-first c.args.separator c.args.bytes.now c.in-Some.i (search rules) (search rules) (search rules) in
    rw found

pub returns-in-Some-clause-rest : goal.returns-in-Some-clause-rest
returns-in-Some-clause-rest c =
    let found = cut-first c.args.separator c.args.bytes.now c.in-Some.i (search rules) (search rules) (search rules) in
    rw (found, take_rest)

pub returns-in-None-clause-front : goal.returns-in-None-clause-front
returns-in-None-clause-front c = rw (cut-none c.args.separator c.args.bytes.now (search rules))

pub returns-in-None-clause-rest : goal.returns-in-None-clause-rest
returns-in-None-clause-rest c = rw (cut-none c.args.separator c.args.bytes.now (search rules))

pub returns-in-Some-clause-parts : goal.returns-in-Some-clause-parts
returns-in-Some-clause-parts c =
    let bytes = c.args.bytes.now in
    let found = cut-first c.args.separator bytes c.in-Some.i (search rules) (search rules) (search rules) in
    split-cut c.args.separator bytes ∙ (rw (found, take_rest) refl)

pub returns-in-None-clause-parts : goal.returns-in-None-clause-parts
returns-in-None-clause-parts c =
    split-cut c.args.separator c.args.bytes.now ∙ (rw (cut-none c.args.separator c.args.bytes.now (search rules)) refl)
