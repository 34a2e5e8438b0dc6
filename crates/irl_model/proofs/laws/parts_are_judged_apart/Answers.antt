use Rattle.irl_model.proofs.Parts.{parts_after, parts_judged}
use Rattle.irl_model.proofs.laws.parts_are_judged_apart.Goals as goal

pub returns-clause-judged : goal.returns-clause-judged
returns-clause-judged c = λ rule keys low high cut before behind. parts_judged cut rule keys low high before behind

pub returns-clause-after : goal.returns-clause-after
returns-clause-after c = λ rule keys low high cut before behind are below above. (parts_after cut rule keys low high before behind are below above).joined

pub returns-clause-parts : goal.returns-clause-parts
returns-clause-parts c = λ rule keys low high cut before behind. parts_after cut rule keys low high before behind
