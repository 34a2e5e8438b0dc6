use Rattle.std.proofs.Common.{◌∙◌, nat_eq, refl, ap}
use Rattle.std.specs.List.{filter}
use Rattle.irl_merge.specs.declared.query.Query.{Query}
use Rattle.irl_merge.proofs.Numbering.{length_entries, numbered_entries}
use Rattle.irl_merge.proofs.Asking.{swept_first}
use Rattle.irl_merge.proofs.sweep.Sweep.new.Goals as goal

pub returns-clause-swept : goal.returns-clause-swept
returns-clause-swept c = λ offers are.
    let entries = c.args.entries.now in
    swept_first c.args.rule offers _
    (λ key. c.in_ok-queries.ensures.same key ∙ ap (filter (λ (a : Query). nat_eq key a.key)) (numbered_entries offers entries are))
    (c.in_ok-queries.ensures.count ∙ length_entries offers entries are) c.in_ok-queries.ensures.order refl c.in_ok-verdicts.ensures.items refl
