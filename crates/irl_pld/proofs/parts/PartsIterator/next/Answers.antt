use Rattle.std.proofs.Common.{ap, ◌∙◌, option_copied, rules}
use Rattle.irl_pld.specs.Cut.{parts_left}
use Rattle.irl_pld.proofs.parts.PartsIterator.next.Goals as goal

pub returns-clause-steps : goal.returns-clause-steps
returns-clause-steps c = ap (λ o. parts_left c.args.self.now.separator (option_copied o)) c.in_ok-self.was ∙ c.cut.ensures.parts

pub returns-clause-goes : goal.returns-clause-goes
returns-clause-goes c =
    let steps = ap (λ o. parts_left c.args.self.now.separator (option_copied o)) c.in_ok-self.was ∙ c.cut.ensures.parts in
    search rules
