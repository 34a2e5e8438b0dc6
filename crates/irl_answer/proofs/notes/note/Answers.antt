use Rattle.std.proofs.Common.{sym, ◌∙◌}
use Rattle.irl_answer.proofs.Chains.{chain_ends}
use Rattle.irl_answer.proofs.notes.note.Goals as goal

pub returns-in-Found : goal.returns-in-Found
returns-in-Found c =
    c.then_some.ensures
    ∙ chain_ends c.loop-answer.asked c.loop-answer.followed c.in-Some.answer.now c.loop-answer.rest.now c.in-Some.more.now c.in-Found.state c.is_empty.result
    c.in-Some.ensures.cases.0 (sym c.in-Found.is ∙ c.in_ok-web.ensures) c.is_empty.ensures
    ∙ sym c.loop-answer.invariant.same
