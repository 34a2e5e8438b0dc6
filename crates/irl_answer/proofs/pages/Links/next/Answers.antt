use Rattle.std.proofs.Common.{◌<◌, length, take, drop, ◌-◌, sym, ◌∙◌, arith}
use Rattle.irl_answer.proofs.Giving.{all_left, first_given}
use Rattle.irl_answer.proofs.pages.Links.next.Goals as goal

pub returns-in-Some-clause-ok : goal.returns-in-Some-clause-ok
returns-in-Some-clause-ok c =
    let self = c.self.inside in
    let all = c.deref.result.now in
    let some : 0 < self.room = omega arith in
    let first = rw c.in-Some.is at c.in_ok-offer.ensures in
    let left = all_left all self.spans.items self.passed c.deref.ensures.value in
    sym c.self.view_is
    ∙ first_given self.domain self.room self.passed c.in-Some.count self.page.now self.base self.spans.items (take (length all - self.passed) (drop self.passed all)) c.in-Some.offer left some
    first.offered first.webs
