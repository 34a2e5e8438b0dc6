use Rattle.std.proofs.Common.{IsTrue, subst}
use Rattle.irl_layout.specs.Commits.{Commit}
use Rattle.irl_bay.specs.Damage.{IsAtOrAbove}
use Rattle.irl_layout.proofs.CommitBytes.{one_commit}
use Rattle.irl_bay.proofs.history.HistoryVisitorVisit.take.Goals as goal

pub returns-then-not-is_at_or_above-clause-refused : goal.returns-then-not-is_at_or_above-clause-refused
returns-then-not-is_at_or_above-clause-refused c = λ no commit is bytes above.
    let found = rw c.in-Some.is at c.in_ok-commit.ensures.found in
    let same = one_commit c.args.self.now.buckets c.args.payload.now commit c.in-Some.commit is found.0 bytes found.1 in
    let yes = c.is_at_or_above.ensures.1 (subst (λ (x : Commit). IsAtOrAbove c.args.self.now.last x) same above) in
    let never = subst IsTrue c.if-not-is_at_or_above.true yes in
    cc
