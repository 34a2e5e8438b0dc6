use Rattle.std.proofs.Common.{◌≡◌, ◌∙◌, ℕ, ◌≤◌, List, IsTrue, sym, ap, subst}
use Rattle.std.specs.Prelude.{sum}
use Rattle.irl_model.specs.Book.{IsBelow}
use Rattle.irl_layout.specs.Commits.{Commit}
use Rattle.irl_layout.proofs.CommitBytes.{one_commit}
use Rattle.irl_bay.proofs.history.ReachingVisitorVisit.take.Goals.{then-is_below, else-is_below}
use Rattle.irl_bay.proofs.history.ReachingVisitorVisit.take.Goals as goal

pub returns-clause-refused : goal.returns-clause-refused
returns-clause-refused c = λ no commit is bytes within.
    let found = rw c.in-Some.is at c.in_ok-commit.ensures.found in
    let same = one_commit c.args.self.now.buckets c.args.payload.now commit c.in-Some.commit is found.0 bytes found.1 in
    let whole = ap (λ (x : Commit). x.cut) (c.commit.view_is ∙ sym same) in
    let cut : c.deref.result.now ≡ commit.cut = c.deref.ensures.value ∙ whole in
    let yes = c.is_below.ensures.1 (subst (λ (x : List ℕ). IsBelow x c.deref-2.result.now) (sym cut) (subst (λ (y : List ℕ). IsBelow commit.cut y) (sym c.deref-2.ensures.value) within.lists)) in
    elim c.if-is_below.branch [
      | then-is_below w ↦
          (let same_cut : w.deref-then-is_below.result.now ≡ commit.cut = w.deref-then-is_below.ensures.value ∙ whole in
          let few = w.is_sum_within.ensures.1 (subst (λ (x : List ℕ). sum x ≤ c.args.self.now.most) (sym same_cut) within.all) in
          let never = subst IsTrue (sym w.result-is ∙ no) few in
          cc)
      | else-is_below w ↦
          (let never = subst IsTrue w.if-is_below.false yes in
          cc)
    ]
