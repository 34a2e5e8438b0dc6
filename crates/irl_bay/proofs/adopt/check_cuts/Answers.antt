use Rattle.std.proofs.Common.{◌≡◌, ◌∙◌, ℕ, ◌≤◌, IsTrue, List, sym, ap, subst, rules}
use Rattle.std.specs.Prelude.{sum}
use Rattle.irl_layout.specs.Commits.{Commit, first_commit, last_commit}
use Rattle.irl_bay.specs.Damage.{RiseFrom}
use Rattle.irl_bay.specs.declared.history.HistoryVisitor.{HistoryVisitor}
use Rattle.irl_bay.proofs.Reached.{first_as}
use Rattle.irl_bay.proofs.adopt.check_cuts.Goals as goal

pub returns-then-not-is_below-clause-damaged : goal.returns-then-not-is_below-clause-damaged
returns-then-not-is_below-clause-damaged g c = λ f at is.
    let named = c.first_above.ensures.damaged f at (search rules) in
    let says = c.reaching-reaching.ensures in
    (named.0, λ files tells commits ends rise. first_as _ _ _ _ _ _ commits at says.buckets says.lengths says.most (named.1 files tells commits ends) rise)

-- the last commit counts too many offers
pub first_above-requires-then-not-is_sum_within-clause-above : goal.first_above-requires-then-not-is_sum_within-clause-above
first_above-requires-then-not-is_sum_within-clause-above g c = λ files tells.
    let last = c.requires.last files tells in
    let says = c.reaching-reaching-2.ensures in (
      last.0,
      last.1,
      subst (λ (k : ℕ). RiseFrom k (first_commit k) last.0) (sym says.buckets) last.2,
      λ within.
          let cut : c.deref-3.result.now ≡ (last_commit (first_commit c.reaching-reaching-2.result.buckets) last.0).cut =
          c.deref-3.ensures.value ∙ ap (λ (x : Commit). x.cut) (ap (λ (h : HistoryVisitor). h.last) c.history.view_is ∙ last.3)
          ∙ ap (λ (k : ℕ). (last_commit (first_commit k) last.0).cut) (sym says.buckets) in
          let yes = c.is_sum_within.ensures.1 (subst (λ (l : List ℕ). sum l ≤ c.reaching-reaching-2.result.most) (sym cut) within.all) in
          let never = subst IsTrue c.if-not-is_sum_within.true yes in
          cc,
    )

pub returns-then-not-is_sum_within-clause-damaged : goal.returns-then-not-is_sum_within-clause-damaged
returns-then-not-is_sum_within-clause-damaged g c = λ f at is.
    let named = c.first_above-then-not-is_sum_within.ensures.damaged f at (search rules) in
    let says = c.reaching-reaching-2.ensures in
    (named.0, λ files tells commits ends rise. first_as _ _ _ _ _ _ commits at says.buckets says.lengths says.most (named.1 files tells commits ends) rise)
