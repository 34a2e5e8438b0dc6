use Rattle.std.proofs.Common.{◌≡◌, ◌≢◌, List, ℕ, [], ◌∷◌, ◌++◌, sym, ap, ◌∙◌}
use Rattle.irl_robots.specs.Matching.{matches, some_end}
use Rattle.irl_robots.proofs.RunsLemmas.{run-found, run-missing, last-run, last-end, literal-front, other-last, no-last}
use Rattle.irl_robots.proofs.runs.is_within.Goals as goal
use Rattle.irl_robots.proofs.runs.is_within.Goals.{in_default-split_last-via-in-Some-split_last+else-last-eq36, in_default-split_last-via-in_default-split_last}

pub returns-in_default-past : goal.returns-in_default-past
returns-in_default-past c =
    sym (run-missing c.loop-run.rest.now c.in-Some.run'.now c.in-Some.behind.now c.loop-run.left.now c.in-Some.ensures c.in_default-past.ensures)
    ∙ c.loop-run.invariant

pub loop-run-preserved : goal.loop-run-preserved
loop-run-preserved c =
    sym (run-found c.loop-run.rest.now c.in-Some.run'.now c.in-Some.behind.now c.loop-run.left.now c.in-Some-past.further.now c.in-Some.ensures c.in-Some-past.ensures)
    ∙ c.loop-run.invariant

pub returns-in-Some-split_last : goal.returns-in-Some-split_last
returns-in-Some-split_last c =
    let run = c.in-Some-split_last.run'.now in
    let left = c.loop-run.left.now in
    let is : c.loop-run.rest.now ≡ run ++ 36 ∷ [] =
    c.in-Some-split_last.ensures.cases.0 ∙ ap (λ d. run ++ d ∷ []) c.if-last-eq36.true
    in
    sym (ap (λ p. some_end (matches p) left) is ∙ last-end run left c.is_end.result (literal-front c.loop-run.rest.now run 36 is c.in_default.ensures) c.is_end.ensures.0 c.is_end.ensures.1)
    ∙ c.loop-run.invariant

pub returns-in_default-split_last : goal.returns-in_default-split_last
returns-in_default-split_last c =
    let rest = c.loop-run.rest.now in
    let other : (front : List ℕ) → rest ≢ front ++ 36 ∷ [] =
    elim c.in_default-split_last.branch [
      | in_default-split_last-via-in-Some-split_last+else-last-eq36 w ↦ other-last rest w.in-Some-split_last.run'.now w.in-Some-split_last.last.now w.in-Some-split_last.ensures.cases.0
          w.if-last-eq36.false
      | in_default-split_last-via-in_default-split_last w ↦ no-last rest w.in_default-split_last.ensures.cases
    ]
    in
    c.is_some.ensures ∙ sym (last-run rest c.loop-run.left.now c.find.result c.in_default.ensures other c.find.ensures) ∙ c.loop-run.invariant
