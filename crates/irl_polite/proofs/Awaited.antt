-- How long a robots file is awaited.
use Rattle.std.proofs.Common.{◌≡◌, ◌∙◌, ℕ, true, List, ap, subst}
use Rattle.irl_polite.specs.declared.job.Job.{Job}
use Rattle.irl_polite.specs.declared.job.Job.TheVariants.{Robots, Idle}
use Rattle.irl_polite.specs.Schedule.{Schedule}
use Rattle.irl_polite.specs.Answers.{Answers}
use Rattle.irl_polite.proofs.Lists.{changed_same}

-- a robots file that is asked for is awaited
pub asked_awaited : (s new : Schedule) (job : Job) (name : List ℕ) → Answers s job new → job ≡ Robots name → new.awaited name ≡ true
asked_awaited s new job name a e =
    let w : Answers s (Robots name) new = subst (λ j. Answers s j new) e a in
    ap (λ (t : Schedule). t.awaited name) w.1 ∙ changed_same s.awaited name true

-- and stays so where there is nothing to do
pub idle_awaited : (s new : Schedule) (job : Job) (name : List ℕ) → Answers s job new → job ≡ Idle → s.awaited name ≡ true → new.awaited name ≡ true
idle_awaited s new job name a e awaited =
    let w : Answers s Idle new = subst (λ j. Answers s j new) e a in
    ap (λ (t : Schedule). t.awaited name) w.1 ∙ awaited
