-- What was judged, read and done stays so, whatever the steps are.
use Rattle.std.proofs.Common.{◌≡◌, ◌∙◌, ℕ, ◌≤◌, List, [], ◌∷◌, sym, ap, subst, arith}
use Rattle.irl_offer.specs.declared.outcome.Outcome.{Outcome}
use Rattle.irl_offer.specs.declared.place.Place.{Place}
use Rattle.irl_offer.specs.declared.settings.Settings.{Settings}
use Rattle.irl_model.specs.Book.{IsPrefixOf, judged}
use Rattle.irl_events.specs.Events.{Progress, before_all, progress, after_events}
use Rattle.irl_model.proofs.FrontLaws.{judged_front}
use Rattle.irl_fate.specs.Fates.{fate_of}
use Rattle.irl_fate.specs.declared.fate.Fate.TheVariants.{Done}
use Rattle.irl_fate.proofs.Crawls.{after_append, later_done}
use Rattle.irl_fate.proofs.Fresh.{done_stays}
use Rattle.irl_core.specs.declared.step.Step.{Step}
use Rattle.irl_core.specs.declared.step.Step.TheVariants.{Offer, Flush, Merge, Stop, FlushStop, MergeStop, Pass, Settle, SettleStop}
use Rattle.irl_core.specs.Steps.{CoreState, course, judged_in, pass_event, settle_event, may_offer, may_flush, may_merge, may_pass, may_settle, with_list, with_cut, with_event, step, after_steps}
use Rattle.irl_core.specs.Laws.{IsCore}
use Rattle.irl_core.proofs.Keeping.{course_more, stands_most, step_kept, steps_kept, taken_state, stopped_state}
use Rattle.irl_core.proofs.Receipts.{steps_settings, steps_front, steps_events}

pub steps_verdicts : (x : CoreState) (steps : List Step) → IsCore x → IsPrefixOf (judged x.urls) (judged (after_steps x steps).urls)
steps_verdicts x steps is = judged_front x.urls (after_steps x steps).urls is.urls (steps_front x steps)

-- how far a crawl has come, by the events that came behind others
pub course_after : (x : CoreState) (steps : List Step) → course (after_steps x steps) ≡ after_events (course x) (steps_events x steps).0
course_after x steps =
    let y = after_steps x steps in
    let more = steps_events x steps in
    ap (λ (s : Settings). progress s.queues s.buckets y.events) (steps_settings x steps)
    ∙ ap (progress x.settings.queues x.settings.buckets) more.1
    ∙ after_append (before_all x.settings.queues x.settings.buckets) x.events more.0

pub steps_done : (x : CoreState) (steps : List Step) (n : ℕ) (outcome : Outcome) → IsCore x → fate_of (course x) n ≡ Done outcome → fate_of (course (after_steps x steps)) n ≡ Done outcome
steps_done x steps n outcome is h =
    let y = after_steps x steps in
    let more = (steps_events x steps).0 in
    let later = later_done (course x) more in
    done_stays (course x) (course y) later.more n outcome (ap (λ (p : Progress). p.done) (course_after x steps) ∙ later.is) (stands_most y (steps_kept x steps is) n) h

-- ---- no pass reads less than the one before
abbrev ReadGrows : CoreState → CoreState → Type 0
ReadGrows x y = (course x).read ≤ (course y).read

read_same : (x : CoreState) → ReadGrows x x
read_same x = omega arith

read_pass : (x : CoreState) (places : List Place) → IsCore x → ReadGrows x (with_event (pass_event x) places x)
read_pass x places is =
    let P : Progress → Type 0 = λ p. (course x).read ≤ p.read in
    let below : (course x).read ≤ judged_in x = is.read in
    subst P (sym (course_more x (pass_event x) places)) below

read_settle : (x : CoreState) (outcomes : List (ℕ × Outcome)) → ReadGrows x (with_event (settle_event x outcomes) [] x)
read_settle x outcomes =
    let P : Progress → Type 0 = λ p. (course x).read ≤ p.read in
    subst P (sym (course_more x (settle_event x outcomes) [])) (read_same x)

step_read : (x : CoreState) (s : Step) → IsCore x → ReadGrows x (step x s).0
step_read x (Offer b offer) is = taken_state (ReadGrows x) (may_offer x b offer) x _ _ (read_same x) (λ may. read_same x)
step_read x (Flush b) is = taken_state (ReadGrows x) (may_flush x b) x _ _ (read_same x) (λ may. read_same x)
step_read x Merge is = taken_state (ReadGrows x) (may_merge x) x _ _ (read_same x) (λ may. read_same x)
step_read x Stop is = read_same x
step_read x (FlushStop b took) is =
    taken_state (ReadGrows x) (may_flush x b) x _ _ (read_same x) (λ may. stopped_state (ReadGrows x) took (with_list b) x (λ y h. h) (read_same x) (read_same x))
step_read x (MergeStop took) is =
    taken_state (ReadGrows x) (may_merge x) x _ _ (read_same x) (λ may. stopped_state (ReadGrows x) took with_cut x (λ y h. h) (read_same x) (read_same x))
step_read x (Pass places) is = taken_state (ReadGrows x) (may_pass x places) x _ _ (read_same x) (λ may. read_pass x places is)
step_read x (Settle outcomes) is = taken_state (ReadGrows x) (may_settle x outcomes) x _ _ (read_same x) (λ may. read_settle x outcomes)
step_read x (SettleStop outcomes took) is =
    taken_state (ReadGrows x) (may_settle x outcomes) x _ _ (read_same x)
    (λ may. stopped_state (ReadGrows x) took (with_event (settle_event x outcomes) []) x (λ y h. h) (read_same x) (read_settle x outcomes))

pub steps_read : (x : CoreState) (steps : List Step) → IsCore x → (course x).read ≤ (course (after_steps x steps)).read
steps_read x [] is = read_same x
steps_read x (s ∷ steps) is =
    let one : (course x).read ≤ (course (step x s).0).read = step_read x s is in
    let rest : (course (step x s).0).read ≤ (course (after_steps (step x s).0 steps)).read = steps_read (step x s).0 steps (step_kept x s is) in
    omega arith
