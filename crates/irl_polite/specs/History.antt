-- Histories of a front: calls with their answers, and what holds over each list of them.
use Rattle.std.specs.Prelude.{◌≡◌, ℕ, ◌+◌, ◌≤◌, max, min, List, [], ◌∷◌, ◌++◌, true, Option, Some, None}
use Rattle.std.specs.List.{fold}
use Rattle.irl_offer.specs.Notes.{IsInUse}
use Rattle.irl_offer.specs.declared.note.Note.{Note}
use Rattle.irl_key.specs.declared.web.Work.{Work}
use Rattle.irl_key.specs.Web.{target_of}
use Rattle.irl_robots.specs.Leave.{leave_of}
use Rattle.irl_robots.specs.declared.host.HostState.{HostState}
use Rattle.irl_robots.specs.declared.host.Leave.{Leave}
use Rattle.irl_robots.specs.declared.host.Leave.TheVariants as leave
use Rattle.irl_polite.specs.declared.job.Job.{Job}
use Rattle.irl_polite.specs.declared.job.Job.TheVariants.{Page, Denied, ShutOut, Robots, WaitTill, Idle}
use Rattle.irl_polite.specs.declared.known.Known.{Known}
use Rattle.irl_polite.specs.Schedule.{Schedule, host, changed, with_note, loaded, raised, handed_in, last_moment}
use Rattle.irl_polite.specs.Answers.{Answers}

-- A call with its answer. A load that found no memory changed nothing, and is none.
pub data Step : Type 0 where
  Load : List Work → List Note → Step
  Take : ℕ → Job → Step
  RobotsDone : List ℕ → HostState → ℕ → Step

-- the call may be made, and makes this of the schedule
abbrev pub Steps : Schedule → Step → Schedule → Type 0
Steps old (Load items notes) new = (old.items ≡ []) × (new ≡ loaded old items notes)
Steps old (Take now job) new = Answers (raised old now) job new
Steps old (RobotsDone name state when) new = (old.awaited name ≡ true) × (new ≡ handed_in old name state when)

-- the calls, one after another
abbrev pub Runs : Schedule → List Step → Schedule → Type 0
Runs old [] new = old ≡ new
Runs old (step ∷ steps) new = (between : Schedule) × Steps old step between × Runs between steps new

-- the items that a call loads
abbrev pub loaded_by : Step → List Work
loaded_by (Load items notes) = items
loaded_by (Take now job) = []
loaded_by (RobotsDone name state when) = []

-- the item that is answered, where one is
abbrev pub answered_as : Job → List Work
answered_as (Page work) = work ∷ []
answered_as (Denied work line) = work ∷ []
answered_as (ShutOut work) = work ∷ []
answered_as (Robots name) = []
answered_as (WaitTill moment) = []
answered_as Idle = []

abbrev pub answered_by : Step → List Work
answered_by (Load items notes) = []
answered_by (Take now job) = answered_as job
answered_by (RobotsDone name state when) = []

-- the start of a fetch
pub record Start : Type 0 where
  pub host : List ℕ
  pub moment : ℕ

-- the fetch that an answer starts, where it does
abbrev pub started_as : ℕ → Job → List Start
started_as moment (Page work) = record { host = host work; moment = moment } ∷ []
started_as moment (Denied work line) = []
started_as moment (ShutOut work) = []
started_as moment (Robots name) = record { host = name; moment = moment } ∷ []
started_as moment (WaitTill till) = []
started_as moment Idle = []

-- the greatest moment that was handed in after a call
abbrev pub moment_after : ℕ → Step → ℕ
moment_after moment (Load items notes) = moment
moment_after moment (Take now job) = max moment now
moment_after moment (RobotsDone name state when) = moment

abbrev pub started_by : ℕ → Step → List Start
started_by moment (Load items notes) = []
started_by moment (Take now job) = started_as (max moment now) job
started_by moment (RobotsDone name state when) = []

-- the fetches that calls start from a moment on, in order, each at the greatest moment that was handed in by then
unfoldable pub starts : ℕ → List Step → List Start
starts moment [] = []
starts moment (step ∷ steps) = started_by moment step ++ starts (moment_after moment step) steps

-- of two fetches of one host the later one starts at least the delay after the earlier one, or at the last moment there
-- is
abbrev pub AreApart : ℕ → Start → Start → Type 0
AreApart delay first second = first.host ≡ second.host → min (first.moment + delay) last_moment ≤ second.moment

-- what is known of hosts after a call: the state that it hands in for a host counts from then on
abbrev pub heard_by : List ℕ → (List ℕ → Option Known) → Step → List ℕ → Option Known
heard_by agent known (Load items notes) = fold (with_note agent) known notes
heard_by agent known (Take now job) = known
heard_by agent known (RobotsDone name state when) = changed known name (Some (record { state = state; when = when }))

-- the state last handed in for each host
abbrev pub heard : List ℕ → List Step → List ℕ → Option Known
heard agent steps = fold (heard_by agent) (λ name. None) steps

-- the greatest moment that was handed in
abbrev pub moment_of : List Step → ℕ
moment_of steps = fold moment_after 0 steps

-- the state last handed in for the item's host is in use at the moment, and says so
pub record RestsOn (agent : List ℕ) (steps : List Step) (moment : ℕ) (work : Work) (says : Leave) : Type 0 where
  pub known : Known
  pub last : heard agent steps (host work) ≡ Some known
  pub in_use : IsInUse known.when moment
  pub leave : leave_of known.state (target_of work.web) ≡ says

-- an answer after these calls rests on a note that is in use
abbrev pub Rests : List ℕ → List Step → ℕ → Job → Type 0
Rests agent steps moment (Page work) = RestsOn agent steps moment work leave.Allowed
Rests agent steps moment (Denied work line) = RestsOn agent steps moment work (leave.Denied line)
Rests agent steps moment (ShutOut work) = RestsOn agent steps moment work leave.Shut
Rests agent steps moment (Robots name) =
    (known : Known) → heard agent steps name ≡ Some known → IsInUse known.when moment → ⊥
Rests agent steps moment (WaitTill till) = Unit {0}
Rests agent steps moment Idle = Unit {0}
