-- What `take` answers at the moment of a schedule, and what it leaves.
use Rattle.std.specs.Prelude.{◌≡◌, ℕ, ◌<◌, ◌≤◌, List, ◌∷◌, ◌++◌, true, false, Some}
use Rattle.std.specs.List.{All}
use Rattle.irl_offer.specs.Notes.{IsInUse}
use Rattle.irl_key.specs.declared.web.Work.{Work}
use Rattle.irl_key.specs.Web.{target_of}
use Rattle.irl_robots.specs.Leave.{leave_of}
use Rattle.irl_robots.specs.declared.host.Leave.{Leave}
use Rattle.irl_robots.specs.declared.host.Leave.TheVariants as leave
use Rattle.irl_polite.specs.declared.job.Job.{Job}
use Rattle.irl_polite.specs.declared.job.Job.TheVariants.{Page, Denied, ShutOut, Robots, WaitTill, Idle}
use Rattle.irl_polite.specs.declared.known.Known.{Known}
use Rattle.irl_polite.specs.Schedule.{Schedule, host, fetched, refused, asked}

-- its host's robots file isn't awaited
abbrev pub IsReady : Schedule → Work → Type 0
IsReady schedule work = schedule.awaited (host work) ≡ false

-- when its host is due
abbrev pub due_of : Schedule → Work → ℕ
due_of schedule work = schedule.due (host work)

-- The item's turn comes next, and these are the others: of the items that are ready it is one of those that are due
-- first, and of these the first.
pub record IsNext (schedule : Schedule) (work : Work) (rest : List Work) : Type 0 where
  pub before : List Work
  pub behind : List Work
  pub stands : schedule.items ≡ before ++ work ∷ behind
  pub others : rest ≡ before ++ behind
  pub ready : IsReady schedule work
  pub earlier : All (λ other. IsReady schedule other → due_of schedule work < due_of schedule other) before
  pub later : All (λ other. IsReady schedule other → due_of schedule work ≤ due_of schedule other) behind

-- A note on the host is in use: what was last handed in of it, for 24 hours from its moment on.
pub record IsKnown (schedule : Schedule) (host : List ℕ) (known : Known) : Type 0 where
  pub last : schedule.known host ≡ Some known
  pub in_use : IsInUse known.when schedule.moment

-- no note on the host is in use
abbrev pub IsUnknown : Schedule → List ℕ → Type 0
IsUnknown schedule host = (known : Known) → IsKnown schedule host known → ⊥

-- the item's turn comes, and a note on its host that is in use says whether it may be fetched
pub record IsAnswered (schedule : Schedule) (work : Work) (says : Leave) (rest : List Work) : Type 0 where
  pub next : IsNext schedule work rest
  pub due : due_of schedule work ≤ schedule.moment
  pub known : Known
  pub note : IsKnown schedule (host work) known
  pub leave : leave_of known.state (target_of work.web) ≡ says

-- the turn of one of its items comes, and no note on the host is in use
pub record IsAsked (schedule : Schedule) (name : List ℕ) : Type 0 where
  pub work : Work
  pub rest : List Work
  pub next : IsNext schedule work rest
  pub due : due_of schedule work ≤ schedule.moment
  pub named : name ≡ host work
  pub unknown : IsUnknown schedule name

-- the moment at which the next turn comes
pub record IsNextDue (schedule : Schedule) (moment : ℕ) : Type 0 where
  pub work : Work
  pub rest : List Work
  pub next : IsNext schedule work rest
  pub is : moment ≡ due_of schedule work

-- each item left is of a host whose robots file is awaited, or none is left
abbrev pub AllAwaited : Schedule → Type 0
AllAwaited schedule = All (λ work. schedule.awaited (host work) ≡ true) schedule.items

abbrev pub Answers : Schedule → Job → Schedule → Type 0
Answers old (Page work) new =
    (rest : List Work) × IsAnswered old work leave.Allowed rest × (new ≡ fetched old (host work) rest)
Answers old (Denied work line) new =
    (rest : List Work) × IsAnswered old work (leave.Denied line) rest × (new ≡ refused old rest)
Answers old (ShutOut work) new = (rest : List Work) × IsAnswered old work leave.Shut rest × (new ≡ refused old rest)
Answers old (Robots name) new = IsAsked old name × (new ≡ asked old name)
Answers old (WaitTill moment) new = IsNextDue old moment × (old.moment < moment) × (new ≡ old)
Answers old Idle new = AllAwaited old × (new ≡ old)
