-- What all workers do of what their fronts say.
use Rattle.std.specs.Prelude.{◌≡◌, ◌⊎◌, ◌+◌, ◌*◌, ◌≤◌, ℕ, List, [], ◌∷◌, ◌++◌, map, length, Option, Some, Result, Ok, Err, IfOk, IsErrOf, OnErr, slice_get}
use Rattle.std.specs.List.{All, Any, flat_map}
use Rattle.std.specs.List.Sorted.{IsPermutation}
use Rattle.irl_base.specs.declared.fault.Fault.{Fault}
use Rattle.irl_base.specs.declared.fault.Fault.TheVariants.{Memory}
use Rattle.irl_key.specs.Web.{target_of}
use Rattle.irl_key.specs.declared.web.Work.{Work}
use Rattle.irl_offer.specs.Offering.{Entered}
use Rattle.irl_offer.specs.declared.done.Done.{Done}
use Rattle.irl_polite.specs.Schedule.{Schedule, host}
use Rattle.irl_polite.specs.declared.known.Known.{Known}
use Rattle.irl_record.specs.Widening.{Answers}
use Rattle.irl_robots.specs.Leave.{leave_of}
use Rattle.irl_robots.specs.declared.host.HostState.{HostState}
use Rattle.irl_robots.specs.declared.host.Leave.TheVariants.{Allowed}
use Rattle.irl_fetch.specs.Handling.{Handled, Noted, IsHandled, IsNoted, answered, answers_of, done_of, entered_of, missing}
use Rattle.irl_fetch.specs.Pages.{IsPart}
use Rattle.irl_fetch.specs.Working.{IsKnownOf}
use Rattle.irl_fetch.specs.declared.working.WorkLog.{WorkLog}
use Rattle.irl_crawl.specs.Workers.{AreFor, Given, IsStateAmong, loaded}

-- ---- what was answered
-- It is what all of these did, the first of it first.
pub record IsWholeOf (log : WorkLog) (logs : List WorkLog) : Type 0 where
  pub done : log.done.items ≡ flat_map (λ one. one.done.items) logs
  pub notes : log.notes.items ≡ flat_map (λ one. one.notes.items) logs

-- What came of all is what they did, or the fault of one, or want of memory.
pub record Joins (result : Result WorkLog Fault) (parts : List (Result WorkLog Fault)) : Type 0 where
  pub whole : IfOk result (λ log. (logs : List WorkLog) × (parts ≡ map (λ one. Ok one) logs) × IsWholeOf log logs)
  pub fault : (fault : Fault) → IsErrOf result fault → (fault ≡ Memory) ⊎ Any (λ part. part ≡ Err fault) parts

-- ---- what was done
-- The first of it is what came of the items of the first front, then of those of the second, and so on.
abbrev pub AreByWorker : List Schedule → List Done → Type 0
AreByWorker [] done = done ≡ []
AreByWorker (front ∷ fronts) done = (own rest : List Done) × (done ≡ own ++ rest)
    × IsPermutation (map (λ work. work.number) front.items) (map (λ one. one.number) own) × AreByWorker fronts rest

-- Items were handled, each as a note of its host says that was known or made since, and by an answer that was given,
-- and robots files noted; these items are left.
pub record HaveWorked (given : Given) (agent suffixes : List ℕ) (handled : List Handled) (noted : List Noted)
    (left : List Work) (befores : List Schedule) : Type 0 where
  pub items : IsPermutation (loaded befores) (map (λ one. one.work) handled ++ left)
  pub each : All (IsHandled given.gives (IsStateAmong agent befores noted) suffixes) handled
  pub notes : All (IsNoted given.gives) noted
  -- so many of the answers may never have come
  pub missing_are : given.may_miss (missing (flat_map answers_of handled)
      + missing (flat_map (λ one. one.answers) noted))

-- no front knows more than it did, but what was noted
abbrev pub KnowAsNoted : List ℕ → List Noted → List Schedule → List Schedule → Type 0
KnowAsNoted agent noted befores afters = (at : ℕ) (front : Schedule) → slice_get afters at ≡ Some front
    → (host : List ℕ) (known : Known) → front.known host ≡ Some known
    → IsStateAmong agent befores noted host known.state

-- each of them knows what it did, or a note with its moment
abbrev pub KnowByMoment : List Noted → List Schedule → List Schedule → Type 0
KnowByMoment noted befores afters = (at : ℕ) (old new : Schedule) → slice_get befores at ≡ Some old
    → slice_get afters at ≡ Some new → (host : List ℕ) (known : Known) → new.known host ≡ Some known
    → IsKnownOf old noted host known

-- each front is for the same delay
abbrev pub KeepDelays : List Schedule → List Schedule → Type 0
KeepDelays befores afters = (at : ℕ) (old new : Schedule) → slice_get befores at ≡ Some old
    → slice_get afters at ≡ Some new → new.delay ≡ old.delay

-- All was done that the fronts say, and what came of it is entered and told.
pub record FinishAll (log : WorkLog) (given : Given) (agent suffixes : List ℕ) (befores afters : List Schedule)
    (entries : List Entered) : Type 0 where
  pub handled : List Handled
  pub noted : List Noted
  pub done : log.done.items ≡ map done_of handled
  pub notes : log.notes.items ≡ map (λ one. one.note) noted
  pub worked : HaveWorked given agent suffixes handled noted [] befores
  pub asked : given.made ≤ answered handled noted
  -- the workers' entries stand in any order
  pub are_entries : IsPermutation entries (flat_map entered_of handled)
  pub known : KnowAsNoted agent noted befores afters
  pub knows : KnowByMoment noted befores afters
  pub none_left : All (λ s. s.items ≡ []) afters

-- ---- where they were refused
-- an item that was begun, and what of it is entered
pub record Begun : Type 0 where
  pub work : Work
  pub part : List Entered

-- what is entered of some
abbrev pub begun_entries : List Begun → List Entered
begun_entries begun = flat_map (λ one. one.part) begun

-- A note of its host allows it, and what is entered is some of what an answer to it names, or nothing.
pub record IsBegun (gives : Answers) (agent suffixes : List ℕ) (noted : List Noted) (befores : List Schedule)
    (begun : Begun) : Type 0 where
  pub state : HostState
  pub known : IsStateAmong agent befores noted (host begun.work) state
  pub allowed : leave_of state (target_of begun.work.web) ≡ Allowed
  pub some : IsPart gives suffixes begun.work.web begun.part

-- Some of it was done, and of the items that are left some are begun.
pub record StopAll (given : Given) (agent suffixes : List ℕ) (befores : List Schedule) (entries : List Entered)
    : Type 0 where
  pub handled : List Handled
  pub noted : List Noted
  pub left : List Work
  pub worked : HaveWorked given agent suffixes handled noted left befores
  -- each worker may have made up to six connections more, for a begun item or a robots file
  pub asked : given.made ≤ answered handled noted + 6 * length befores
  pub begun : List Begun
  pub others : List Work
  pub is_left : IsPermutation left (map (λ one. one.work) begun ++ others)
  pub are_begun : All (IsBegun given.gives agent suffixes noted befores) begun
  -- one a worker at most
  pub few : length begun ≤ length befores
  -- what came of both is entered, in any order
  pub are_entries : IsPermutation entries (flat_map entered_of handled ++ begun_entries begun)

-- ---- by the answer
-- What the workers leave: what they entered, and the last fault of the offers of each.
pub record WorkAll (result : Result WorkLog Fault) (given : Given) (agent suffixes : List ℕ)
    (befores afters : List Schedule) (entries : List Entered) (lasts : List (Option Fault)) : Type 0 where
  pub finish : IfOk result (λ log. FinishAll log given agent suffixes befores afters entries)
  pub stop : OnErr result (StopAll given agent suffixes befores entries)
  -- a fault is want of memory, or the last one of the offers of a worker
  pub fault : (fault : Fault) → IsErrOf result fault → (fault ≡ Memory) ⊎ Any (λ last. last ≡ Some fault) lasts
  pub count : length afters ≡ length befores
  pub agents : AreFor agent afters
  pub delays : KeepDelays befores afters
