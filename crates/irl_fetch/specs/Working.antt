-- What doing all that a front says comes to.
use Rattle.std.specs.Prelude.{◌≡◌, ◌⊎◌, ℕ, ◌+◌, ◌≤◌, List, [], ◌∷◌, ◌++◌, map, Bool, false, Some, Result, OnOk, OnErr, IfOk}
use Rattle.std.specs.List.{All, Any, flat_map}
use Rattle.std.specs.List.Sorted.{IsPermutation}
use Rattle.irl_base.specs.declared.fault.Fault.{Fault}
use Rattle.irl_key.specs.declared.web.Work.{Work}
use Rattle.irl_offer.specs.Offering.{Entered}
use Rattle.irl_key.specs.Web.{target_of}
use Rattle.irl_robots.specs.Leave.{host_state, leave_of}
use Rattle.irl_robots.specs.declared.host.HostState.{HostState}
use Rattle.irl_robots.specs.declared.host.Leave.TheVariants.{Allowed}
use Rattle.irl_polite.specs.Schedule.{Schedule, host}
use Rattle.irl_polite.specs.declared.known.Known.{Known}
use Rattle.irl_fetch.specs.declared.working.WorkLog.{WorkLog}
use Rattle.irl_fetch.specs.Handling.{Handled, Noted, IsHandled, IsNoted, answered, answers_of, done_of, entered_of, missing}
use Rattle.irl_fetch.specs.Pages.{FaultIs, IsPart}
use Rattle.irl_fetch.specs.Telling.{Fetcher, Offering, GoesOn, Enters, MakesAtMost, RoseBy, given_since}

-- what is known of a host's robots file: what the front knew of it at first, or what was noted since
abbrev pub IsStateOf : Schedule → List Noted → List ℕ → HostState → Type 0
IsStateOf first noted host state = ((known : Known) × (first.known host ≡ Some known) × (known.state ≡ state))
    ⊎ Any (λ one. (one.note.host ≡ host) × (host_state one.note.state first.agent ≡ state)) noted

-- the same of what the front knows last, with its moment: that of the note
abbrev pub IsKnownOf : Schedule → List Noted → List ℕ → Known → Type 0
IsKnownOf first noted host last = (first.known host ≡ Some last)
    ⊎ Any (λ one. (one.note.host ≡ host) × (host_state one.note.state first.agent ≡ last.state)
    × (one.note.when ≡ last.when)) noted

-- Items of a front were handled, and robots files noted; these items are left.
pub record HasWorked (suffixes : List ℕ) (handled : List Handled) (noted : List Noted) (left : List Work)
    (old new : Fetcher) (before after : Schedule) : Type 0 where
  -- each item that stood in the front is handled once or left
  pub items : IsPermutation before.items (map (λ one. one.work) handled ++ left)
  -- each is handled as a note of its host says, and by an answer that was given to it
  pub each : All (IsHandled (given_since old new) (IsStateOf before noted) suffixes) handled
  -- each note is what answers to its requests come to, and was asked for at a moment of this time
  pub notes : All (IsNoted (given_since old new)) noted
  pub moments : All (λ one. (old.last ≤ one.note.when) × (one.note.when ≤ new.last)) noted
  -- the front knows no other states, and each with the moment of its note
  pub known : (host : List ℕ) (last : Known) → after.known host ≡ Some last → IsKnownOf before noted host last
  -- what rests on answers that never came is counted as faults of the fetcher
  pub lost : RoseBy (missing (flat_map answers_of handled) + missing (flat_map (λ one. one.answers) noted)) old.faults
      new.faults

-- All of the front was done.
pub record FinishesWork {O : Type 0} (log : WorkLog) (suffixes : List ℕ) (old new : Fetcher) (before after : Schedule)
    (was now : Offering O) : Type 0 where
  pub handled : List Handled
  pub noted : List Noted
  pub done : log.done.items ≡ map done_of handled
  pub notes : log.notes.items ≡ map (λ one. one.note) noted
  pub worked : HasWorked suffixes handled noted [] old new before after
  -- no more connections were made than there are answers, and nothing else is entered
  pub asked : MakesAtMost (answered handled noted) old new
  pub entered : Enters (flat_map entered_of handled) was now
  pub none_left : after.items ≡ []

-- One of the items that are left was fetched, as a note of its host allows it, and these are some of what it names.
pub record IsBegun (suffixes : List ℕ) (noted : List Noted) (left : List Work) (part : List Entered) (old new : Fetcher)
    (before : Schedule) : Type 0 where
  pub work : Work
  pub others : List Work
  pub is_left : IsPermutation left (work ∷ others)
  pub state : HostState
  pub known : IsStateOf before noted (host work) state
  pub allowed : leave_of state (target_of work.web) ≡ Allowed
  pub some : IsPart (given_since old new) suffixes work.web part

-- Some of it was done, and of one item more a part of what it names may be entered.
pub record StopsWork {O : Type 0} (suffixes : List ℕ) (old new : Fetcher) (before after : Schedule)
    (was now : Offering O) : Type 0 where
  pub handled : List Handled
  pub noted : List Noted
  pub left : List Work
  pub worked : HasWorked suffixes handled noted left old new before after
  -- for that, or for a robots file, up to six connections may be made
  pub asked : MakesAtMost (answered handled noted + 6) old new
  pub part : List Entered
  pub begun : (part ≡ []) ⊎ IsBegun suffixes noted left part old new before
  pub entered : Enters (flat_map entered_of handled ++ part) was now

-- What doing all that a front says leaves, by the answer.
pub record Works {O : Type 0} (result : Result WorkLog Fault) (suffixes : List ℕ) (old new : Fetcher)
    (before after : Schedule) (was now : Offering O) : Type 0 where
  pub finishes : IfOk result (λ log. FinishesWork log suffixes old new before after was now)
  pub stops : OnErr result (StopsWork suffixes old new before after was now)
  -- a fault is want of memory, or then the last one of the offers
  pub fault : FaultIs result was now
  pub goes_on : GoesOn old new
  -- the front is for the same agent, with the same delay
  pub agent : after.agent ≡ before.agent
  pub delay : after.delay ≡ before.delay

-- ---- one job after another
-- Some of the front was done, and what came of it is put behind what was there.
pub record DoesSome {O : Type 0} (first last : WorkLog) (suffixes : List ℕ) (old new : Fetcher)
    (before after : Schedule) (was now : Offering O) : Type 0 where
  pub handled : List Handled
  pub noted : List Noted
  pub done : last.done.items ≡ first.done.items ++ map done_of handled
  pub notes : last.notes.items ≡ first.notes.items ++ map (λ one. one.note) noted
  pub worked : HasWorked suffixes handled noted after.items old new before after
  pub asked : MakesAtMost (answered handled noted) old new
  pub entered : Enters (flat_map entered_of handled) was now
  -- no robots file is awaited then
  pub ready : (name : List ℕ) → after.awaited name ≡ false

-- The next job was done, or nothing is left.
pub record DoesNext {O : Type 0} (result : Result Bool Fault) (first last : WorkLog) (suffixes : List ℕ)
    (old new : Fetcher) (before after : Schedule) (was now : Offering O) : Type 0 where
  pub does : OnOk result (DoesSome first last suffixes old new before after was now)
  pub idle : IfOk result (λ more. more ≡ false → after.items ≡ [])
  pub stops : OnErr result (StopsWork suffixes old new before after was now)
  pub fault : FaultIs result was now
  pub goes_on : GoesOn old new
  pub agent : after.agent ≡ before.agent
  pub delay : after.delay ≡ before.delay
