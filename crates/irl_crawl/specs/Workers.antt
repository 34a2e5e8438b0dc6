-- The workers of a run: fetchers, each with a front of its own.
use Rattle.std.specs.Prelude.{◌≡◌, ◌⊎◌, ◌≤◌, ◌+◌, ◌-◌, ℕ, List, [], ◌∷◌, length, map, false, Some, slice_get}
use Rattle.std.specs.List.{All, Any, Contains, flat_map}
use Rattle.irl_events.specs.Events.{Happened}
use Rattle.irl_key.specs.declared.web.Work.{Work}
use Rattle.irl_offer.specs.declared.note.Note.{Note}
use Rattle.irl_offer.specs.declared.reply.Answer.{Answer}
use Rattle.irl_offer.specs.declared.reply.Want.{Want}
use Rattle.irl_polite.specs.Inside.{Held, schedule}
use Rattle.irl_polite.specs.Schedule.{Schedule}
use Rattle.irl_polite.specs.declared.known.Known.{Known}
use Rattle.irl_reach.specs.Along.{notes_in}
use Rattle.irl_record.specs.Widening.{Answers}
use Rattle.irl_record.specs.Wired.{Made, how_many}
use Rattle.irl_robots.specs.Leave.{host_state}
use Rattle.irl_robots.specs.declared.host.HostState.{HostState}
use Rattle.irl_fetch.specs.Handling.{Noted}
use Rattle.irl_fetch.specs.Telling.{GoesOn, RoseBy, fetcher}

-- ---- fetchers
-- an answer that one of them gives at a later moment, since an earlier one
pub record IsGivenBy {F : Type 0} (asked : F → Made) (gives : F → ℕ → Answers) (olds news : List F) (url : List ℕ)
    (want : Want) (answer : Answer) : Type 0 where
  pub at : ℕ
  pub old : F
  pub new : F
  pub was : slice_get olds at ≡ Some old
  pub is : slice_get news at ≡ Some new
  pub given : gives new (how_many (asked old)) url want answer

-- Their counts of faults rose by parts of this at least.
abbrev pub RoseBetween : {F : Type 0} → (F → ℕ) → List F → List F → ℕ → Type 0
RoseBetween faults [] news n = n ≡ 0
RoseBetween faults (old ∷ olds) [] n = n ≡ 0
RoseBetween faults (old ∷ olds) (new ∷ news) n = (own others : ℕ) × (n ≤ own + others)
    × RoseBy own (faults old) (faults new) × RoseBetween faults olds news others

-- how many connections they made, where they tell them
abbrev pub made_by : {F : Type 0} → (F → Made) → List F → ℕ
made_by asked [] = 0
made_by asked (fetcher ∷ fetchers) = how_many (asked fetcher) + made_by asked fetchers

-- What fetchers gave in some time: their answers, how many of these may never have come, and how many connections they
-- made, where they tell them.
pub record Given : Type 1 where
  pub gives : Answers
  pub may_miss : ℕ → Type 0
  pub made : ℕ

-- that of some, where each that didn't come is a fault of its fetcher
abbrev pub given_by : {F : Type 0} → (F → Made) → (F → ℕ → Answers) → (F → ℕ) → List F → List F → Given
given_by asked gives faults olds news = record {
  gives = IsGivenBy asked gives olds news;
  may_miss = RoseBetween faults olds news;
  made = made_by asked news - made_by asked olds;
}

-- each goes on, and there are as many
pub record AllGoOn {F : Type 0} (asked : F → Made) (gives : F → ℕ → Answers) (faults last : F → ℕ) (aim : F
    → List ℕ) (olds news : List F)
    : Type 0 where
  pub count : length news ≡ length olds
  pub each : (at : ℕ) (old new : F) → slice_get olds at ≡ Some old → slice_get news at ≡ Some new
      → GoesOn (fetcher asked gives faults last aim old) (fetcher asked gives faults last aim new)

-- a moment of one of them in this time
pub record IsMomentBy {F : Type 0} (last : F → ℕ) (olds news : List F) (moment : ℕ) : Type 0 where
  pub at : ℕ
  pub old : F
  pub new : F
  pub was : slice_get olds at ≡ Some old
  pub is : slice_get news at ≡ Some new
  pub from : last old ≤ moment
  pub till : moment ≤ last new

-- ---- fronts
abbrev pub schedules : List Held → List Schedule
schedules fronts = map schedule fronts

-- what is to be fetched by all of them
abbrev pub loaded : List Schedule → List Work
loaded fronts = flat_map (λ s. s.items) fronts

-- no robots file is awaited
abbrev pub AreReady : List Schedule → Type 0
AreReady fronts = (at : ℕ) (front : Schedule) → slice_get fronts at ≡ Some front → (name : List ℕ)
    → front.awaited name ≡ false

-- they read robots files for this agent
abbrev pub AreFor : List ℕ → List Schedule → Type 0
AreFor agent fronts = All (λ s. s.agent ≡ agent) fronts

-- what one of them knows of a host's robots file, or what was noted since
abbrev pub IsStateAmong : List ℕ → List Schedule → List Noted → List ℕ → HostState → Type 0
IsStateAmong agent fronts noted host state =
    ((at : ℕ) × (front : Schedule) × (known : Known) × (slice_get fronts at ≡ Some front)
    × (front.known host ≡ Some known) × (known.state ≡ state))
    ⊎ Any (λ one. (one.note.host ≡ host) × (host_state one.note.state agent ≡ state)) noted

-- a note of events tells of the host that its robots file is so
abbrev pub IsNotedIn : List ℕ → List Happened → List ℕ → HostState → Type 0
IsNotedIn agent events host state = (note : Note) × Contains (notes_in events) note × (note.host ≡ host)
    × (host_state note.state agent ≡ state)

-- they know nothing that no event tells
abbrev pub AreNotedIn : List ℕ → List Happened → List Schedule → Type 0
AreNotedIn agent events fronts = (at : ℕ) (front : Schedule) → slice_get fronts at ≡ Some front
    → (host : List ℕ) (known : Known) → front.known host ≡ Some known → IsNotedIn agent events host known.state

-- Between two turns: as many fronts as fetchers, of one agent, each without items.
pub record AreIdle (count : ℕ) (agent : List ℕ) (fronts : List Schedule) : Type 0 where
  pub count_is : length fronts ≡ count
  pub agents : AreFor agent fronts
  pub items : All (λ s. s.items ≡ []) fronts
