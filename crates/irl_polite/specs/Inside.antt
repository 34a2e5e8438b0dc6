-- How a front holds its schedule: a table of hosts, the items in the order of loading, each with the place of its
-- host's next one, and the turns, of which each host that may be picked has one.
use Rattle.std.specs.Prelude.{◌≡◌, ℕ, ◌+◌, ◌<◌, ◌≤◌, nat_eq, cond, List, [], ◌∷◌, length, map, Bool, true, false, Option, Some, None, Vec, slice_get, slice_set, option_to_list, MatchOption, IsSome, ◌⊎◌}
use Rattle.std.specs.List.{All, AllZip, flat_map, sum_by}
use Rattle.std.specs.List.Sorted.{IsPermutation}
use Rattle.std.specs.Ordering.{nat_cmp, ordering_then}
use Rattle.std.specs.declared.cmp.Ordering.{Ordering}
use Rattle.std.specs.declared.cmp.Reverse.{Reverse}
use Rattle.std.specs.Cmp.Lexicographic.{slice_cmp}
use Rattle.std.specs.BTreeMap.{is_at}
use Rattle.std.specs.BinaryHeap.{IsHeap}
use Rattle.std.specs.Map.{lookup}
use Rattle.std.specs.declared.alloc.Global.{Global}
use Rattle.irl_offer.specs.Notes.{IsInUse}
use Rattle.irl_offer.specs.declared.note.Note.{Note}
use Rattle.irl_key.specs.declared.web.Work.{Work}
use Rattle.irl_key.specs.Web.{target_of, IsHost}
use Rattle.irl_robots.specs.Leave.{leave_of, host_state}
use Rattle.irl_robots.specs.declared.host.Leave.{Leave}
use Rattle.irl_robots.specs.declared.host.Leave.TheVariants as leave
use Rattle.irl_polite.specs.declared.job.Job.{Job}
use Rattle.irl_polite.specs.declared.job.Job.TheVariants.{Page, Denied, ShutOut}
use Rattle.irl_polite.specs.declared.known.Known.{Known}
use Rattle.irl_polite.specs.declared.hosts.Host.{Host}
use Rattle.irl_polite.specs.declared.slots.Slot.{Slot}
use Rattle.irl_polite.specs.Schedule.{Schedule, host}

-- the place of a host's name in the table
abbrev pub place_of : {A : Type 0} → List (Vec ℕ A × ℕ) → List ℕ → Option ℕ
place_of names name = lookup (is_at (λ k. slice_cmp nat_cmp name k.items)) names

-- what the table has at a place, where there is one
abbrev pub host_at : List Host → Option ℕ → Option Host
host_at hosts None = None
host_at hosts (Some place) = slice_get hosts place

-- what a schedule has of a host: of one that isn't in the table that nothing is known, due or awaited
pub record Seen : Type 0 where
  pub known : Option Known
  pub due : ℕ
  pub awaited : Bool

abbrev pub seen : Option Host → Seen
seen None = record { known = None; due = 0; awaited = false }
seen (Some host) = record { known = host.known; due = host.due; awaited = host.awaited }

-- by the places of names
abbrev pub seen_at : (List ℕ → Option ℕ) → List Host → List ℕ → Seen
seen_at names hosts name = seen (host_at hosts (names name))

-- the items that aren't answered yet
abbrev pub items_of : List Slot → List Work
items_of slots = flat_map (λ (slot : Slot). option_to_list slot.work) slots

abbrev pub schedule_of : List ℕ → ℕ → ℕ → (List ℕ → Option ℕ) → List Host → List Slot → Schedule
schedule_of agent delay moment names hosts slots = record {
  agent = agent;
  delay = delay;
  moment = moment;
  items = items_of slots;
  known = λ name. (seen_at names hosts name).known;
  due = λ name. (seen_at names hosts name).due;
  awaited = λ name. (seen_at names hosts name).awaited;
}

-- what a front holds as plain data
pub record Held : Type 0 where
  pub agent : List ℕ
  pub delay : ℕ
  pub moment : ℕ
  pub names : List (Vec ℕ Global × ℕ)
  pub hosts : List Host
  pub slots : List Slot

-- what it means
abbrev pub schedule : Held → Schedule
schedule held = schedule_of held.agent held.delay held.moment (place_of held.names) held.hosts held.slots

-- Names have places of their own in the table, and a host that isn't awaited has its name.
pub record IsTable (names : List ℕ → Option ℕ) (hosts : List Host) : Type 0 where
  pub within : (name : List ℕ) (place : ℕ) → names name ≡ Some place → place < length hosts
  pub apart : (a b : List ℕ) (place : ℕ) → names a ≡ Some place → names b ≡ Some place → a ≡ b
  pub named : (place : ℕ) (host : Host) → slice_get hosts place ≡ Some host → host.awaited ≡ false
      → names host.name ≡ Some place

-- an item of the host is left there
pub record IsLeft (slots : List Slot) (at place : ℕ) : Type 0 where
  pub slot : Slot
  pub work : Work
  pub stands : slice_get slots at ≡ Some slot
  pub left : slot.work ≡ Some work
  pub owner : slot.host ≡ place

-- the first item of the host that is left from there on
abbrev pub IsFirst : List Slot → ℕ → ℕ → Option ℕ → Type 0
IsFirst slots place from None = (at : ℕ) → from ≤ at → IsLeft slots at place → ⊥
IsFirst slots place from (Some first) =
    (from ≤ first) × IsLeft slots first place × ((at : ℕ) → from ≤ at → at < first → IsLeft slots at place → ⊥)

-- Each host knows the place of its first item from there on, and each item from there on that of its host's next one.
abbrev pub AreFirsts : List Host → List Slot → ℕ → Type 0
AreFirsts hosts slots from =
    (place : ℕ) (owner : Host) → slice_get hosts place ≡ Some owner → IsFirst slots place from owner.first

abbrev pub AreNexts : List Slot → ℕ → Type 0
AreNexts slots from =
    (at : ℕ) (slot : Slot) (work : Work) → from ≤ at → slice_get slots at ≡ Some slot → slot.work ≡ Some work
    → IsFirst slots slot.host (at + 1) slot.next

-- the host's place, by its name, which is that of a link
pub record IsOwner (names : List ℕ → Option ℕ) (name : List ℕ) (place : ℕ) : Type 0 where
  pub named : names name ≡ Some place
  pub given : IsHost name

-- each item that is left knows the place of its host
abbrev pub AreOwned : (List ℕ → Option ℕ) → List Slot → Type 0
AreOwned names slots =
    (at : ℕ) (slot : Slot) (work : Work) → slice_get slots at ≡ Some slot → slot.work ≡ Some work
    → IsOwner names (host work) slot.host

-- an entry of the turns: when a host is due, and the place of its first item
abbrev pub Turn : Type 0
Turn = Reverse (ℕ × ℕ)

abbrev pub due_at : Turn → ℕ
due_at turn = turn.0.0

abbrev pub item_at : Turn → ℕ
item_at turn = turn.0.1

-- the earlier turn is the greater one
abbrev pub turn_cmp : Turn → Turn → Ordering
turn_cmp x y = ordering_then (nat_cmp y.0.0 x.0.0) (nat_cmp y.0.1 x.0.1)

-- the turn is that of a host
pub record IsTurn (hosts : List Host) (turn : Turn) : Type 0 where
  pub place : ℕ
  pub owner : Host
  pub stands : slice_get hosts place ≡ Some owner
  pub first : owner.first ≡ Some (item_at turn)
  pub ready : owner.awaited ≡ false
  pub due : owner.due ≡ due_at turn

-- how many turns have this item
abbrev pub turns_at : ℕ → List Turn → ℕ
turns_at at turns = sum_by (λ turn. cond (nat_eq (item_at turn) at) 1 0) turns

-- Each host that has items left and isn't awaited has one turn, and there are no others.
pub record AreTurns (hosts : List Host) (turns : List Turn) : Type 0 where
  pub only : All (IsTurn hosts) turns
  pub once : (at : ℕ) → turns_at at turns ≤ 1
  pub each : (place : ℕ) (owner : Host) (at : ℕ) → slice_get hosts place ≡ Some owner → owner.first ≡ Some at
      → owner.awaited ≡ false → 1 ≤ turns_at at turns

pub record IsSound (names : List ℕ → Option ℕ) (hosts : List Host) (slots : List Slot) (left : ℕ) (turns : List Turn)
    (room : ℕ) : Type 0 where
  pub table : IsTable names hosts
  pub owned : AreOwned names slots
  pub firsts : AreFirsts hosts slots 0
  pub nexts : AreNexts slots 0
  pub waiting : (place : ℕ) (owner : Host) → slice_get hosts place ≡ Some owner → owner.awaited ≡ true
      → owner.first ≡ None → ⊥
  pub all : AreTurns hosts turns
  pub heap : IsHeap turn_cmp turns
  pub reserved : length slots ≤ room
  pub count : left ≡ length (items_of slots)

-- a host that may be picked, if it has items left
abbrev pub IsReady : Host → Type 0
IsReady owner = owner.awaited ≡ false

-- a host without items left
abbrev pub IsResting : Host → Type 0
IsResting owner = (owner.awaited ≡ false) × (owner.first ≡ None)

-- Hosts were entered where none has items left: places stay, and nothing is known of the new ones.
pub record Grows (old_names : List ℕ → Option ℕ) (old : List Host) (names : List ℕ
    → Option ℕ) (new : List Host) : Type 0 where
  pub table : IsTable names new
  pub resting : All IsResting new
  pub kept : (name : List ℕ) (place : ℕ) → old_names name ≡ Some place → names name ≡ Some place
  pub same : (name : List ℕ) → seen_at names new name ≡ seen_at old_names old name

-- the slot holds this item, with the place of its host
pub record IsEntered (names : List ℕ → Option ℕ) (work : Work) (slot : Slot) : Type 0 where
  pub holds : slot.work ≡ Some work
  pub owner : IsOwner names (host work) slot.host

-- it holds an item, and the place of its host is one
pub record IsOwned (hosts : List Host) (slot : Slot) : Type 0 where
  pub within : slot.host < length hosts
  pub holds : IsSome slot.work

-- the place of the note's host, with what the note says
pub record IsRead (names : List ℕ → Option ℕ) (agent : List ℕ) (note : Note) (read : ℕ × Known) : Type 0 where
  pub owner : names note.host ≡ Some read.0
  pub state : read.1.state ≡ host_state note.state agent
  pub when : read.1.when ≡ note.when

abbrev pub IsPlaced : List Host → ℕ × Known → Type 0
IsPlaced hosts read = read.0 < length hosts

-- each that was read is in turn what is known of the host at its place
abbrev pub Noted : List Host → List (ℕ × Known) → List Host → Type 0
Noted old [] new = new ≡ old
Noted old (read ∷ more) new =
    (owner : Host) × (slice_get old read.0 ≡ Some owner)
    × Noted (slice_set old read.0 (record owner { known = Some read.1 })) more new

-- without its links
abbrev pub bare_host : Host → Host
bare_host owner = record owner { first = None }

abbrev pub bare_slot : Slot → Slot
bare_slot slot = record slot { next = None }

-- the turn comes before all others: it is due first, and of these its item stands first
pub record IsTop (turns : List Turn) (turn : ℕ × ℕ) : Type 0 where
  pub stands : slice_get turns 0 ≡ Some (record { 0 = turn })
  pub least : All (λ (other : Turn). (turn.0 < due_at other)
      ⊎ ((turn.0 ≡ due_at other) × (turn.1 ≤ item_at other))) turns

-- the turn was taken out, and that of the next item put in, where there is one
pub record IsReplaced (old : List Turn) (turn : Turn) (due : ℕ) (next : Option ℕ) (new : List Turn) : Type 0 where
  pub rest : List Turn
  pub out : IsPermutation old (turn ∷ rest)
  pub put : MatchOption next (new ≡ rest) (λ at. IsPermutation ((record { 0 = (due, at) }) ∷ rest) new)

-- a note on the host that is in use at the moment says so of the item
pub record Says (owner : Host) (moment : ℕ) (work : Work) (says : Leave) : Type 0 where
  pub known : Known
  pub last : owner.known ≡ Some known
  pub in_use : IsInUse known.when moment
  pub leave : leave_of known.state (target_of work.web) ≡ says

abbrev pub SaysNothing : Host → ℕ → Type 0
SaysNothing owner moment = (known : Known) → owner.known ≡ Some known → IsInUse known.when moment → ⊥

abbrev pub answer_of : Work → Leave → Job
answer_of work leave.Allowed = Page work
answer_of work (leave.Denied line) = Denied work line
answer_of work leave.Shut = ShutOut work

-- when a host is due after an answer to one of its items, by when it is after a fetch and when it was
abbrev pub due_by : Leave → ℕ → ℕ → ℕ
due_by leave.Allowed later due = later
due_by (leave.Denied line) later due = due
due_by leave.Shut later due = due

-- the turn of the host's first item was put in, if that is the item
pub record IsBegun (old : List Turn) (owner : Host) (at : ℕ) (new : List Turn) : Type 0 where
  pub put : owner.first ≡ Some at → IsPermutation ((record { 0 = (owner.due, at) }) ∷ old) new
  pub stays : (owner.first ≡ Some at → ⊥) → new ≡ old

-- each item has its slot, and each note was read
pub record IsPrepared (names : List ℕ → Option ℕ) (agent : List ℕ) (items : List Work) (notes : List Note)
    (slots : List Slot) (read : List (ℕ × Known)) : Type 0 where
  pub entered : AllZip (IsEntered names) items slots
  pub heard : AllZip (IsRead names agent) notes read

-- what was read is what is known, and only the links changed beside it
pub record IsCommitted (old : List Host) (read : List (ℕ × Known)) (new : List Host) : Type 0 where
  pub between : List Host
  pub noted : Noted old read between
  pub linked : map bare_host new ≡ map bare_host between
