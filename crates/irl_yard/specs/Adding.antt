-- A call that adds one event to a crawl's log, or several notes at once: what it asks, and what it leaves of the store.
use Rattle.std.specs.Prelude.{◌≡◌, ℕ, List, [], ◌∷◌, ◌++◌, map, Option, Some, Result, OnOk, OnErr, IsOk, IsErrOf, ⊤}
use Rattle.irl_base.specs.declared.fault.Fault.{Fault}
use Rattle.irl_base.specs.declared.fault.Fault.TheVariants.{Failed, Memory, Full, Damaged}
use Rattle.irl_offer.specs.declared.note.Note.{Note}
use Rattle.irl_offer.specs.declared.place.Place.{Place}
use Rattle.irl_events.specs.Events.{Event, Begin, Happened, Pairs, Pass, Robots, Settle}
use Rattle.irl_events.specs.State.{State}
use Rattle.irl_disk.specs.Disk.{ChangesFile}
use Rattle.irl_disk.specs.Effects.{OnlyChanges}
use Rattle.irl_disk.specs.Images.{Told, Leaves}
use Rattle.irl_head.specs.StoreFiles.{crawl_file}
use Rattle.irl_frontier.specs.Frontier.{after_other}
use Rattle.irl_ledger.specs.Adding.{MayBegin as LedgerMayBegin, MayNote as LedgerMayNote, MayNoteAll as LedgerMayNoteAll}
use Rattle.irl_yard.specs.declared.parts.Parts.{Parts}
use Rattle.irl_ledger.specs.declared.ledger.Ledger.{Ledger}
use Rattle.irl_yard.specs.declared.parts.Rest.{Rest}
use Rattle.irl_yard.specs.declared.parts.Rest.TheVariants.{Plain, Crawl}
use Rattle.irl_yard.specs.Holding.{HoldsState, HasOneOf}
use Rattle.irl_yard.specs.Standing.{IsStateOf}

-- the state with one event more, and the places that it gives
abbrev pub with_event : Event → List Place → State → State
with_event event places state = record state { events = state.events ++ (event, places) ∷ [] }

-- the text of suffixes that a crawl began with, after an event
abbrev pub suffixes_after : Event → Option (List ℕ) → Option (List ℕ)
suffixes_after (Begin suffixes) was = Some suffixes
suffixes_after (Pairs cuts judged sent) was = was
suffixes_after (Pass judged) was = was
suffixes_after (Robots note) was = was
suffixes_after (Settle fronts outcomes) was = was

-- What is kept in memory of a crawl is told of the event exactly after Ok, and its bay of pairs stays.
pub record TellsEvent (result : Result Unit Fault) (event : Event) (old new : Ledger) : Type 0 where
  pub done : OnOk result ((new.frontier ≡ after_other old.frontier event)
      × (new.suffixes ≡ suffixes_after event old.suffixes))
  pub kept : OnErr result ((new.frontier ≡ old.frontier) × (new.suffixes ≡ old.suffixes))
  pub pairs : new.pairs ≡ old.pairs

-- What a call that adds one event leaves, by its answer.
pub record AddsEvent {S : Type 0} (told : S → Told) (result : Result Unit Fault) (event : Event) (was now : Parts)
    (before after : S) : Type 0 where
  -- the store holds the state with the event
  pub holds : OnOk result ((state : State) → HoldsState (told before).images was state
      → HoldsState (told after).images now (with_event event [] state))
  -- a stop at any moment leaves files that stand for the state, with the event or without
  pub stops : (state : State) → HoldsState (told before).images was state
      → Leaves (told before) (told after) (HasOneOf state (with_event event [] state))
  -- the state with the event keeps the laws of one
  pub legal : (state : State) → HoldsState (told before).images was state
      → IsStateOf was.urls.settings (with_event event [] state)
  -- whatever the files stand for, only the log's changes, and no byte is read
  pub others : OnlyChanges (ChangesFile crawl_file (λ _ _. ⊤)) (IsErrOf result Failed) (told before) (told after)
  -- want of memory changes nothing, and else only a fault of the store is answered
  pub memory : IsErrOf result Memory → (after ≡ before) × (now ≡ was)
  pub full : (n : ℕ) → IsErrOf result (Full n) → ⊥
  pub damaged : (f at : ℕ) → IsErrOf result (Damaged f at) → ⊥
  -- the bay of URLs stays
  pub urls : now.urls ≡ was.urls
  -- and so does the bay of pairs; the tables have the event exactly after Ok
  pub tables : (old new : Ledger) → was.rest ≡ Crawl old → now.rest ≡ Crawl new → TellsEvent result event old new

-- ---- several notes at once
-- what happens where these are noted: an event for each, which gives no places
abbrev pub notes_happened : List Note → List Happened
notes_happened notes = map (λ note. (Robots note, [])) notes

-- the state with some notes more, in order
abbrev pub with_notes : List Note → State → State
with_notes notes state = record state { events = state.events ++ notes_happened notes }

-- What is kept in memory of a crawl for its URLs stays, since no note brings the crawl any further: it is that of the
-- events with the notes, too.
pub record KeepsTables (old new : Ledger) : Type 0 where
  pub frontier : new.frontier ≡ old.frontier
  pub suffixes : new.suffixes ≡ old.suffixes
  pub pairs : new.pairs ≡ old.pairs

-- What a call that adds several notes at once leaves, by its answer.
pub record AddsNotes {S : Type 0} (told : S → Told) (result : Result Unit Fault) (notes : List Note) (was now : Parts)
    (before after : S) : Type 0 where
  -- the store holds the state with all of them
  pub holds : OnOk result ((state : State) → HoldsState (told before).images was state
      → HoldsState (told after).images now (with_notes notes state))
  -- a stop at any moment leaves files that stand for the state, with all of them or without any
  pub stops : (state : State) → HoldsState (told before).images was state
      → Leaves (told before) (told after) (HasOneOf state (with_notes notes state))
  -- the state with them keeps the laws of one
  pub legal : (state : State) → HoldsState (told before).images was state
      → IsStateOf was.urls.settings (with_notes notes state)
  -- whatever the files stand for, only the log's changes, and no byte is read
  pub others : OnlyChanges (ChangesFile crawl_file (λ _ _. ⊤)) (IsErrOf result Failed) (told before) (told after)
  -- want of memory changes nothing, and else only a fault of the store is answered
  pub memory : IsErrOf result Memory → (after ≡ before) × (now ≡ was)
  pub full : (n : ℕ) → IsErrOf result (Full n) → ⊥
  pub damaged : (f at : ℕ) → IsErrOf result (Damaged f at) → ⊥
  -- no notes change nothing, and it always answers Ok
  pub idle : notes ≡ [] → IsOk result × (after ≡ before) × (now ≡ was)
  -- the bay of URLs stays
  pub urls : now.urls ≡ was.urls
  -- and so do the bay of pairs and the tables
  pub tables : (old new : Ledger) → was.rest ≡ Crawl old → now.rest ≡ Crawl new → KeepsTables old new

-- ---- what is asked
-- a crawl that hasn't begun, and a text of suffixes
abbrev pub MayBegin : Rest → List ℕ → Type 0
MayBegin Plain suffixes = ⊥
MayBegin (Crawl ledger) suffixes = LedgerMayBegin ledger suffixes

-- a crawl that has begun, and a note
abbrev pub MayNote : Rest → Note → Type 0
MayNote Plain note = ⊥
MayNote (Crawl ledger) note = LedgerMayNote ledger note

-- a crawl that has begun, and notes
abbrev pub MayNoteAll : Rest → List Note → Type 0
MayNoteAll Plain notes = ⊥
MayNoteAll (Crawl ledger) notes = LedgerMayNoteAll ledger notes
