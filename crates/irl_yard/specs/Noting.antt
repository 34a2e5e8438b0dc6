-- The last robots note of a host that an open store tells.
use Rattle.std.specs.Prelude.{◌≡◌, ℕ, List, Option, None, Some, Result, Ok, IfOk, IsErrOf, ⊤}
use Rattle.std.specs.FinMap.{get}
use Rattle.std.specs.Option.{ForSome}
use Rattle.irl_base.specs.declared.fault.Fault.{Fault}
use Rattle.irl_base.specs.declared.fault.Fault.TheVariants.{Damaged, Failed, Full}
use Rattle.irl_offer.specs.declared.note.Note.{Note}
use Rattle.irl_events.specs.State.{State}
use Rattle.irl_disk.specs.Effects.{OnlyReads}
use Rattle.irl_disk.specs.Images.{Told, Leaves}
use Rattle.irl_head.specs.StoreFiles.{crawl_file}
use Rattle.irl_log.specs.Noting.{NoteStandsAt}
use Rattle.irl_ledger.specs.Crawling.{events_of}
use Rattle.irl_ledger.specs.Noting.{IsUsedOf, MayReadNote, ReadsNote, last_note}
use Rattle.irl_ledger.specs.declared.ledger.Ledger.{Ledger}
use Rattle.irl_yard.specs.declared.parts.Parts.{Parts}
use Rattle.irl_yard.specs.declared.parts.Rest.{Rest}
use Rattle.irl_yard.specs.declared.parts.Rest.TheVariants.{Plain, Crawl}
use Rattle.irl_yard.specs.Holding.{HoldsState}
use Rattle.irl_yard.specs.Standing.{HasState}

-- what is asked of a crawl's ledger
abbrev pub MayReadNoteIn : Rest → List ℕ → Type 0
MayReadNoteIn Plain host = ⊤
MayReadNoteIn (Crawl ledger) host = MayReadNote ledger.log (get ledger.notes host)

-- no note of the host is known
abbrev pub HasNoPlace : Rest → List ℕ → Type 0
HasNoPlace Plain host = ⊤
HasNoPlace (Crawl ledger) host = get ledger.notes host ≡ None

-- A crawl's ledger reads it, and a store of lines or of tuples has none.
pub record ReadsNoteIn (result : Result (Option Note) Fault) (host : List ℕ) (moment : ℕ) (rest : Rest)
    (before after : Told) : Type 0 where
  pub plain : rest ≡ Plain → (result ≡ Ok None) × (after.taken ≡ before.taken)
  pub crawl : (ledger : Ledger) → rest ≡ Crawl ledger
      → ReadsNote result host moment ledger.log ledger.notes before after
  -- nothing changes, and only the log is read
  pub reads : OnlyReads (λ f. f ≡ crawl_file) (IsErrOf result Failed) before after

-- The last note of a host is read, over states, by the answer.
pub record ReadsLastNote (result : Result (Option Note) Fault) (host : List ℕ) (moment : ℕ) (was now : Parts)
    (before after : Told) : Type 0 where
  -- it is the last one of the state's events, where it is in use at the moment, and none exactly where that has none
  pub value : IfOk result (λ found. ForSome before.files (λ _. (state : State) → HoldsState before.images was state
      → IsUsedOf moment (last_note host (events_of state.events)) found))
  -- whatever the log has, where a place is known of the host a note's record stands there, which is used or isn't
  pub sane : IfOk result (λ found. (ledger : Ledger) → was.rest ≡ Crawl ledger → (at : ℕ)
      → get ledger.notes host ≡ Some at → ForSome before.files (λ files. (note : Note)
      × NoteStandsAt ledger.log (files crawl_file) at note × IsUsedOf moment (Some note) found))
  -- and where none is known, or there is no crawl, there is no note, and no byte is read for that, nor memory taken
  pub idle : HasNoPlace was.rest host → (result ≡ Ok None) × (after.taken ≡ before.taken)
  -- damage is named in the log, where the host's last note should be and no note's record stands, and never where a
  -- state is held
  pub spoilt : (f at : ℕ) → IsErrOf result (Damaged f at) → (ledger : Ledger) × (was.rest ≡ Crawl ledger)
      × (f ≡ crawl_file) × (get ledger.notes host ≡ Some at)
      × ForSome before.files (λ files. (note : Note) → NoteStandsAt ledger.log (files crawl_file) at note → ⊥)
  pub whole : (f at : ℕ) → IsErrOf result (Damaged f at) → ForSome before.files (λ _. (state : State)
      → HoldsState before.images was state → ⊥)
  pub full : (n : ℕ) → IsErrOf result (Full n) → ⊥
  -- the parts and the state stay, whatever is answered
  pub urls : now.urls ≡ was.urls
  pub rest : now.rest ≡ was.rest
  pub holds : (state : State) → HoldsState before.images was state → HoldsState after.images now state
  pub stops : (state : State) → HoldsState before.images was state → Leaves before after (HasState state)
  -- nothing changes, and only the log is read
  pub reads : OnlyReads (λ f. f ≡ crawl_file) (IsErrOf result Failed) before after
