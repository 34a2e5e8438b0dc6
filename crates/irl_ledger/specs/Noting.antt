-- The last robots note of a host: which it is by the events, where its record stands, and reading it.
use Rattle.std.specs.Prelude.{◌≡◌, ℕ, ◌+◌, ◌<◌, bytes_eq, cond, List, [], ◌∷◌, length, Option, None, Some, Result, Ok, IfOk, IsErrOf, Vec, ⊤}
use Rattle.std.specs.Option.{ForSome, option_or}
use Rattle.std.specs.Cmp.Lexicographic.{slice_cmp}
use Rattle.std.specs.FinMap.{FinMap, empty, get, insert, remove}
use Rattle.std.specs.Ordering.{nat_cmp}
use Rattle.irl_base.specs.declared.fault.Fault.{Fault}
use Rattle.irl_base.specs.declared.fault.Fault.TheVariants.{Damaged, Failed, Full}
use Rattle.irl_offer.specs.Notes.{IsInUse}
use Rattle.irl_offer.specs.declared.note.Note.{Note}
use Rattle.irl_events.specs.Events.{Event, Begin, Pairs, Pass, Robots, Settle}
use Rattle.irl_disk.specs.Disk.{Files}
use Rattle.irl_disk.specs.Effects.{OnlyReads}
use Rattle.irl_disk.specs.Images.{Told}
use Rattle.irl_head.specs.StoreFiles.{crawl_file}
use Rattle.irl_journal.specs.Format.{records_text}
use Rattle.irl_log.specs.Log.{OpenLog, HoldsLog}
use Rattle.irl_log.specs.Noting.{NoteStandsAt}
use Rattle.irl_log.specs.Spelling.{records_of}

-- ---- by the events
-- the note of this host that an event brings, if it brings one
abbrev pub note_by : List ℕ → Event → Option Note
note_by host (Begin suffixes) = None
note_by host (Pairs cuts judged pairs) = None
note_by host (Pass judged) = None
note_by host (Robots note) = cond (bytes_eq host note.host) (Some note) None
note_by host (Settle fronts outcomes) = None

-- the last note of this host
abbrev pub last_note : List ℕ → List Event → Option Note
last_note host [] = None
last_note host (event ∷ events) = option_or (last_note host events) (note_by host event)

-- What is used at a moment of a host whose last note is this: that note, and nothing exactly where there is none or it
-- isn't in use.
abbrev pub IsUsedOf : ℕ → Option Note → Option Note → Type 0
IsUsedOf moment last None = (note : Note) → last ≡ Some note → IsInUse note.when moment → ⊥
IsUsedOf moment last (Some note) = (last ≡ Some note) × IsInUse note.when moment

-- ---- by the places
-- of each host the place of the gate of its last note's record
abbrev pub NotePlaces : Type 0
NotePlaces = FinMap (slice_cmp nat_cmp) ℕ

abbrev pub no_notes : NotePlaces
no_notes = empty

-- another place of one host, or none
abbrev pub with_place : List ℕ → Option ℕ → NotePlaces → NotePlaces
with_place host None places = remove places host
with_place host (Some at) places = insert places host at

-- after one more event, whose first record's gate stands at this place
abbrev pub noted : ℕ → Event → NotePlaces → NotePlaces
noted at (Begin suffixes) places = places
noted at (Pairs cuts judged pairs) places = places
noted at (Pass judged) places = places
noted at (Robots note) places = with_place note.host (Some at) places
noted at (Settle fronts outcomes) places = places

-- what puts back a host's place of before, if there is a host
abbrev pub restored : Option (List ℕ × Option ℕ) → NotePlaces → NotePlaces
restored None places = places
restored (Some before) places = with_place before.0 before.1 places

-- and may do so: the host has a place
abbrev pub CanRestore : Option (List ℕ × Option ℕ) → NotePlaces → Type 0
CanRestore None places = ⊤
CanRestore (Some before) places = (at : ℕ) × (get places before.0 ≡ Some at)

-- what puts several back, from the last one to the first
abbrev pub restored_all : List (Option (List ℕ × Option ℕ)) → NotePlaces → NotePlaces
restored_all [] places = places
restored_all (before ∷ all) places = restored before (restored_all all places)

-- and may do so
abbrev pub CanRestoreAll : List (Option (List ℕ × Option ℕ)) → NotePlaces → Type 0
CanRestoreAll [] places = ⊤
CanRestoreAll (before ∷ all) places = CanRestoreAll all places × CanRestore before (restored_all all places)

-- entries with vectors as keys, each with a place of its text or none
abbrev pub places_in : {A : Type 0} → List (Vec ℕ A × Option ℕ) → NotePlaces
places_in [] = no_notes
places_in (e ∷ es) = with_place e.0.items e.1 (places_in es)

-- after some events, the gate of whose first record stands at this place
abbrev pub noted_all : ℕ → List Event → NotePlaces → NotePlaces
noted_all at [] places = places
noted_all at (event ∷ events) places =
    noted_all (at + length (records_text (records_of event))) events (noted at event places)

-- of each host the place of the gate of its last note's record, where that of the first record stands at a given place
abbrev pub note_places : ℕ → List Event → NotePlaces
note_places at events = noted_all at events no_notes

-- each place is below this one
abbrev pub AreWithin : ℕ → NotePlaces → Type 0
AreWithin end places = (host : List ℕ) (at : ℕ) → get places host ≡ Some at → at < end

-- ---- reading it
-- What is asked: the log's file is the crawl's, and the place that is known of the host lies within the log.
pub record MayReadNote (log : OpenLog) (place : Option ℕ) : Type 0 where
  pub file : log.journal.file ≡ crawl_file
  pub within : (at : ℕ) → place ≡ Some at → at < log.journal.end

-- an open log has these events, and of each host the place is known
pub record HoldsNotes (images : Files → Type 0) (log : OpenLog) (places : NotePlaces) (events : List Event) : Type 0
  where
    pub log_holds : HoldsLog images log events
    pub places_are : places ≡ note_places 0 events

-- The last note of a host is read, where it is used at a moment, by the answer.
pub record ReadsNote (result : Result (Option Note) Fault) (host : List ℕ) (moment : ℕ) (log : OpenLog)
    (places : NotePlaces) (before after : Told) : Type 0 where
  pub value : IfOk result (λ found. ForSome before.files (λ _. (events : List Event)
      → HoldsNotes before.images log places events → IsUsedOf moment (last_note host events) found))
  -- whatever the log has, where a place is known of the host a note's record stands there, which is used or isn't
  pub sane : IfOk result (λ found. (at : ℕ) → get places host ≡ Some at → ForSome before.files (λ files.
      (note : Note) × NoteStandsAt log (files crawl_file) at note × IsUsedOf moment (Some note) found))
  -- and where none is known there is no note, and no byte is read for that, nor memory taken
  pub idle : get places host ≡ None → (result ≡ Ok None) × (after.taken ≡ before.taken)
  -- damage is named where the host's last note should be and no note's record stands, and never of a log that is held
  pub spoilt : (f at : ℕ) → IsErrOf result (Damaged f at) → (f ≡ crawl_file) × (get places host ≡ Some at)
      × ForSome before.files (λ files. (note : Note) → NoteStandsAt log (files crawl_file) at note → ⊥)
  pub whole : (f at : ℕ) → IsErrOf result (Damaged f at) → ForSome before.files (λ _. (events : List Event)
      → HoldsNotes before.images log places events → ⊥)
  pub full : (n : ℕ) → IsErrOf result (Full n) → ⊥
  -- nothing changes, and only the log is read
  pub reads : OnlyReads (λ f. f ≡ crawl_file) (IsErrOf result Failed) before after
