-- Handing a log's events to a visitor, one after the other.
use Rattle.std.specs.Prelude.{◌≡◌, ◌≢◌, ◌⊎◌, ℕ, ◌+◌, ◌<◌, ◌≤◌, List, [], ◌∷◌, ◌++◌, length, drop, true, Some}
use Rattle.std.specs.Prelude.{Result, IfOk, OnOk, IsOk, IsErrOf}
use Rattle.std.specs.Option.{ForSome}
use Rattle.irl_disk.specs.Disk.{Files, ChangesFile}
use Rattle.irl_disk.specs.Effects.{OnlyReads, ReadsAndChanges}
use Rattle.irl_disk.specs.Images.{Told}
use Rattle.irl_events.specs.Events.{Event}
use Rattle.irl_journal.specs.Format.{open_gate, record_text, records_text, IsPayload, HasNoRecord, IsBrokenAt}
use Rattle.irl_journal.specs.Visiting.{IsOpened}
use Rattle.irl_journal.specs.declared.fault.JournalFault.{JournalFault}
use Rattle.irl_journal.specs.declared.fault.JournalFault.TheVariants.{Damaged, Failed, Memory}
use Rattle.irl_log.specs.Form.{IsLogged}
use Rattle.irl_log.specs.Log.{OpenLog, AreLogged, HasEvents, HoldsLog, EndsLog, placed_events}
use Rattle.irl_log.specs.Spelling.{log_records, records_of}

-- the visitor took these events in order, each at its place
abbrev pub TakesEvents : {V : Type 0} → (V → ℕ → Event → V → Type 0) → V → List (ℕ × Event) → V → Type 0
TakesEvents {V} takes old [] new = new ≡ old
TakesEvents {V} takes old (event ∷ events) new = (mid : V) × takes old event.0 event.1 mid
    × TakesEvents takes mid events new

-- the visitor took the first of some events whose first gate stands at `from`, and refuses the next one, which stands
-- at this place; `after` is the visitor afterwards
pub record RefusesOneEvent {V : Type 0} (takes refuses : V → ℕ → Event → V → Type 0) (visitor after : V) (from : ℕ)
    (events : List Event) (at : ℕ) : Type 0 where
  pub first : List Event
  pub event : Event
  pub more : List Event
  pub among : events ≡ first ++ event ∷ more
  pub place : at ≡ from + length (records_text (log_records first))
  pub reached : V
  pub took : TakesEvents takes visitor (placed_events from first) reached
  pub refused : refuses reached at event after

-- Whatever the file has: the visitor took some events whose first gate stands at `from`, and up to `end`.
pub record TookEventsUpTo {V : Type 0} (takes : V → ℕ → Event → V → Type 0) (old new : V) (buckets from end : ℕ) :
    Type 0 where
  pub events : List Event
  pub each : AreLogged buckets events
  pub place : end ≡ from + length (records_text (log_records events))
  pub took : TakesEvents takes old (placed_events from events) new

-- ---- one record
-- no event that a log over so many buckets may have has this record first
abbrev pub BeginsNoEvent : ℕ → List ℕ → Type 0
BeginsNoEvent buckets payload = (event : Event) (more : List (List ℕ)) → IsLogged buckets event → records_of event
    ≡ payload ∷ more → ⊥

-- the visitor took the event of this record
pub record TakesRecord {V : Type 0} (takes : V → ℕ → Event → V → Type 0) (buckets : ℕ) (old : V) (at : ℕ)
    (payload : List ℕ) (new : V) : Type 0 where
  pub event : Event
  pub logged : IsLogged buckets event
  pub records : records_of event ≡ payload ∷ []
  pub took : takes old at event new

-- the visitor refuses the event that has this record first, whose gate stands at this place
pub record RefusesEvent {V : Type 0} (refuses : V → ℕ → Event → V → Type 0) (buckets : ℕ) (visitor : V) (at : ℕ)
    (payload : List ℕ) (after : V) : Type 0 where
  pub event : Event
  pub more : List (List ℕ)
  pub logged : IsLogged buckets event
  pub records : records_of event ≡ payload ∷ more
  pub refused : refuses visitor at event after

-- no event has this record first, or the visitor refuses the event that has
abbrev pub RefusesRecord : {V : Type 0} → (V → ℕ → Event → V → Type 0) → ℕ → V → ℕ → List ℕ → V → Type 0
RefusesRecord refuses buckets visitor at payload after = (BeginsNoEvent buckets payload × (after ≡ visitor))
    ⊎ RefusesEvent refuses buckets visitor at payload after

-- ---- bytes whose first gate stands at `from` in a file
-- they are the records of events that the visitor took, and behind these, at this place, the rest
pub record BeginsWithEvents {V : Type 0} (takes : V → ℕ → Event → V → Type 0) (old new : V) (buckets from : ℕ)
    (bytes : List ℕ) (at : ℕ) (rest : List ℕ) : Type 0 where
  pub events : List Event
  pub each : AreLogged buckets events
  pub bytes_are : bytes ≡ records_text (log_records events) ++ rest
  pub place : at ≡ from + length (records_text (log_records events))
  pub took : TakesEvents takes old (placed_events from events) new

-- at this place, behind events that the visitor took, stands a closed gate
pub record ClosesAt {V : Type 0} (takes : V → ℕ → Event → V → Type 0) (old new : V) (buckets from : ℕ)
    (bytes : List ℕ) (at : ℕ) : Type 0 where
  pub gate : ℕ
  pub rest : List ℕ
  pub closed : gate ≢ open_gate
  pub front : BeginsWithEvents takes old new buckets from bytes at (gate ∷ rest)

-- there stands no whole record
pub record BreaksAt {V : Type 0} (takes : V → ℕ → Event → V → Type 0) (old new : V) (buckets from : ℕ)
    (bytes : List ℕ) (at : ℕ) : Type 0 where
  pub rest : List ℕ
  pub none : HasNoRecord rest
  -- no gate stands there, or an open one
  pub cut : (rest ≡ []) ⊎ ((more : List ℕ) × (rest ≡ open_gate ∷ more))
  pub front : BeginsWithEvents takes old new buckets from bytes at rest

-- there stands a whole record which no event has first, or whose event the visitor refuses
pub record RefusesEventAt {V : Type 0} (takes refuses : V → ℕ → Event → V → Type 0) (visitor after : V)
    (buckets from : ℕ) (bytes : List ℕ) (at : ℕ) : Type 0 where
  pub payload : List ℕ
  pub behind : List ℕ
  pub fits : IsPayload payload
  pub more : 1 ≤ length behind
  pub reached : V
  pub front : BeginsWithEvents takes visitor reached buckets from bytes at (record_text payload ++ behind)
  pub refused : RefusesRecord refuses buckets reached at payload after

-- ---- where a store tells its files
-- a log was opened: its file stands for events, just these the visitor took, and the log is open on them
pub record IsLogVisited {V : Type 0} (takes : V → ℕ → Event → V → Type 0) (old new : V) (images : Files → Type 0)
    (file : List ℕ) (log : OpenLog) : Type 0 where
  pub found : (events : List Event) × HasEvents log.buckets file events
  pub events : (events : List Event) → HasEvents log.buckets file events → (log.journal.end
      ≡ length (records_text (log_records events))) × TakesEvents takes old (placed_events 0 events) new
      × HoldsLog images log events

-- what names this place of a file that is opened
pub record IsLogDamaged {V : Type 0} (takes refuses : V → ℕ → Event → V → Type 0) (old new : V) (buckets : ℕ)
    (file : List ℕ) (at : ℕ) : Type 0 where
  -- its journal is broken there, or a whole record stands there that is refused
  pub why : (IsBrokenAt file at × BreaksAt takes old new buckets 0 file at)
      ⊎ RefusesEventAt takes refuses old new buckets 0 file at
  -- where the file stands for a list of events, only the visitor can refuse it: one of the list
  pub refused : (events : List Event) → HasEvents buckets file events
      → RefusesOneEvent takes refuses old new 0 events at

-- an open log's events from a place on were handed to a visitor
pub record IsLogRevisited {V : Type 0} (takes : V → ℕ → Event → V → Type 0) (old new : V) (log : OpenLog) (at : ℕ)
    (file : List ℕ) : Type 0 where
  -- where the file has these events, the visitor took just those from there on
  pub events : (first more : List Event) → EndsLog log file (first ++ more)
      → at ≡ length (records_text (log_records first)) → TakesEvents takes old (placed_events at more) new
  -- whatever the file has, it took events up to the log's end, where a closed gate stands
  pub found : at < log.journal.end → ClosesAt takes old new log.buckets at (drop at file) log.journal.end

-- what names a place behind that one, up to which the visitor took events
pub record IsLogDamagedFrom {V : Type 0} (takes refuses : V → ℕ → Event → V → Type 0) (old new : V) (log : OpenLog)
    (at : ℕ) (file : List ℕ) (place : ℕ) : Type 0 where
  -- no whole record stands there, or a closed gate does that isn't the log's end, or a whole record that is refused
  pub why : BreaksAt takes old new log.buckets at (drop at file) place
      ⊎ (ClosesAt takes old new log.buckets at (drop at file) place × (place ≢ log.journal.end))
      ⊎ RefusesEventAt takes refuses old new log.buckets at (drop at file) place
  -- where the file has these events, only the visitor can refuse: one of them
  pub refused : (first more : List Event) → EndsLog log file (first ++ more)
      → at ≡ length (records_text (log_records first)) → RefusesOneEvent takes refuses old new at more place

-- ---- the calls
-- The log of a file, over so many buckets, is opened, by the answer; `old` and `new` are the visitor.
pub record OpensLog {V : Type 0} (takes refuses : V → ℕ → Event → V → Type 0) (result : Result OpenLog JournalFault)
    (f buckets : ℕ) (old new : V) (before after : Told) : Type 0 where
  pub log : IfOk result (λ log. (log.journal.file ≡ f) × (log.journal.is_sound ≡ true) × (log.buckets ≡ buckets))
  pub visited : IfOk result (λ log. ForSome before.files (λ files.
      IsLogVisited takes old new after.images (files f) log))
  -- whatever the store tells, the visitor took events up to the log's end
  pub took : IfOk result (λ log. TookEventsUpTo takes old new buckets 0 log.journal.end)
  pub damaged : (at : ℕ) → IsErrOf result (Damaged at) → ForSome before.files (λ files.
      IsLogDamaged takes refuses old new buckets (files f) at)
  -- a file of at most one byte is then the closed gate
  pub short : OnOk result (ForSome before.files (λ files. length (files f) ≤ 1 → (now : Files)
      × (after.files ≡ Some now) × (now f ≡ 0 ∷ [])))
  -- a stop at any moment leaves each file as it was, but that a file of at most one byte which is no closed gate has at
  -- most one
  pub changes : ReadsAndChanges (λ g. g ≡ f) (ChangesFile f IsOpened) (IsErrOf result Failed) before after
  -- where memory runs out or the file is damaged, it changes nothing
  pub quiet : (IsErrOf result Memory) ⊎ ((at : ℕ) × IsErrOf result (Damaged at)) → OnlyReads (λ g. g ≡ f) ⊥ before after

-- An open log's events from a place on are handed to a visitor, by the answer.
pub record RevisitsLog {V S : Type 0} (told : S → Told) (takes refuses : V → ℕ → Event → V → Type 0)
    (result : Result Unit JournalFault) (log : OpenLog) (at : ℕ) (old new : V) (before after : S) : Type 0 where
  pub revisited : OnOk result (ForSome (told before).files (λ files.
      IsLogRevisited takes old new log at (files log.journal.file)))
  pub damaged : (place : ℕ) → IsErrOf result (Damaged place) → ForSome (told before).files (λ files.
      IsLogDamagedFrom takes refuses old new log at (files log.journal.file) place)
  -- at the log's end there are none, and it makes no call of the store
  pub idle : at ≡ log.journal.end → IsOk result × (after ≡ before) × (new ≡ old)
  -- it changes nothing, and reads no other file
  pub reads : OnlyReads (λ f. f ≡ log.journal.file) (IsErrOf result Failed) (told before) (told after)
