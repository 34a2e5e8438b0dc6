-- One robots note of a log, by the place of its record's gate.
use Rattle.std.specs.Prelude.{◌≡◌, ℕ, List, ◌∷◌, ◌++◌, length, Result, IfOk, IsErrOf}
use Rattle.std.specs.Option.{ForSome}
use Rattle.irl_disk.specs.Effects.{OnlyReads}
use Rattle.irl_disk.specs.Images.{Told}
use Rattle.irl_events.specs.Events.{Event, Robots}
use Rattle.irl_journal.specs.Format.{StandsAt, records_text}
use Rattle.irl_journal.specs.declared.fault.JournalFault.{JournalFault}
use Rattle.irl_journal.specs.declared.fault.JournalFault.TheVariants.{Damaged, Failed}
use Rattle.irl_offer.specs.declared.note.Note.{Note}
use Rattle.irl_log.specs.Form.{IsLogged, IsNote}
use Rattle.irl_log.specs.Log.{OpenLog, EndsLog}
use Rattle.irl_log.specs.Spelling.{payload_of, log_records}

-- this is the payload of a note that a log over so many buckets may have
pub record IsNoteIn (buckets : ℕ) (payload : List ℕ) (note : Note) : Type 0 where
  pub logged : IsLogged buckets (Robots note)
  pub spelled : payload ≡ payload_of (Robots note)

-- the record of this note stands at this place of a log's file
pub record NoteStandsAt (log : OpenLog) (file : List ℕ) (at : ℕ) (note : Note) : Type 0 where
  pub form : IsNote note
  pub stands : StandsAt at log.journal.end file (payload_of (Robots note))

-- A look for the note at a place, by its answer.
pub record FindsNote (result : Result Note JournalFault) (log : OpenLog) (at : ℕ) (before after : Told) : Type 0 where
  pub found : IfOk result (λ note. ForSome before.files (λ files.
      NoteStandsAt log (files log.journal.file) at note))
  -- where the file has these events, it is the one whose gate stands there
  pub one : IfOk result (λ note. ForSome before.files (λ files. (first more : List Event) (known : Note)
      → EndsLog log (files log.journal.file) (first ++ Robots known ∷ more)
      → at ≡ length (records_text (log_records first)) → note ≡ known))
  -- the place is the one that was asked for, and no note's record stands there
  pub damaged : (place : ℕ) → IsErrOf result (Damaged place) → (place ≡ at) × ForSome before.files (λ files.
      (note : Note) → NoteStandsAt log (files log.journal.file) at note → ⊥)
  -- it changes nothing, and reads no other file
  pub reads : OnlyReads (λ f. f ≡ log.journal.file) (IsErrOf result Failed) before after
