-- The bytes of a crawl's events in its journal (docs/FORMATS.md, "The crawl journal"). Numbers have the lowest byte
-- first.
use Rattle.std.specs.Prelude.{ℕ, List, [], ◌∷◌, ◌++◌, length}
use Rattle.std.specs.List.{flat_map}
use Rattle.std.specs.Int.{w16, w32, w64, to_le_bytes}
use Rattle.irl_offer.specs.declared.note.Note.{Note}
use Rattle.irl_offer.specs.declared.note.NoteState.{NoteState}
use Rattle.irl_offer.specs.declared.note.NoteState.TheVariants.{Rules, Free, Shut as ShutNote}
use Rattle.irl_offer.specs.declared.outcome.Outcome.{Outcome}
use Rattle.irl_offer.specs.declared.outcome.Outcome.TheVariants.{Page, Moved, Status, Denied, Shut, Lost, Bad, Large, Coded}
use Rattle.irl_events.specs.Events.{Event, Begin, Pairs, Pass, Robots, Settle}
use Rattle.irl_events.specs.Legal.{text_of}

-- ---- the parts
-- an outcome's number
abbrev pub outcome_number : Outcome → ℕ
outcome_number Page = 0
outcome_number Moved = 1
outcome_number (Status status) = 2
outcome_number (Denied line) = 3
outcome_number Shut = 4
outcome_number Lost = 5
outcome_number Bad = 6
outcome_number Large = 7
outcome_number Coded = 8

-- what it tells beside that: the status, or the line of the rule, else 0
abbrev pub outcome_detail : Outcome → ℕ
outcome_detail Page = 0
outcome_detail Moved = 0
outcome_detail (Status status) = status
outcome_detail (Denied line) = line
outcome_detail Shut = 0
outcome_detail Lost = 0
outcome_detail Bad = 0
outcome_detail Large = 0
outcome_detail Coded = 0

-- what came of one URL, in 13 bytes
abbrev pub done_bytes : ℕ × Outcome → List ℕ
done_bytes done = to_le_bytes w64 done.0 ++ outcome_number done.1 ∷ to_le_bytes w32 (outcome_detail done.1)

-- the number of what is known of a robots file
abbrev pub state_number : NoteState → ℕ
state_number (Rules text) = 0
state_number Free = 1
state_number ShutNote = 2

-- what is known of a host's robots file
abbrev pub note_bytes : Note → List ℕ
note_bytes note =
    to_le_bytes w64 note.when ++ state_number note.state ∷ to_le_bytes w16 (length note.host) ++ note.host
    ++ text_of note.state

-- ---- an event
-- its first byte
abbrev pub tag_of : Event → ℕ
tag_of (Begin suffixes) = 1
tag_of (Pairs cuts judged pairs) = 2
tag_of (Pass judged) = 3
tag_of (Robots note) = 4
tag_of (Settle fronts done) = 5

-- the bytes behind that
abbrev pub rest_of : Event → List ℕ
rest_of (Begin suffixes) = suffixes
rest_of (Pairs cuts judged pairs) = to_le_bytes w64 cuts ++ to_le_bytes w64 judged ++ to_le_bytes w64 pairs
rest_of (Pass judged) = to_le_bytes w64 judged
rest_of (Robots note) = note_bytes note
rest_of (Settle fronts done) =
    to_le_bytes w32 (length done) ++ flat_map (to_le_bytes w64) fronts ++ flat_map done_bytes done

-- the payload of its record
abbrev pub payload_of : Event → List ℕ
payload_of event = tag_of event ∷ rest_of event

-- the payloads of its records: one
abbrev pub records_of : Event → List (List ℕ)
records_of event = payload_of event ∷ []

-- the payloads of the records of some events, in order
abbrev pub log_records : List Event → List (List ℕ)
log_records events = flat_map records_of events
