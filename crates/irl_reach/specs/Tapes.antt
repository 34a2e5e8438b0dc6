-- What a tape says of hosts and of URLs.
use Rattle.std.specs.Prelude.{◌≡◌, ℕ, List, Some}
use Rattle.std.specs.List.{AllZip}
use Rattle.irl_answer.specs.Found.{offers_of}
use Rattle.irl_answer.specs.Notes.{note_of, requests_of}
use Rattle.irl_answer.specs.Outcomes.{outcome_of}
use Rattle.irl_key.specs.Web.{host_of, target_of}
use Rattle.irl_offer.specs.declared.note.NoteState.{NoteState}
use Rattle.irl_offer.specs.declared.outcome.Outcome.{Outcome}
use Rattle.irl_offer.specs.declared.outcome.Outcome.TheVariants as outcome
use Rattle.irl_offer.specs.declared.reply.Answer.{Answer}
use Rattle.irl_offer.specs.declared.reply.Want.TheVariants.{Robots}
use Rattle.irl_offer.specs.Tuple.{Tuple}
use Rattle.irl_record.specs.Fetched.{by_tape}
use Rattle.irl_record.specs.Taped.{Taped, record_at, answer_of}
use Rattle.irl_record.specs.Widening.{Answers}
use Rattle.irl_robots.specs.declared.host.Leave.{Leave}
use Rattle.irl_robots.specs.declared.host.Leave.TheVariants.{Allowed, Denied, Shut}
use Rattle.irl_robots.specs.Leave.{leave}

-- the tape's answer to a URL, and the offers of it
abbrev pub answer_on : Taped → List ℕ → Answer
answer_on tape url = answer_of (record_at tape.records url)

abbrev pub found_on : Taped → List ℕ → List Tuple
found_on tape url = offers_of tape.suffixes url (answer_on tape url)

-- ---- robots files
-- The state of a host's robots file by some answers: they have a chain, each answer of it to its request, that says so.
pub record IsNoteBy (gives : Answers) (host : List ℕ) (state : NoteState) : Type 0 where
  pub answers : List Answer
  pub given : AllZip (λ url answer. gives url Robots answer) (requests_of host answers) answers
  pub says : note_of host answers ≡ Some state

-- the same by a tape, which answers each request once: each host has exactly one such state (`one_note_a_host`)
abbrev pub IsNoteOn : Taped → List ℕ → NoteState → Type 0
IsNoteOn tape host state = IsNoteBy (by_tape tape) host state

-- ---- what comes of a URL
-- a robots file's own outcomes come before that of a fetch
abbrev pub outcome_by : Leave → Outcome → Outcome
outcome_by Allowed fetched = fetched
outcome_by (Denied line) fetched = outcome.Denied line
outcome_by Shut fetched = outcome.Shut

-- what comes of a URL whose host has this state, for an agent
abbrev pub due_by : Taped → List ℕ → NoteState → List ℕ → Outcome
due_by tape agent state url = outcome_by (leave state agent (target_of url)) (outcome_of url (answer_on tape url))

-- What is due of a URL: by the robots file that the tape gives its host, and where that allows by the tape's answer.
-- Each URL has exactly one such outcome (`one_outcome_a_url`).
pub record IsDue (tape : Taped) (agent url : List ℕ) (due : Outcome) : Type 0 where
  pub state : NoteState
  pub note : IsNoteOn tape (host_of url) state
  pub is : due ≡ due_by tape agent state url
