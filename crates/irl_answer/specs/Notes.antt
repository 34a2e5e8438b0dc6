-- What a host's robots file comes to, by the answers to the requests for it (RFC 9309, section 2.3.1).
use Rattle.std.specs.Prelude.{ℕ, ◌+◌, List, [], ◌∷◌, take, Option, None, Some, nat_lt, if◌then◌else◌}
use Rattle.irl_base.specs.Limits.{max_robots}
use Rattle.irl_key.specs.Web.{robots_text}
use Rattle.irl_offer.specs.declared.note.NoteState.{NoteState}
use Rattle.irl_offer.specs.declared.note.NoteState.TheVariants as note
use Rattle.irl_offer.specs.declared.reply.Answer.{Answer}
use Rattle.irl_offer.specs.declared.reply.Answer.TheVariants as answer
use Rattle.irl_offer.specs.Replies.{Received}
use Rattle.irl_robots.specs.declared.answer.Class.{Class}
use Rattle.irl_robots.specs.declared.answer.Class.TheVariants as class
use Rattle.irl_robots.specs.Status.{class_of}
use Rattle.irl_answer.specs.declared.notes.Step.{Step}
use Rattle.irl_answer.specs.declared.notes.Step.TheVariants.{Follow, Found}
use Rattle.irl_answer.specs.Outcomes.{usable}

-- how many redirects are followed
abbrev pub most_followed : ℕ
most_followed = 5

-- a usable location is followed; without one the file is unavailable
abbrev pub follow : Option (List ℕ) → Step
follow (Some web) = Follow web
follow None = Found note.Free

-- What a reply makes of the file, by its status: the first bytes of a body with rules, a redirect, of which so many
-- were followed already, a file that is unavailable, so that all is allowed, or one that is unreachable, so that
-- nothing is.
abbrev pub step_by : Class → List ℕ → ℕ → Received → Step
step_by class.Rules asked followed reply = Found (note.Rules (take max_robots reply.body))
step_by class.Moved asked followed reply =
    if nat_lt followed most_followed then follow (usable asked reply.location) else Found note.Free
step_by class.Free asked followed reply = Found note.Free
step_by class.Shut asked followed reply = Found note.Shut

-- What the answer to a request asks for next, after so many redirects. Without a whole reply that can be read the file
-- is unreachable.
abbrev pub step_of : List ℕ → ℕ → Answer → Step
step_of asked followed (answer.Reply reply) = step_by (class_of reply.status) asked followed reply
step_of asked followed answer.NoReply = Found note.Shut
step_of asked followed (answer.Short n) = Found note.Shut
step_of asked followed (answer.BadReply n) = Found note.Shut
step_of asked followed (answer.TooLarge n) = Found note.Shut
step_of asked followed answer.Coded = Found note.Shut

-- A chain of answers: the first is to the request for a host's robots file, each later one to the location before
-- it.

-- the state that was found, unless an answer comes behind it
abbrev pub found_last : NoteState → List Answer → Option NoteState
found_last state [] = Some state
found_last state (answer ∷ more) = None

abbrev pub note_after : Step → (List ℕ → Option NoteState) → List Answer → Option NoteState
note_after (Follow web) later more = later web
note_after (Found state) later more = found_last state more

-- what the answers to a request and to those that follow it come to, after so many redirects
abbrev pub note_from : List ℕ → ℕ → List Answer → Option NoteState
note_from asked followed [] = None
note_from asked followed (answer ∷ more) =
    note_after (step_of asked followed answer) (λ web. note_from web (followed + 1) more) more

-- what the answers of a chain say of a host's robots file: none where they are no whole chain
abbrev pub note_of : List ℕ → List Answer → Option NoteState
note_of host answers = note_from (robots_text host) 0 answers

abbrev pub requests_after : Step → (List ℕ → List (List ℕ)) → List (List ℕ)
requests_after (Follow web) later = later web
requests_after (Found state) later = []

-- the requests to which the answers were given, from this one on
abbrev pub requests_from : List ℕ → ℕ → List Answer → List (List ℕ)
requests_from asked followed [] = []
requests_from asked followed (answer ∷ more) =
    asked ∷ requests_after (step_of asked followed answer) (λ web. requests_from web (followed + 1) more)

-- those of a chain
abbrev pub requests_of : List ℕ → List Answer → List (List ℕ)
requests_of host answers = requests_from (robots_text host) 0 answers
