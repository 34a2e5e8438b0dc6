-- What is done for an item of a front, and for the robots file of a host.
use Rattle.std.specs.Prelude.{◌≡◌, ℕ, ◌+◌, List, [], ◌∷◌, length, map, Bool, true, false, cond, Some, ⊤}
use Rattle.std.specs.List.{AllZip, flat_map, sum_by}
use Rattle.irl_key.specs.declared.web.Work.{Work}
use Rattle.irl_key.specs.Web.{IsHost, target_of}
use Rattle.irl_offer.specs.Offering.{Entered}
use Rattle.irl_offer.specs.declared.done.Done.{Done}
use Rattle.irl_offer.specs.declared.note.Note.{Note}
use Rattle.irl_offer.specs.declared.outcome.Outcome.{Outcome}
use Rattle.irl_offer.specs.declared.outcome.Outcome.TheVariants as outcome
use Rattle.irl_offer.specs.declared.receipt.Receipt.{Receipt}
use Rattle.irl_offer.specs.declared.reply.Answer.{Answer}
use Rattle.irl_offer.specs.declared.reply.Answer.TheVariants as answer
use Rattle.irl_offer.specs.declared.reply.Want.TheVariants.{Page, Robots}
use Rattle.irl_robots.specs.Leave.{leave_of}
use Rattle.irl_robots.specs.declared.host.HostState.{HostState}
use Rattle.irl_robots.specs.declared.host.Leave.{Leave}
use Rattle.irl_robots.specs.declared.host.Leave.TheVariants as leave
use Rattle.irl_polite.specs.Schedule.{host}
use Rattle.irl_record.specs.Widening.{Answers}
use Rattle.irl_answer.specs.Found.{offers_of}
use Rattle.irl_answer.specs.Notes.{note_of, requests_of}
use Rattle.irl_answer.specs.Outcomes.{outcome_of}

-- ---- an item
-- What became of it: it was fetched, with this answer, and these are entered of what that names; or a rule of its
-- host's robots file denies it, or nothing of the host may be fetched.
pub data Treated : Type 0 where
  Fetched : Answer → List Entered → Treated
  Denied : ℕ → Treated
  ShutOut : Treated

pub record Handled : Type 0 where
  pub work : Work
  pub treated : Treated

-- what the robots file said of it
abbrev pub leave_for : Treated → Leave
leave_for (Fetched answer entered) = leave.Allowed
leave_for (Denied line) = leave.Denied line
leave_for ShutOut = leave.Shut

-- what comes of the URL
abbrev pub outcome_for : List ℕ → Treated → Outcome
outcome_for url (Fetched answer entered) = outcome_of url answer
outcome_for url (Denied line) = outcome.Denied line
outcome_for url ShutOut = outcome.Shut

-- what was entered, and the answers that it rests on
abbrev pub entered_for : Treated → List Entered
entered_for (Fetched answer entered) = entered
entered_for (Denied line) = []
entered_for ShutOut = []

abbrev pub answers_for : Treated → List Answer
answers_for (Fetched answer entered) = answer ∷ []
answers_for (Denied line) = []
answers_for ShutOut = []

abbrev pub entered_of : Handled → List Entered
entered_of handled = entered_for handled.treated

abbrev pub answers_of : Handled → List Answer
answers_of handled = answers_for handled.treated

abbrev pub receipts_of : List Entered → List Receipt
receipts_of entered = map (λ one. one.receipt) entered

-- how it is told to the store
abbrev pub done_of : Handled → Done
done_of handled =
    record {
      number = handled.work.number;
      outcome = outcome_for handled.work.web handled.treated;
      receipts = receipts_of (entered_of handled);
    }

-- the answer was given to its URL, and what that names was offered, in order
abbrev pub IsGiven : Answers → List ℕ → List ℕ → Treated → Type 0
IsGiven gives suffixes url (Fetched answer entered) = gives url Page answer
    × (map (λ one. one.offer) entered ≡ offers_of suffixes url answer)
IsGiven gives suffixes url (Denied line) = ⊤
IsGiven gives suffixes url ShutOut = ⊤

-- A state of its host's robots file says so of it, one of these, and what was given to it is what was offered.
pub record IsHandled (gives : Answers) (IsState : List ℕ → HostState → Type 0) (suffixes : List ℕ)
    (handled : Handled) : Type 0 where
  pub state : HostState
  pub noted : IsState (host handled.work) state
  pub leave : leave_of state (target_of handled.work.web) ≡ leave_for handled.treated
  pub given : IsGiven gives suffixes handled.work.web handled.treated

-- ---- a robots file
-- what was noted of a host, and the answers that it rests on
pub record Noted : Type 0 where
  pub note : Note
  pub answers : List Answer

-- The answers are a whole chain, each given to its request, and come to what is noted.
pub record IsNoted (gives : Answers) (noted : Noted) : Type 0 where
  pub host : IsHost noted.note.host
  pub says : note_of noted.note.host noted.answers ≡ Some noted.note.state
  pub given : AllZip (λ url answer. gives url Robots answer) (requests_of noted.note.host noted.answers) noted.answers

-- how many answers it all rests on
abbrev pub answered : List Handled → List Noted → ℕ
answered handled noted = length (flat_map answers_of handled) + length (flat_map (λ one. one.answers) noted)

-- ---- answers that never came
abbrev pub is_missing : Answer → Bool
is_missing (answer.Reply reply) = false
is_missing answer.NoReply = true
is_missing (answer.Short n) = false
is_missing (answer.BadReply n) = false
is_missing (answer.TooLarge n) = false
is_missing answer.Coded = false

-- how many of the answers didn't come
abbrev pub missing : List Answer → ℕ
missing answers = sum_by (λ answer. cond (is_missing answer) 1 0) answers
