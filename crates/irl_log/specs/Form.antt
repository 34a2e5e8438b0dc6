-- What an event keeps by itself that a log may have. A record that is none of such an event is damage.
use Rattle.std.specs.Prelude.{◌≡◌, ℕ, ◌<◌, ◌≤◌, ◌^◌, List, length, None, ⊤}
use Rattle.std.specs.List.{AllByRecursion}
use Rattle.irl_base.specs.Limits.{max_text, max_robots}
use Rattle.irl_offer.specs.declared.note.Note.{Note}
use Rattle.irl_offer.specs.declared.outcome.Outcome.{Outcome}
use Rattle.irl_offer.specs.declared.outcome.Outcome.TheVariants.{Page, Moved, Status, Denied, Shut, Lost, Bad, Large, Coded}
use Rattle.irl_pld.specs.Names.{bad_line}
use Rattle.irl_events.specs.Events.{Event, Begin, Pairs, Pass, Robots, Settle}
use Rattle.irl_events.specs.Legal.{text_of}
use Rattle.irl_journal.specs.Format.{IsPayload}
use Rattle.irl_log.specs.Spelling.{payload_of}

-- the most bytes of a text of suffixes
abbrev pub max_suffixes : ℕ
max_suffixes = 4194304

abbrev pub IsWord : ℕ → Type 0
IsWord n = n < 2 ^ 64

-- a status has 16 bits, and the line of a rule 32
abbrev pub IsOutcome : Outcome → Type 0
IsOutcome Page = ⊤
IsOutcome Moved = ⊤
IsOutcome (Status status) = status < 2 ^ 16
IsOutcome (Denied line) = line < 2 ^ 32
IsOutcome Shut = ⊤
IsOutcome Lost = ⊤
IsOutcome Bad = ⊤
IsOutcome Large = ⊤
IsOutcome Coded = ⊤

pub record IsDone (done : ℕ × Outcome) : Type 0 where
  pub number : IsWord done.0
  pub outcome : IsOutcome done.1

pub record IsSuffixText (suffixes : List ℕ) : Type 0 where
  pub limit : length suffixes ≤ max_suffixes
  -- each line of it is a name
  pub names : bad_line suffixes ≡ None

pub record IsNote (note : Note) : Type 0 where
  pub when : IsWord note.when
  pub host : 1 ≤ length note.host
  pub host_limit : length note.host ≤ max_text
  pub text_limit : length (text_of note.state) ≤ max_robots

-- outcomes, with one front for each bucket
pub record IsSettle (buckets : ℕ) (fronts : List ℕ) (done : List (ℕ × Outcome)) : Type 0 where
  pub buckets_are : length fronts ≡ buckets
  pub fronts_are : AllByRecursion IsWord fronts
  pub done_are : AllByRecursion IsDone done

abbrev pub HasForm : ℕ → Event → Type 0
HasForm buckets (Begin suffixes) = IsSuffixText suffixes
HasForm buckets (Pairs cuts judged pairs) = IsWord cuts × IsWord judged × IsWord pairs
HasForm buckets (Pass judged) = IsWord judged
HasForm buckets (Robots note) = IsNote note
HasForm buckets (Settle fronts done) = IsSettle buckets fronts done

-- an event that a log over so many buckets may have
pub record IsLogged (buckets : ℕ) (event : Event) : Type 0 where
  pub form : HasForm buckets event
  -- a record has room for it, as for each but a Settle of a million outcomes
  pub fits : IsPayload (payload_of event)
