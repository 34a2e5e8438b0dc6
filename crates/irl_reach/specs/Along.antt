-- A store that a crawl of a tape made, as far as it came.
use Rattle.std.specs.Prelude.{◌≡◌, ℕ, true, List, [], ◌∷◌, ◌++◌, map, flat_map}
use Rattle.std.specs.List.{Contains}
use Rattle.irl_core.specs.States.{offers_of, url_text}
use Rattle.irl_events.specs.Events.{Event, Begin, Pairs, Pass, Robots, Settle, Happened}
use Rattle.irl_events.specs.State.{State}
use Rattle.irl_key.specs.Key.{key_of}
use Rattle.irl_model.specs.Book.{Book}
use Rattle.irl_offer.specs.declared.note.Note.{Note}
use Rattle.irl_offer.specs.declared.outcome.Outcome.{Outcome}
use Rattle.irl_offer.specs.Tuple.{Tuple}
use Rattle.irl_record.specs.Taped.{Taped}
use Rattle.irl_reach.specs.Reached.{Reached, is_followed}
use Rattle.irl_reach.specs.Tapes.{IsDue, IsNoteOn, found_on}

-- ---- what a tape names
-- a URL, and the texts that the tape's answer to it offers
abbrev pub texts_with : Taped → List ℕ → List (List ℕ)
texts_with tape url = url ∷ map (λ offer. offer.aux) (found_on tape url)

-- the texts of a tape: its seeds, the URLs of its pages and of what is lost, and what is offered there
abbrev pub texts_on : Taped → List (List ℕ)
texts_on tape = tape.seeds ++ flat_map (texts_with tape) (map (λ r. r.0) tape.records)

-- no two of them share a key
abbrev pub KeysDiffer : Taped → Type 0
KeysDiffer tape = (one other : List ℕ) → Contains (texts_on tape) one → Contains (texts_on tape) other
    → key_of one ≡ key_of other → one ≡ other

-- an offer is that of one of them
pub record IsOfText (tape : Taped) (offer : Tuple) : Type 0 where
  pub text : Contains (texts_on tape) offer.aux
  pub key : offer.key ≡ key_of offer.aux

-- ---- what events tell
-- the outcomes that are settled, in order: each number is then done, with its outcome (`what_is_settled_is_done`)
abbrev pub outcomes_of : Event → List (ℕ × Outcome)
outcomes_of (Begin suffixes) = []
outcomes_of (Pairs cuts judged pairs) = []
outcomes_of (Pass judged) = []
outcomes_of (Robots note) = []
outcomes_of (Settle fronts outcomes) = outcomes

abbrev pub settled_in : List Happened → List (ℕ × Outcome)
settled_in events = flat_map (λ h. outcomes_of h.0) events

-- the robots files that were found, in order
abbrev pub notes_of : Event → List Note
notes_of (Begin suffixes) = []
notes_of (Pairs cuts judged pairs) = []
notes_of (Pass judged) = []
notes_of (Robots note) = note ∷ []
notes_of (Settle fronts outcomes) = []

abbrev pub notes_in : List Happened → List Note
notes_in events = flat_map (λ h. notes_of h.0) events

-- ---- the store
-- the keys of all offers of a book
abbrev pub keys_in : Book → List ℕ
keys_in book = map (λ offer. offer.key) (offers_of book)

-- A state is along a tape for an agent: it is what a crawl of the tape may have made so far.
pub record IsAlong (tape : Taped) (agent : List ℕ) (state : State) : Type 0 where
  -- no two texts of the tape share a key
  pub distinct : KeysDiffer tape
  -- each offer of URLs is that of a text of the tape,
  pub texts : (offer : Tuple) → Contains (offers_of state.urls) offer → IsOfText tape offer
  -- and its key is reached
  pub reached : (key : ℕ) → Contains (keys_in state.urls) key → Reached tape agent key
  -- each outcome that is settled is due of its URL,
  pub due : (number : ℕ) (outcome : Outcome) → Contains (settled_in state.events) (number, outcome)
      → IsDue tape agent (url_text state.urls number) outcome
  -- and the pages that a page or a redirect names are offered
  pub followed : (number : ℕ) (outcome : Outcome) → Contains (settled_in state.events) (number, outcome)
      → is_followed outcome ≡ true → (offer : Tuple) → Contains (found_on tape (url_text state.urls number)) offer
      → Contains (keys_in state.urls) offer.key
  -- each robots file is what the tape gives its host
  pub notes : (note : Note) → Contains (notes_in state.events) note → IsNoteOn tape note.host note.state
