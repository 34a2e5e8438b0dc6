-- What the log of a crawl shows by itself, without the places that passes give and without the books: how far it has
-- come, and which events break a rule.
use Rattle.std.specs.Prelude.{◌≡◌, ℕ, ◌+◌, nat_eq, nat_le, nat_lt, Bool, true, false, not, ◌&&◌, ◌||◌, List, [], ◌∷◌, ◌++◌, map, length, replicate}
use Rattle.irl_offer.specs.declared.outcome.Outcome.{Outcome}
use Rattle.irl_events.specs.Events.{Event, Begin, Pairs, Pass, Robots, Settle, Happened, Progress}
use Rattle.irl_journal.specs.Format.{records_text}
use Rattle.irl_log.specs.Spelling.{records_of}
use Rattle.irl_events.specs.Legal.{are_distinct, none_fell, one_rose}
use Rattle.irl_ledger.specs.Noting.{NotePlaces, no_notes, noted}

-- how far a crawl has come, as events without their places show it
pub record Outline : Type 0 where
  pub begun : Bool
  -- the numbers of the last Pairs, 0 before any
  pub cuts : ℕ
  pub sent : ℕ
  pub pairs : ℕ
  -- the lists' lengths of the last Settle, zeros before any
  pub fronts : List ℕ

abbrev pub outline_of : Progress → Outline
outline_of x = record { begun = x.begun; cuts = x.cuts; sent = x.sent; pairs = x.pairs; fronts = x.fronts }

-- before the first event of a crawl over so many buckets
abbrev pub blank_outline : ℕ → Outline
blank_outline buckets = record { begun = false; cuts = 0; sent = 0; pairs = 0; fronts = replicate buckets 0 }

-- after one more event
abbrev pub outline_after : Outline → Event → Outline
outline_after x (Begin suffixes) = record x { begun = true }
outline_after x (Pairs cuts judged pairs) = record x { begun = true; cuts = cuts; sent = judged; pairs = pairs }
outline_after x (Pass judged) = record x { begun = true }
outline_after x (Robots note) = record x { begun = true }
outline_after x (Settle fronts outcomes) = record x { begun = true; fronts = fronts }

-- the URLs that a Settle names
abbrev pub settled_numbers : List (ℕ × Outcome) → List ℕ
settled_numbers outcomes = map (λ d. d.0) outcomes

-- An event keeps what the log shows by itself. The first event is Begin, and no other is. The numbers of Pairs don't
-- fall. A Pass has the number of the last Pairs. A Settle has an outcome or a front that rose, no number twice, and no
-- front that fell. What a record's form says of an event isn't said again.
abbrev pub keeps_alone : Outline → Event → Bool
keeps_alone x (Begin suffixes) = not x.begun
keeps_alone x (Pairs cuts judged pairs) =
    x.begun && (nat_le x.cuts cuts && nat_le x.sent judged && nat_le x.pairs pairs)
keeps_alone x (Pass judged) = x.begun && nat_eq judged x.sent
keeps_alone x (Robots note) = x.begun
keeps_alone x (Settle fronts outcomes) =
    x.begun && ((nat_lt 0 (length outcomes) || one_rose x.fronts fronts) && are_distinct (settled_numbers outcomes)
    && none_fell x.fronts fronts)

-- ---- what is kept of a log that is read
-- an event with its place; a note changes no table, and isn't kept
abbrev pub kept_of : ℕ → Event → List (ℕ × Event)
kept_of at (Begin suffixes) = (at, Begin suffixes) ∷ []
kept_of at (Pairs cuts judged pairs) = (at, Pairs cuts judged pairs) ∷ []
kept_of at (Pass judged) = (at, Pass judged) ∷ []
kept_of at (Robots note) = []
kept_of at (Settle fronts outcomes) = (at, Settle fronts outcomes) ∷ []

-- what is kept of the events of a crawl, the gate of whose first record stands at this place
abbrev pub placed_kept : ℕ → List Happened → List (ℕ × Event)
placed_kept at [] = []
placed_kept at (h ∷ hs) = kept_of at h.0 ++ placed_kept (at + length (records_text (records_of h.0))) hs

-- what was read of a log: how far it brings the crawl, the events that change its tables, each with the place of its
-- record's gate, and the place of each host's last note
pub record LogHistory : Type 0 where
  pub outline : Outline
  pub events : List (ℕ × Event)
  pub notes : NotePlaces

-- before the first event
abbrev pub blank_history : ℕ → LogHistory
blank_history buckets = record { outline = blank_outline buckets; events = []; notes = no_notes }

-- one more event was taken, which keeps what the log shows by itself
pub record TakesAlone (old : LogHistory) (at : ℕ) (event : Event) (new : LogHistory) : Type 0 where
  pub keeps : keeps_alone old.outline event ≡ true
  pub outline : new.outline ≡ outline_after old.outline event
  pub events : new.events ≡ old.events ++ kept_of at event
  pub notes : new.notes ≡ noted at event old.notes

-- an event is refused that doesn't
pub record RefusesAlone (old : LogHistory) (at : ℕ) (event : Event) (new : LogHistory) : Type 0 where
  pub breaks : keeps_alone old.outline event ≡ false
  pub stays : new ≡ old
