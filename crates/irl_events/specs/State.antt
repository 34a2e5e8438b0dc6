-- What a store's files stand for: the settings that it was made with, the books of its two DRUMs, and what its crawl
-- did.
use Rattle.std.specs.Prelude.{◌≡◌, ◌⊎◌, List, [], Option, None}
use Rattle.irl_offer.specs.declared.offer.Rule.TheVariants.{Keep}
use Rattle.irl_offer.specs.declared.settings.Settings.{Settings}
use Rattle.irl_model.specs.Book.{Book, IsFront, IsPrefixOf, blank_book}
use Rattle.irl_events.specs.Events.{Happened}

pub record State : Type 0 where
  -- a store that wasn't made yet has none
  pub settings : Option Settings
  -- the DRUM of URLs, and that of pairs of domains
  pub urls : Book
  pub pairs : Book
  -- what happened, in order; a store of lines or of tuples has no crawl, and none
  pub events : List Happened

-- the state of a store that wasn't made yet
abbrev pub blank_state : State
blank_state = record { settings = None; urls = blank_book 1 Keep; pairs = blank_book 1 Keep; events = [] }

-- both books are fronts, the events begin alike, and the settings are the same
pub record AreFronts (x y : State) : Type 0 where
  pub settings : y.settings ≡ x.settings
  pub urls : IsFront x.urls y.urls
  pub pairs : IsFront x.pairs y.pairs
  pub events : IsPrefixOf x.events y.events

-- the first state is a front of the second: whatever comes of a store that wasn't made, and else what has fronts of the
-- books and of the events
abbrev pub IsFrontState : State → State → Type 0
IsFrontState x y = (x.settings ≡ None) ⊎ AreFronts x y

-- the middle one lies between the two others
abbrev pub IsBetweenStates : State → State → State → Type 0
IsBetweenStates x z y = IsFrontState x z × IsFrontState z y
