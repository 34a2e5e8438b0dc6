-- The files of a store stand for a state. What a store has beside its settings and its URLs goes by its kind.
use Rattle.std.specs.Prelude.{◌≡◌, ◌⊎◌, ℕ, ◌≤◌, List, [], ◌∷◌, length, Some}
use Rattle.irl_offer.specs.Settings.{AreValid}
use Rattle.irl_offer.specs.declared.offer.Rule.TheVariants.{Keep}
use Rattle.irl_offer.specs.declared.settings.Kind.{Kind}
use Rattle.irl_offer.specs.declared.settings.Kind.TheVariants.{Lines, Tuples, Crawl}
use Rattle.irl_offer.specs.declared.settings.Settings.{Settings}
use Rattle.irl_model.specs.Book.{Book, blank_book}
use Rattle.irl_events.specs.Events.{Happened}
use Rattle.irl_events.specs.State.{State, blank_state}
use Rattle.irl_disk.specs.Disk.{Files}
use Rattle.irl_journal.specs.Format.{StandsFor}
use Rattle.irl_bay.specs.Making.{IsUnmade}
use Rattle.irl_bay.specs.Standing.{Stands, IsBookOf}
use Rattle.irl_head.specs.StoreFiles.{head_file, crawl_file, urls_base, pairs_base}
use Rattle.irl_head.specs.Head.{head_bytes}
use Rattle.irl_head.specs.Opening.{IsBlank}
use Rattle.irl_ledger.specs.Crawling.{AreCrawlFiles, IsCrawlState}

-- ---- by the kind of store
-- a store of lines or of tuples has no other book, and no event,
pub record IsPlainState (buckets : ℕ) (pairs : Book) (events : List Happened) : Type 0 where
  pub pairs_are : pairs ≡ blank_book buckets Keep
  pub events_are : events ≡ []

-- and the files that it lacks are empty
pub record ArePlainFiles (buckets : ℕ) (files : Files) : Type 0 where
  pub crawl : length (files crawl_file) ≤ 1
  pub pairs : IsUnmade pairs_base buckets files

-- a state with these books and events is legal
abbrev pub IsRest : Kind → Settings → Book → Book → List Happened → Type 0
IsRest Lines settings urls pairs events = IsPlainState settings.buckets pairs events
IsRest Tuples settings urls pairs events = IsPlainState settings.buckets pairs events
IsRest Crawl settings urls pairs events = IsCrawlState settings urls pairs events

-- and the files beside the head and the bay of URLs have its rest
abbrev pub HasRest : Kind → Settings → Book → List Happened → Files → Type 0
HasRest Lines settings pairs events files = ArePlainFiles settings.buckets files
HasRest Tuples settings pairs events files = ArePlainFiles settings.buckets files
HasRest Crawl settings pairs events files = AreCrawlFiles settings pairs events files

-- ---- a store
-- one with these settings
pub record IsMade (settings : Settings) (state : State) (files : Files) : Type 0 where
  pub settings_are : state.settings ≡ Some settings
  pub valid : AreValid settings
  -- the head has the settings
  pub head : StandsFor (files head_file) (head_bytes settings ∷ [])
  -- the bay of URLs has its book
  pub urls : Stands urls_base settings state.urls files
  -- the state is legal,
  pub legal : IsRest settings.kind settings state.urls state.pairs state.events
  -- and the other files have the rest of it
  pub rest : HasRest settings.kind settings state.pairs state.events files

-- the files stand for a state
abbrev pub HasState : State → Files → Type 0
HasState state files = (IsBlank files × (state ≡ blank_state)) ⊎ ((settings : Settings) × IsMade settings state files)

-- ---- states
-- a state with another book of URLs
abbrev pub with_urls : Book → State → State
with_urls book state = record state { urls = book }

-- what a state keeps that files of a store with these settings stand for
pub record IsStateOf (settings : Settings) (state : State) : Type 0 where
  pub settings_are : state.settings ≡ Some settings
  pub valid : AreValid settings
  pub book_is : IsBookOf settings state.urls
  pub rest : IsRest settings.kind settings state.urls state.pairs state.events

-- a state is that of a store that wasn't made yet, or keeps what one does that files stand for
abbrev pub IsLegal : State → Type 0
IsLegal state = (state ≡ blank_state) ⊎ ((settings : Settings) × IsStateOf settings state)
