-- What an open store of a crawl keeps of its state.
use Rattle.std.proofs.Common.{◌≡◌, ◌∙◌, ℕ, List, Some, sym}
use Rattle.irl_bay.specs.Drum.{IsDrum}
use Rattle.irl_core.specs.States.{begun_with}
use Rattle.irl_disk.specs.Disk.{Files}
use Rattle.irl_events.specs.Events.{Happened}
use Rattle.irl_events.specs.State.{State}
use Rattle.irl_model.specs.Book.{Book}
use Rattle.irl_offer.specs.declared.settings.Kind.TheVariants.{Crawl as CrawlKind}
use Rattle.irl_offer.specs.declared.settings.Settings.{Settings}
use Rattle.irl_reach.specs.Crawls.{IsCrawlStore}
use Rattle.irl_yard.specs.declared.parts.Parts.{Parts}
use Rattle.irl_yard.specs.declared.parts.Rest.{Rest}
use Rattle.irl_yard.specs.declared.parts.Rest.TheVariants.{Plain, Crawl}
use Rattle.irl_yard.specs.Holding.{HoldsOpen, HoldsState}
use Rattle.irl_yard.specs.Passing.{suffixes_in}
use Rattle.irl_yard.specs.Sending.{HasBegun}
use Rattle.irl_yard.proofs.StoreOfCrawl.{IsStoreOfCrawl, held_crawl}

-- where a crawl has begun it is one of a crawl
kind_open : (images : Files → Type 0) (settings : Settings) (rest : Rest) (urls pairs : Book) (events : List Happened) → HasBegun rest → HoldsOpen images settings rest urls pairs events
    → settings.kind ≡ CrawlKind
kind_open images settings Plain urls pairs events begun opened = absurd begun
kind_open images settings (Crawl ledger) urls pairs events begun opened = opened.0

pub kind_held : (images : Files → Type 0) (parts : Parts) (state : State) → HasBegun parts.rest → HoldsState images parts state → parts.urls.settings.kind ≡ CrawlKind
kind_held images parts state begun held = kind_open images parts.urls.settings parts.rest state.urls state.pairs state.events begun held.open_rest

-- and its events begin with the suffixes that are kept in memory
begun_open : (images : Files → Type 0) (settings : Settings) (rest : Rest) (urls pairs : Book) (events : List Happened) (suffixes : List ℕ) → suffixes_in rest ≡ Some suffixes
    → HoldsOpen images settings rest urls pairs events → begun_with events ≡ Some suffixes
begun_open images settings Plain urls pairs events suffixes is opened = let no : ⊥ = cc in absurd no
begun_open images settings (Crawl ledger) urls pairs events suffixes is opened = sym opened.1.suffixes ∙ is

pub begun_held : (images : Files → Type 0) (parts : Parts) (state : State) (suffixes : List ℕ) → suffixes_in parts.rest ≡ Some suffixes → HoldsState images parts state
    → begun_with state.events ≡ Some suffixes
begun_held images parts state suffixes is held = begun_open images parts.urls.settings parts.rest state.urls state.pairs state.events suffixes is held.open_rest

-- a state of a crawl is as a crawl asks
pub store_as : (settings : Settings) (state : State) → IsStoreOfCrawl settings state → IsCrawlStore settings state
store_as settings state is = record {
  settings_are = is.settings_are;
  valid = is.valid;
  book = is.book;
  buckets = is.buckets;
  rule = is.rule;
  dropped = is.dropped;
  both = is.both;
  legal = is.legal;
}

-- and so is that of an open one
pub held_of_kind : (images : Files → Type 0) (parts : Parts) (state : State) → IsDrum parts.urls → parts.urls.settings.kind ≡ CrawlKind → HoldsState images parts state
    → IsCrawlStore parts.urls.settings state
held_of_kind images parts state law kind held = store_as parts.urls.settings state (held_crawl images parts state law kind held)

pub held_is_crawl : (images : Files → Type 0) (parts : Parts) (state : State) → IsDrum parts.urls → HasBegun parts.rest → HoldsState images parts state → IsCrawlStore parts.urls.settings state
held_is_crawl images parts state law begun held = held_of_kind images parts state law (kind_held images parts state begun held) held
