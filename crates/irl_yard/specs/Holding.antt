-- An open store holds a state: what it keeps in memory is the state's, and each joint image that a stop now may leave
-- stands for it.
use Rattle.std.specs.Prelude.{◌≡◌, ◌≢◌, ◌⊎◌, ℕ, List, true, false, Option, Some, ⊤}
use Rattle.std.specs.List.{AllByRecursion}
use Rattle.irl_offer.specs.declared.settings.Kind.TheVariants.{Crawl as CrawlKind}
use Rattle.irl_offer.specs.declared.settings.Settings.{Settings}
use Rattle.irl_model.specs.Book.{Book, flushed, merged}
use Rattle.irl_events.specs.Events.{Happened}
use Rattle.irl_events.specs.State.{State}
use Rattle.irl_offer.specs.Tuple.{Tuple}
use Rattle.irl_disk.specs.Disk.{Files}
use Rattle.irl_journal.specs.Format.{StandsFor}
use Rattle.irl_layout.specs.BayFiles.{file_of}
use Rattle.irl_layout.specs.Commits.{Commit, IsCommit, HasCommits, first_commit, last_commit, live_side}
use Rattle.irl_layout.specs.declared.files.BayFile.TheVariants.{Journal}
use Rattle.irl_bay.specs.Drum.{Drum, IsDrum}
use Rattle.irl_bay.specs.Holding.{Holds}
pub use Rattle.irl_schedule.specs.Schedule.{HasJournal}
use Rattle.irl_ledger.specs.declared.ledger.Ledger.{Ledger}
use Rattle.irl_ledger.specs.Holding.{HoldsLedger, IsOpenLedger, IsSoundLedger}
use Rattle.irl_yard.specs.declared.parts.Parts.{Parts}
use Rattle.irl_yard.specs.declared.parts.Rest.{Rest}
use Rattle.irl_yard.specs.declared.parts.Rest.TheVariants.{Plain, Crawl}
use Rattle.irl_head.specs.StoreFiles.{urls_base}
use Rattle.irl_head.specs.Opening.{KeepsHead}
use Rattle.irl_yard.specs.Standing.{HasRest, HasState, IsRest, with_urls}

-- ---- what an open store has beside its bay of URLs
-- by the kind of the store: one of lines or of tuples has nothing else open
abbrev pub HoldsOpen : (Files → Type 0) → Settings → Rest → Book → Book → List Happened → Type 0
HoldsOpen images settings Plain urls pairs events = settings.kind ≢ CrawlKind
HoldsOpen images settings (Crawl ledger) urls pairs events = (settings.kind ≡ CrawlKind)
    × HoldsLedger images settings ledger urls pairs events

-- what every open store keeps of it, over files that are told as these
abbrev pub IsOpenRest : Drum → Rest → Option Files → Type 0
IsOpenRest urls rest told = (rest ≡ Plain → urls.settings.kind ≢ CrawlKind)
    × ((ledger : Ledger) → rest ≡ Crawl ledger → (urls.settings.kind ≡ CrawlKind) × IsOpenLedger urls ledger told)

-- a crawl is open there
abbrev pub HasLedger : Rest → Type 0
HasLedger rest = (ledger : Ledger) × (rest ≡ Crawl ledger)

-- ---- a store
-- no call failed
abbrev pub IsSoundRest : Rest → Type 0
IsSoundRest Plain = ⊤
IsSoundRest (Crawl ledger) = IsSoundLedger ledger

abbrev pub IsSound : Parts → Type 0
IsSound parts = (parts.urls.is_sound ≡ true) × (parts.has_failed ≡ false) × IsSoundRest parts.rest

-- A store after a call that may end its soundness: it may be asked again, but where the store failed.
pub record StaysSound (failed : Type 0) (now : Parts) : Type 0 where
  pub drum : IsDrum now.urls
  pub sound : (failed → ⊥) → IsSound now
  pub unsound : failed → IsSound now → ⊥

-- the bay of URLs has the state's book, and what a stop leaves of the head and the rest is as the settings say
pub record HoldsUrls (images : Files → Type 0) (urls : Drum) (state : State) : Type 0 where
  pub settings : state.settings ≡ Some urls.settings
  pub base : urls.base ≡ urls_base
  pub head : KeepsHead images urls.settings
  pub urls_hold : Holds images urls state.urls
  pub legal : IsRest urls.settings.kind urls.settings state.urls state.pairs state.events
  pub rest : (image : Files) → images image → HasRest urls.settings.kind urls.settings state.pairs state.events image

-- an open store holds a state
pub record HoldsState (images : Files → Type 0) (parts : Parts) (state : State) : Type 0 where
  pub urls : HoldsUrls images parts.urls state
  pub open_rest : HoldsOpen images parts.urls.settings parts.rest state.urls state.pairs state.events

-- these offers stand at the end of a bucket's list of URLs
abbrev pub with_offers : ℕ → List Tuple → State → State
with_offers b news state = with_urls (flushed b news state.urls) state

-- all offers of URLs are judged
abbrev pub with_cut : State → State
with_cut state = with_urls (merged state.urls) state

-- a joint image stands for one of two states
abbrev pub HasOneOf : State → State → Files → Type 0
HasOneOf x y image = HasState x image ⊎ HasState y image

-- ---- the records of a bucket of URLs
-- A joint image has these records in it: on the side that the last commit of the manifest leaves live. A journal
-- without a record may have no closed gate yet.
pub record HasLiveJournal (base buckets b : ℕ) (payloads : List (List ℕ)) (image : Files) : Type 0 where
  pub commits : List Commit
  pub form : AllByRecursion (IsCommit buckets) commits
  pub manifest : HasCommits base commits image
  pub records : StandsFor (image (file_of base 0 (Journal (live_side (last_commit (first_commit buckets) commits)) b)))
      payloads
