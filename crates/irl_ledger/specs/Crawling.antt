-- What a store of a crawl has beside its settings and its URLs: the book of pairs, and the events.
use Rattle.std.specs.Prelude.{ℕ, List, map, ⊤}
use Rattle.std.specs.List.{AllByRecursion}
use Rattle.irl_offer.specs.Offering.{IsTakenBy}
use Rattle.irl_offer.specs.Tuple.{Tuple}
use Rattle.irl_offer.specs.declared.offer.Rule.TheVariants.{Keep}
use Rattle.irl_offer.specs.declared.settings.Kind.{Kind}
use Rattle.irl_offer.specs.declared.settings.Kind.TheVariants.{Lines, Tuples, Crawl}
use Rattle.irl_offer.specs.declared.settings.Settings.{Settings}
use Rattle.irl_pld.specs.Domains.{pld_of}
use Rattle.irl_key.specs.Key.{key_of}
use Rattle.irl_key.specs.Links.{IsCanonicalText}
use Rattle.irl_key.specs.Web.{host_of}
use Rattle.irl_model.specs.Book.{Book, IsFront}
use Rattle.irl_events.specs.Events.{Event, Happened}
use Rattle.irl_core.specs.States.{IsLegalState}
use Rattle.irl_disk.specs.Disk.{Files}
use Rattle.irl_bay.specs.Standing.{Stands, IsBookOf}
use Rattle.irl_head.specs.StoreFiles.{crawl_file, pairs_base}
use Rattle.irl_log.specs.Log.{HasEvents}

-- ---- what is offered
-- Offers that a store of a kind takes: a crawl's enter pages by their canonical texts.
abbrev pub AreTaken : Kind → List Tuple → Type 0
AreTaken Lines offers = ⊤
AreTaken Tuples offers = ⊤
AreTaken Crawl offers = AllByRecursion (IsTakenBy IsCanonicalText Crawl) offers

-- A book of URLs that may come behind another in a store of a kind: a crawl's has the other as a front, and takes all
-- its offers.
abbrev pub MayFollow : Kind → Book → Book → Type 0
MayFollow Lines book more = ⊤
MayFollow Tuples book more = ⊤
MayFollow Crawl book more = IsFront book more × AllByRecursion (AreTaken Crawl) more.lists

-- ---- the state
-- the settings of the bay of pairs: the first text of a key stays, whatever the store's rule is
abbrev pub pair_settings : Settings → Settings
pair_settings settings = record settings { rule = Keep }

-- the pay-level domain of a page, by a text of suffixes and the page's canonical text
abbrev pub domain_of : List ℕ → List ℕ → List ℕ
domain_of suffixes url = pld_of suffixes (host_of url)

-- the events of what happened, without the places
abbrev pub events_of : List Happened → List Event
events_of happened = map (λ h. h.0) happened

-- What a crawl keeps beside the settings that its store was made with.
pub record IsCrawlState (settings : Settings) (urls pairs : Book) (events : List Happened) : Type 0 where
  -- the pairs are a book of their bay
  pub pairs_are : IsBookOf (pair_settings settings) pairs
  -- the events keep their rules, and say of the books what these are
  pub legal : IsLegalState domain_of key_of settings urls pairs events
  -- each offer of URLs is one that a crawl takes
  pub taken : AllByRecursion (AreTaken Crawl) urls.lists

-- ---- the files
-- those beside the head and the bay of URLs have the pairs and the events
pub record AreCrawlFiles (settings : Settings) (pairs : Book) (events : List Happened) (files : Files) : Type 0 where
  pub pairs_stand : Stands pairs_base (pair_settings settings) pairs files
  pub log : HasEvents settings.buckets (files crawl_file) (events_of events)
