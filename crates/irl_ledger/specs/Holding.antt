-- An open ledger holds a crawl's pairs and events: what it keeps in memory is theirs, and each joint image that a stop
-- now may leave has them.
use Rattle.std.specs.Prelude.{◌≡◌, ℕ, ◌<◌, ◌≤◌, nat_eq, List, [], map, find, length, slice_index, is_some, unwrap_or, true, Option, Some}
use Rattle.std.specs.List.{AllByRecursion}
use Rattle.std.specs.Option.{ForSome}
use Rattle.irl_offer.specs.Tuple.{Tuple}
use Rattle.irl_offer.specs.declared.settings.Settings.{Settings}
use Rattle.irl_star.specs.Degrees.{Counts}
use Rattle.irl_beast.specs.declared.item.Item.{Item}
use Rattle.irl_model.specs.Book.{Book, uniques}
use Rattle.irl_events.specs.Events.{Happened, progress}
use Rattle.irl_frontier.specs.Frontier.{Frontier}
use Rattle.irl_core.specs.States.{begun_with, uniques_within}
use Rattle.irl_disk.specs.Disk.{Files}
use Rattle.irl_bay.specs.Drum.{Drum, IsDrum, durable_at}
use Rattle.irl_bay.specs.Holding.{Holds, IsLong}
use Rattle.irl_head.specs.StoreFiles.{crawl_file, urls_base, pairs_base}
use Rattle.irl_journal.specs.Format.{records_text}
use Rattle.irl_log.specs.Log.{HoldsLog}
use Rattle.irl_log.specs.Spelling.{log_records}
use Rattle.irl_ledger.specs.declared.ledger.Ledger.{Ledger}
use Rattle.irl_ledger.specs.Crawling.{domain_of, events_of, pair_settings}
use Rattle.irl_ledger.specs.Noting.{AreWithin, note_places}

-- ---- the tables
-- the pay-level domain of a page of a crawl with these events
abbrev pub domain_by : List Happened → List ℕ → List ℕ
domain_by events = domain_of (unwrap_or (begun_with events) [])

-- an item is that of one of the URLs, with its domain
pub record IsItemOf (domain : List ℕ → List ℕ) (urls : Book) (item : Item) : Type 0 where
  pub url : ℕ × Tuple
  pub found : find (λ p. nat_eq p.0 item.number) (uniques urls) ≡ Some url
  pub pld : item.pld ≡ domain url.1.aux

-- the domains that the first so many judged pairs lead to, each once for each domain that links to it
abbrev pub domains_told : ℕ → Book → List (List ℕ)
domains_told count pairs = map (λ p. p.1.aux) (uniques_within 0 count pairs)

-- The tables are those of the events, the URLs and the pairs.
pub record IsFrontierOf (settings : Settings) (urls pairs : Book) (events : List Happened) (x : Frontier) : Type 0 where
  pub settings_are : x.settings ≡ settings
  pub progress_is : x.progress ≡ progress settings.queues settings.buckets events
  -- each URL waits with its domain
  pub items : AllByRecursion (λ list. AllByRecursion (IsItemOf (domain_by events) urls) list) x.waiting.lists
  -- and the degrees are those of the judged pairs that were told
  pub degrees : Counts x.degrees (domains_told x.told pairs)

-- ---- a ledger
-- Each of its parts is open with what the crawl has, in its files.
pub record HoldsLedger (images : Files → Type 0) (settings : Settings) (ledger : Ledger) (urls pairs : Book)
    (events : List Happened) : Type 0 where
  pub pairs_hold : Holds images ledger.pairs pairs
  pub log : HoldsLog images ledger.log (events_of events)
  pub frontier : IsFrontierOf settings urls pairs events ledger.frontier
  pub suffixes : ledger.suffixes ≡ begun_with events
  -- the log ends behind its events, and of each host the place of the last note is known
  pub log_ends : ledger.log.journal.end ≡ length (records_text (log_records (events_of events)))
  pub notes : ledger.notes ≡ note_places 0 (events_of events)

-- no number of the tables passes what the bays of URLs and of pairs count
pub record FitsBays (urls pairs : Drum) (x : Frontier) : Type 0 where
  pub settings : x.settings ≡ urls.settings
  -- of the last Pairs, the last Pass and the last Settle
  pub cuts : x.progress.cuts ≤ urls.cuts
  pub sent : x.progress.sent ≤ urls.last.judged
  pub read : x.progress.read ≤ x.progress.sent
  pub fronts : (b : ℕ) → b < urls.settings.buckets → slice_index x.progress.fronts b ≤ durable_at urls b
  -- the pairs that were told are judged, those of the last Pairs among them
  pub pairs_sent : x.progress.pairs ≤ x.told
  pub told : x.told ≤ pairs.last.judged

-- What each open ledger keeps beside an open bay of URLs, over files that are told as these: which files are its
-- parts', and that each is at least as long as the last call left it.
pub record IsOpenLedger (urls : Drum) (ledger : Ledger) (told : Option Files) : Type 0 where
  pub urls_at : urls.base ≡ urls_base
  pub drum : IsDrum ledger.pairs
  pub base : ledger.pairs.base ≡ pairs_base
  pub settings : ledger.pairs.settings ≡ pair_settings urls.settings
  pub file : ledger.log.journal.file ≡ crawl_file
  pub buckets : ledger.log.buckets ≡ urls.settings.buckets
  pub long : ledger.pairs.is_sound ≡ true → ForSome told (IsLong ledger.pairs)
  pub log_long : ledger.log.journal.is_sound ≡ true
      → ForSome told (λ files. ledger.log.journal.end < length (files crawl_file))
  pub fits : FitsBays urls ledger.pairs ledger.frontier
  -- a crawl that has begun has its suffixes
  pub begun : ledger.frontier.progress.begun ≡ is_some ledger.suffixes
  -- each note that is known stands within the log
  pub noted : AreWithin ledger.log.journal.end ledger.notes

-- no call failed
abbrev pub IsSoundLedger : Ledger → Type 0
IsSoundLedger ledger = (ledger.pairs.is_sound ≡ true) × (ledger.log.journal.is_sound ≡ true)
