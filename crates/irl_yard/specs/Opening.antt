-- What opening a store finds, and what it refuses.
use Rattle.std.specs.Prelude.{◌≡◌, ◌⊎◌, ℕ, List, [], map, Option, None, Some}
use Rattle.std.specs.Option.{ForSome}
use Rattle.irl_offer.specs.Settings.{settings_of}
use Rattle.irl_offer.specs.declared.settings.Asked.{Asked}
use Rattle.irl_offer.specs.declared.settings.Kind.{Kind}
use Rattle.irl_offer.specs.declared.settings.Kind.TheVariants.{Lines, Tuples, Crawl}
use Rattle.irl_offer.specs.declared.settings.Settings.{Settings}
use Rattle.irl_offer.specs.declared.offer.Rule.TheVariants.{Keep}
use Rattle.irl_model.specs.Book.{Book, blank_book}
use Rattle.irl_events.specs.Events.{Event, before_all}
use Rattle.irl_events.specs.State.{State}
use Rattle.irl_disk.specs.Disk.{Files}
use Rattle.irl_journal.specs.Format.{IsBrokenAt}
use Rattle.irl_layout.specs.BayFiles.{file_of}
use Rattle.irl_layout.specs.declared.files.BayFile.TheVariants.{Judged, Manifest}
use Rattle.irl_bay.specs.Damage.{IsDamagedAt}
use Rattle.irl_bay.specs.Cuts.{AreJudgedAt}
use Rattle.irl_bay.specs.Drum.{Drum}
use Rattle.irl_bay.specs.Standing.{Stands}
use Rattle.irl_head.specs.StoreFiles.{head_file, crawl_file, urls_base, pairs_base}
use Rattle.irl_head.specs.Asking.{Agrees}
use Rattle.irl_head.specs.Opening.{HasHead}
use Rattle.irl_ledger.specs.Crawling.{pair_settings}
use Rattle.irl_ledger.specs.declared.ledger.Ledger.{Ledger}
use Rattle.irl_ledger.specs.Broken.{LogHistory, TakesAlone, blank_history}
use Rattle.irl_ledger.specs.Damage.{IsLogDamagedAt}
use Rattle.irl_ledger.specs.Opening.{HaveHappened}
use Rattle.irl_log.specs.Log.{HasEvents, placed_events}
use Rattle.irl_log.specs.Visiting.{TakesEvents, TookEventsUpTo}
use Rattle.irl_yard.specs.Standing.{HasState}

-- the state of a store that was just made with these settings
abbrev pub new_state : Settings → State
new_state settings = record {
  settings = Some settings;
  urls = blank_book settings.buckets settings.rule;
  pairs = blank_book settings.buckets Keep;
  events = [];
}

-- what a store that stood for a state stands for once it is opened: a store that wasn't made is made
abbrev pub entered_state : Asked → State → State
entered_state asked state = made state.settings
  where
    made : Option Settings → State
    made None = new_state (settings_of asked)
    made (Some settings) = state

-- ---- what is refused
-- what a store of a kind has beside its head and its bay of URLs is damaged by itself at this place
abbrev pub IsRestDamagedAt : Kind → Settings → Files → ℕ → ℕ → Type 0
IsRestDamagedAt Lines settings files f at = ⊥
IsRestDamagedAt Tuples settings files f at = ⊥
IsRestDamagedAt Crawl settings files f at = IsLogDamagedAt settings files f at
    ⊎ IsDamagedAt pairs_base (pair_settings settings) files f at

-- the head's first record is broken, or a part of a store that was made as is asked is damaged by itself
abbrev pub IsStoreDamagedAt : Asked → Files → ℕ → ℕ → Type 0
IsStoreDamagedAt asked files f at =
    ((f ≡ head_file) × (at ≡ 0) × IsBrokenAt (files head_file) 0)
    ⊎ ((settings : Settings) × HasHead settings files × Agrees asked settings
    × (IsDamagedAt urls_base settings files f at ⊎ IsRestDamagedAt settings.kind settings files f at))

-- the manifest of a bay and what is judged of it
abbrev pub IsCountedFile : ℕ → ℕ → Type 0
IsCountedFile base f = (f ≡ file_of base 0 Manifest) ⊎ (f ≡ file_of base 0 Judged)

-- the log, and the files of both bays that its events are compared with
abbrev pub IsComparedFile : ℕ → Type 0
IsComparedFile f = (f ≡ crawl_file) ⊎ IsCountedFile urls_base f ⊎ IsCountedFile pairs_base f

-- The store was made for a crawl as is asked, and stands for no state; what is named is the log or a file that its
-- events are compared with.
pub record HasStrangeEvents (asked : Asked) (files : Files) (f : ℕ) : Type 0 where
  pub settings : Settings
  pub head : HasHead settings files
  pub agrees : Agrees asked settings
  pub kind : settings.kind ≡ Crawl
  pub file : IsComparedFile f
  pub none : (state : State) → HasState state files → ⊥

-- the ground for naming damage at a place
abbrev pub IsDamageAt : Asked → Files → ℕ → ℕ → Type 0
IsDamageAt asked files f at = IsStoreDamagedAt asked files f at ⊎ HasStrangeEvents asked files f

-- ---- what is opened
-- Whatever the store tells, a crawl is open of the events that its log took: with some places for its passes none of
-- them breaks a rule, the numbers of each are those of the bays, and together they bring it where it stands.
pub record IsOfItsLog (told : Option Files) (urls : Drum) (ledger : Ledger) : Type 0 where
  pub history : LogHistory
  -- all events of the file, where files were told as these that have some
  pub visited : ForSome told (λ files. (events : List Event)
      → HasEvents urls.settings.buckets (files crawl_file) events
      → TakesEvents TakesAlone (blank_history urls.settings.buckets) (placed_events 0 events) history)
  pub took : TookEventsUpTo TakesAlone (blank_history urls.settings.buckets) history urls.settings.buckets 0
      ledger.log.journal.end
  -- the places of notes that it knows are those of the log
  pub notes : ledger.notes ≡ history.notes
  -- how many offers of the URLs and how many pairs were judged at each cut: of books, where the files stand for some
  pub of_urls : List ℕ
  pub of_pairs : List ℕ
  pub judged : ForSome told (λ files. HasHead urls.settings files → (u p : Book)
      → Stands urls_base urls.settings u files → Stands pairs_base (pair_settings urls.settings) p files
      → AreJudgedAt u of_urls × AreJudgedAt p of_pairs)
  pub happened : HaveHappened of_urls of_pairs urls ledger.pairs (map (λ e. e.1) history.events)
      (before_all urls.settings.queues urls.settings.buckets) ledger.frontier.progress
