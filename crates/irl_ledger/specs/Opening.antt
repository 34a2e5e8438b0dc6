-- Opening a ledger over files that are there, beside the open bay of URLs and the log that was read.
use Rattle.std.specs.Prelude.{◌≡◌, ◌⊎◌, ℕ, ◌-◌, ◌<◌, ◌≤◌, length, slice_index, List, [], ◌∷◌, ◌++◌, map, true, Option, None, Result, IfOk, OnOk, IsErrOf}
use Rattle.std.specs.List.{AllByRecursion}
use Rattle.std.specs.Option.{ForSome}
use Rattle.irl_base.specs.declared.fault.Fault.{Fault}
use Rattle.irl_base.specs.declared.fault.Fault.TheVariants.{Damaged, Failed, Full}
use Rattle.irl_offer.specs.declared.place.Place.{Place}
use Rattle.irl_offer.specs.declared.settings.Settings.{Settings}
use Rattle.irl_model.specs.Book.{Book}
use Rattle.irl_events.specs.Events.{Event, Begin, Pairs, Pass, Robots, Settle, Happened, Progress, after_event, after_events, before_all}
use Rattle.irl_events.specs.Legal.{AreLegalAfter, broken}
use Rattle.irl_star.specs.Degrees.{Counts}
use Rattle.irl_beast.specs.declared.item.Item.{Item}
use Rattle.irl_frontier.specs.Frontier.{Frontier, places_for}
use Rattle.irl_disk.specs.Disk.{Files}
use Rattle.irl_disk.specs.Effects.{ReadsAndChanges}
use Rattle.irl_disk.specs.Images.{Told}
use Rattle.irl_bay.specs.Cuts.{AreJudgedAt, IsSpoiltManifest}
use Rattle.irl_layout.specs.BayFiles.{file_of}
use Rattle.irl_layout.specs.declared.files.BayFile.TheVariants.{Judged, Texts}
use Rattle.irl_bay.specs.Damage.{IsAdopted, IsDamagedAt}
use Rattle.irl_bay.specs.Drum.{Drum, HasNumbers, IsDrum, durable_at}
use Rattle.irl_bay.specs.Holding.{Holds, IsLong}
use Rattle.irl_bay.specs.Making.{IsJournalOf}
use Rattle.irl_bay.specs.JudgedSpoilt.{IsJudgedFile, IsJudgedSpoiltAt}
use Rattle.irl_bay.specs.Standing.{Stands}
use Rattle.irl_head.specs.StoreFiles.{crawl_file, pairs_base, urls_base}
use Rattle.irl_log.specs.Log.{HasEvents, HoldsLog, OpenLog, placed_events}
use Rattle.irl_log.specs.Visiting.{TakesEvents, TookEventsUpTo}
use Rattle.irl_offer.specs.Settings.{AreValid}
use Rattle.irl_ledger.specs.declared.ledger.Ledger.{Ledger}
use Rattle.irl_ledger.specs.Broken.{LogHistory, TakesAlone, blank_history}
use Rattle.irl_ledger.specs.Crawling.{AreCrawlFiles, IsCrawlState, events_of, pair_settings}
use Rattle.irl_ledger.specs.Holding.{HoldsLedger, IsOpenLedger, IsSoundLedger}
use Rattle.irl_ledger.specs.Reading.{IsStrangeTextAt}

-- What is asked: the bay of URLs is open, and so is the log, whose events were taken.
pub record MayOpen (settings : Settings) (urls : Drum) (log : OpenLog) (history : LogHistory) (told : Option Files) :
    Type 0 where
  pub valid : AreValid settings
  pub sound : urls.is_sound ≡ true
  pub base : urls.base ≡ urls_base
  pub settings_are : urls.settings ≡ settings
  pub long : ForSome told (λ files. IsLong urls files)
  pub file : log.journal.file ≡ crawl_file
  pub buckets : log.buckets ≡ settings.buckets
  pub log_sound : log.journal.is_sound ≡ true
  pub log_long : ForSome told (λ files. log.journal.end < length (files crawl_file))
  pub took : TookEventsUpTo TakesAlone (blank_history settings.buckets) history settings.buckets 0 log.journal.end
  pub visited : ForSome told (λ files. (events : List Event) → HasEvents settings.buckets (files crawl_file) events
      → TakesEvents TakesAlone (blank_history settings.buckets) (placed_events 0 events) history)

-- the store's files stand for a crawl, of which the URLs and the log are open
pub record IsCrawlIn (images : Files → Type 0) (settings : Settings) (urls : Drum) (log : OpenLog) (u p : Book)
    (events : List Happened) (files : Files) : Type 0 where
  pub urls_hold : Holds images urls u
  pub log_holds : HoldsLog images log (events_of events)
  pub state : IsCrawlState settings u p events
  pub files_are : AreCrawlFiles settings p events files

-- the files that are read: the journals of the bay of pairs, again the manifest of the URLs, and what is judged of both
abbrev pub IsReopenedFile : Settings → Drum → ℕ → Type 0
IsReopenedFile settings urls f = IsJournalOf pairs_base settings.buckets f ⊎ (f ≡ urls.manifest.file)
    ⊎ IsJudgedFile urls f ⊎ (f ≡ file_of pairs_base 0 Judged) ⊎ (f ≡ file_of pairs_base 0 Texts)

-- what an open bay is read for is spoilt at this place: a record of its manifest, or an entry of what is judged
abbrev pub IsBaySpoiltAt : Drum → Files → ℕ → ℕ → Type 0
IsBaySpoiltAt drum files f at = ((f ≡ drum.manifest.file) × IsSpoiltManifest drum files at)
    ⊎ IsJudgedSpoiltAt drum files f at

-- ---- what events keep that are done again
-- of some numbers, that of a cut is this, and 0 before the first; and this is one of them, or 0
abbrev pub HasCountAt : List ℕ → ℕ → ℕ → Type 0
HasCountAt numbers cut judged = ((cut ≡ 0) × (judged ≡ 0))
    ⊎ ((0 < cut) × (cut ≤ length numbers) × (slice_index numbers (cut - 1) ≡ judged))

abbrev pub HasCount : List ℕ → ℕ → Type 0
HasCount numbers judged = (judged ≡ 0) ⊎ ((i : ℕ) × (i < length numbers) × (slice_index numbers i ≡ judged))

-- they don't fall
abbrev pub AreRising : List ℕ → Type 0
AreRising numbers = (i j : ℕ) → i ≤ j → j < length numbers → slice_index numbers i ≤ slice_index numbers j

-- The numbers of Pairs are those of cuts, where so many offers of the URLs and so many pairs were judged at each.
abbrev pub IsCounted : List ℕ → List ℕ → Event → Type 0
IsCounted of_urls of_pairs (Begin suffixes) = Unit {0}
IsCounted of_urls of_pairs (Pairs cuts judged pairs) = HasCountAt of_urls cuts judged × HasCount of_pairs pairs
IsCounted of_urls of_pairs (Pass judged) = Unit {0}
IsCounted of_urls of_pairs (Robots note) = Unit {0}
IsCounted of_urls of_pairs (Settle fronts outcomes) = Unit {0}

-- The numbers of Pairs are at most those of the bays. A Settle has a front of each bucket, and none is above its list.
abbrev pub IsWithinBays : Drum → Drum → Event → Type 0
IsWithinBays urls pairs_bay (Begin suffixes) = Unit {0}
IsWithinBays urls pairs_bay (Pairs cuts judged pairs) = (cuts ≤ urls.cuts) × (judged ≤ urls.last.judged)
    × (pairs ≤ pairs_bay.last.judged)
IsWithinBays urls pairs_bay (Pass judged) = Unit {0}
IsWithinBays urls pairs_bay (Robots note) = Unit {0}
IsWithinBays urls pairs_bay (Settle fronts outcomes) = (length fronts ≡ urls.settings.buckets)
    × ((b : ℕ) → b < urls.settings.buckets → slice_index fronts b ≤ durable_at urls b)

-- A pass gives the places that the tables give some fresh URLs. No other event gives any.
abbrev pub GivesPlaces : Frontier → Event → List Place → Type 0
GivesPlaces x (Begin suffixes) places = places ≡ []
GivesPlaces x (Pairs cuts judged pairs) places = places ≡ []
GivesPlaces x (Pass judged) places = (adds : List (List ℕ)) × (fresh : List Item) × Counts x.degrees adds
    × (places ≡ places_for adds x fresh)
GivesPlaces x (Robots note) places = places ≡ []
GivesPlaces x (Settle fronts outcomes) places = places ≡ []

-- An event was done over tables, beside the bays.
pub record IsDone (urls pairs : Drum) (event : Event) (old new : Frontier) : Type 0 where
  -- with the places that it gives it breaks no rule
  pub places : List Place
  pub given : GivesPlaces old event places
  pub legal : broken old.progress event places ≡ None
  -- it brings the crawl one event further
  pub progress_is : new.progress ≡ after_event old.progress event places
  pub within : IsWithinBays urls pairs event

-- With places that it gives an event breaks a rule, or lacks what else is to be kept.
abbrev pub IsRefused : Frontier → Event → Type 0 → Type 0
IsRefused x event fits = (places : List Place) × GivesPlaces x event places
    × (broken x.progress event places ≡ None → fits → ⊥)

-- These events bring a crawl from one stand to another, beside the bays and what is counted of them.
pub record HaveHappened (of_urls of_pairs : List ℕ) (urls pairs : Drum) (events : List Event) (old new : Progress) :
    Type 0 where
  -- with places of each, none breaks a rule
  pub happened : List Happened
  pub events_are : events_of happened ≡ events
  pub legal : AreLegalAfter old happened
  pub progress_is : new ≡ after_events old happened
  -- and the numbers of each are those of the bays
  pub counted : AllByRecursion (λ e. IsCounted of_urls of_pairs e × IsWithinBays urls pairs e) events

-- Some events have been done, and the next has its record's gate at this place. It isn't done: with places that it
-- gives it breaks a rule, or its numbers aren't those of the bays, where the pairs' don't fall.
pub record IsFirstRefused (of_urls of_pairs : List ℕ) (urls pairs : Drum) (events : List (ℕ × Event)) (old : Progress)
    (at : ℕ) : Type 0 where
  pub first : List (ℕ × Event)
  pub event : Event
  pub more : List (ℕ × Event)
  pub events_are : events ≡ first ++ (at, event) ∷ more
  pub tables : Frontier
  pub done : HaveHappened of_urls of_pairs urls pairs (map (λ e. e.1) first) old tables.progress
  pub refused : IsRefused tables event (AreRising of_pairs × IsCounted of_urls of_pairs event
      × IsWithinBays urls pairs event)

-- The first event of a crawl's that isn't done stands at this place, beside the bay of URLs and one of pairs.
pub record IsStrangeEventAt (images : Files → Type 0) (urls : Drum) (events : List (ℕ × Event)) (files : Files)
    (at : ℕ) : Type 0 where
  pub pairs : Drum
  -- how many offers of the URLs and how many pairs were judged at each cut: of books, where the files stand for some
  pub of_urls : List ℕ
  pub of_pairs : List ℕ
  pub judged : (u p : Book) → Holds images urls u → Stands pairs_base (pair_settings urls.settings) p files
      → AreJudgedAt u of_urls × AreJudgedAt p of_pairs
  pub numbers : (p : Book) → Stands pairs_base (pair_settings urls.settings) p files → HasNumbers pairs p
  pub first : IsFirstRefused of_urls of_pairs urls pairs events
      (before_all urls.settings.queues urls.settings.buckets) at

-- a bay by the settings of a crawl's pairs
abbrev pub as_pairs : Drum → Drum → Drum
as_pairs urls pairs = record pairs { settings = pair_settings urls.settings }

-- The events that were kept are of no crawl with these books, as is seen at this place: the record of the first of
-- them that isn't done, or what is spoilt of the books.
abbrev pub IsStrangeAt : (Files → Type 0) → Drum → List (ℕ × Event) → Files → ℕ → ℕ → Type 0
IsStrangeAt images urls events files f at = ((f ≡ crawl_file) × IsStrangeEventAt images urls events files at)
    ⊎ IsBaySpoiltAt urls files f at ⊎ IsStrangeTextAt images urls f at
    ⊎ ((pairs : Drum) × IsDrum (as_pairs urls pairs) × (pairs.base ≡ pairs_base)
    × IsBaySpoiltAt (as_pairs urls pairs) files f at)

-- The events that were kept of a log are those of a crawl that has come as far as the tables, beside these bays.
pub record AreOfBooks (settings : Settings) (urls : Drum) (kept : List (ℕ × Event)) (ledger : Ledger) (before : Told) :
    Type 0 where
  -- how many offers of the URLs and how many pairs were judged at each cut: of books, where the files stand for some
  pub of_urls : List ℕ
  pub of_pairs : List ℕ
  pub judged : ForSome before.files (λ files. (u p : Book) → Holds before.images urls u
      → Stands pairs_base (pair_settings settings) p files → AreJudgedAt u of_urls × AreJudgedAt p of_pairs)
  -- from the beginning on none breaks a rule, and the numbers of each are those of the bays
  pub happened : HaveHappened of_urls of_pairs urls ledger.pairs (map (λ e. e.1) kept)
      (before_all settings.queues settings.buckets) ledger.frontier.progress

-- A ledger is opened over files that are there, by the answer, where these events were kept of its log.
pub record OpensLedger (result : Result Ledger Fault) (settings : Settings) (urls : Drum) (log : OpenLog)
    (history : LogHistory) (before after : Told) : Type 0 where
  -- it is open and sound, and of the crawl that the files stand for
  pub opened : IfOk result (λ ledger. IsOpenLedger urls ledger after.files)
  pub sound : IfOk result IsSoundLedger
  pub holds : IfOk result (λ ledger. ForSome before.files (λ files. (u p : Book) (events : List Happened)
      → IsCrawlIn before.images settings urls log u p events files
      → HoldsLedger after.images settings ledger u p events))
  -- it goes on with this log, and whatever the store tells, no event is passed over that breaks a rule of the crawl,
  -- with some places for its passes, or that has other numbers than the bays
  pub same_log : IfOk result (λ ledger. ledger.log ≡ log)
  pub legal : IfOk result (λ ledger. AreOfBooks settings urls history.events ledger before)
  -- the places of notes are those that the log showed
  pub notes_are : IfOk result (λ ledger. ledger.notes ≡ history.notes)
  -- no damage of the bay of pairs is passed over
  pub sane : OnOk result (ForSome before.files (λ files. (f at : ℕ)
      → IsDamagedAt pairs_base (pair_settings settings) files f at → ⊥))
  -- damage is named where it is, and never over files that stand for a crawl
  pub spoilt : (f at : ℕ) → IsErrOf result (Damaged f at) → ForSome before.files (λ files.
      IsDamagedAt pairs_base (pair_settings settings) files f at ⊎ IsStrangeAt before.images urls history.events files f
      at)
  pub whole : (f at : ℕ) → IsErrOf result (Damaged f at) → ForSome before.files (λ files. (u p : Book)
      (events : List Happened) → IsCrawlIn before.images settings urls log u p events files → ⊥)
  pub full : (n : ℕ) → IsErrOf result (Full n) → ⊥
  -- a stop at any moment leaves each file as it was, but that a live journal of the bay of pairs of at most one byte
  -- has at most one
  pub changes : ReadsAndChanges (IsReopenedFile settings urls) (IsAdopted pairs_base settings.buckets)
      (IsErrOf result Failed) before after
