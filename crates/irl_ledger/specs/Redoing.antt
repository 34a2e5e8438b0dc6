-- Doing events of a log again, over the books of the bays.
use Rattle.std.specs.Prelude.{◌≡◌, ◌⊎◌, ℕ, List, [], ◌∷◌, ◌++◌, map, is_some, true, Option, None, Result, IfOk, OnOk, IsErrOf, IsErr}
use Rattle.std.specs.Option.{ForSome}
use Rattle.irl_base.specs.declared.fault.Fault.{Fault}
use Rattle.irl_base.specs.declared.fault.Fault.TheVariants.{Damaged, Failed, Full}
use Rattle.irl_offer.specs.declared.place.Place.{Place}
use Rattle.irl_offer.specs.declared.settings.Settings.{Settings}
use Rattle.irl_model.specs.Book.{Book}
use Rattle.irl_events.specs.Events.{Event, Begin, Pairs, Pass, Robots, Settle, Happened}
use Rattle.irl_events.specs.Legal.{broken}
use Rattle.irl_beast.specs.declared.item.Item.{Item}
use Rattle.irl_disk.specs.Disk.{Files}
use Rattle.irl_disk.specs.Effects.{OnlyReads}
use Rattle.irl_disk.specs.Images.{Told}
use Rattle.irl_core.specs.States.{begun_with}
use Rattle.irl_bay.specs.Cuts.{AreJudgedAt, IsSpoiltManifest}
use Rattle.irl_bay.specs.Drum.{Drum}
use Rattle.irl_bay.specs.Holding.{Holds, IsLong}
use Rattle.irl_bay.specs.JudgedSpoilt.{IsJudgedFile, IsJudgedSpoiltAt}
use Rattle.irl_frontier.specs.Frontier.{after_other, after_pass, places_for}
use Rattle.irl_head.specs.StoreFiles.{crawl_file, urls_base}
use Rattle.irl_ledger.specs.declared.ledger.Ledger.{Ledger}
use Rattle.irl_ledger.specs.declared.open.JudgedCounts.{JudgedCounts}
use Rattle.irl_ledger.specs.Crawling.{IsCrawlState}
use Rattle.irl_ledger.specs.Holding.{FitsBays, IsFrontierOf}
use Rattle.irl_ledger.specs.Reading.{IsStrangeTextAt}
use Rattle.irl_ledger.specs.Opening.{AreRising, HaveHappened, IsCounted, IsDone, IsFirstRefused, IsRefused, IsWithinBays}

-- ---- what is known meanwhile
-- Whatever a store tells: no number of the tables passes what the bays count, and the pairs that were told are those of
-- the last Pairs.
pub record IsRedone (urls : Drum) (ledger : Ledger) : Type 0 where
  pub fits : FitsBays urls ledger.pairs ledger.frontier
  pub told : ledger.frontier.told ≡ ledger.frontier.progress.pairs
  pub begun : ledger.frontier.progress.begun ≡ is_some ledger.suffixes

-- The bays are open, and an event may be done again beside them.
pub record MayRedo (urls : Drum) (ledger : Ledger) (told : Option Files) : Type 0 where
  pub sound : urls.is_sound ≡ true
  pub base : urls.base ≡ urls_base
  pub long : ForSome told (λ files. IsLong urls files)
  pub pairs_sound : ledger.pairs.is_sound ≡ true
  pub pairs_long : ForSome told (λ files. IsLong ledger.pairs files)
  pub redone : IsRedone urls ledger

-- what was read of the manifests: how many offers were judged at each cut of these books
abbrev pub IsKnownBy : JudgedCounts → Book → Book → Type 0
IsKnownBy counts u p = AreJudgedAt u counts.urls.items × AreJudgedAt p counts.pairs.items

-- The bays hold the books of a crawl, of whose events the first were done again, and this is the next.
pub record IsNextOf (images : Files → Type 0) (urls : Drum) (ledger : Ledger) (settings : Settings) (u p : Book)
    (first more : List Happened) (event : Event) (places : List Place) : Type 0 where
  pub urls_hold : Holds images urls u
  pub pairs_hold : Holds images ledger.pairs p
  pub state : IsCrawlState settings u p (first ++ (event, places) ∷ more)
  pub tables : IsFrontierOf settings u p first ledger.frontier
  pub suffixes : ledger.suffixes ≡ begun_with first

-- the tables are those of the crawl's first events and this one
pub record HasNext (ledger : Ledger) (settings : Settings) (u p : Book) (first : List Happened) (event : Event)
    (places : List Place) : Type 0 where
  pub tables : IsFrontierOf settings u p (first ++ (event, places) ∷ []) ledger.frontier
  pub suffixes : ledger.suffixes ≡ begun_with (first ++ (event, places) ∷ [])

-- what is read
abbrev pub IsRedoneFile : Drum → Drum → ℕ → Type 0
IsRedoneFile urls pairs f = IsJudgedFile urls f ⊎ IsJudgedFile pairs f

-- ---- one event
-- An event whose record's gate stands at this place is done again, by the answer.
pub record Redoes (result : Result Unit Fault) (at : ℕ) (event : Event) (urls : Drum) (old new : Ledger)
    (before after : Told) : Type 0 where
  pub pairs : new.pairs ≡ old.pairs
  pub log : new.log ≡ old.log
  pub keeps : OnOk result (IsRedone urls new)
  -- it breaks no rule by its places, and no number of it is above the bays'
  pub legal : OnOk result (IsDone urls old.pairs event old.frontier new.frontier)
  -- where the crawl goes on with it, the tables are those with it, and no damage is named
  pub tables : OnOk result (ForSome before.files (λ _. (settings : Settings) (u p : Book) (first more : List Happened)
      (places : List Place) → IsNextOf before.images urls old settings u p first more event places
      → HasNext new settings u p first event places))
  pub whole : (f place : ℕ) → IsErrOf result (Damaged f place) → ForSome before.files (λ _. (settings : Settings)
      (u p : Book) (first more : List Happened) (places : List Place)
      → IsNextOf before.images urls old settings u p first more event places → ⊥)
  -- damage is named where it is
  pub spoilt : (f place : ℕ) → IsErrOf result (Damaged f place) → ((f ≡ crawl_file) × (place ≡ at)
      × IsRefused old.frontier event (IsWithinBays urls old.pairs event))
      ⊎ ForSome before.files (λ files. IsJudgedSpoiltAt urls files f place
      ⊎ IsStrangeTextAt before.images urls f place ⊎ IsJudgedSpoiltAt old.pairs files f place)
  pub full : (n : ℕ) → IsErrOf result (Full n) → ⊥
  pub reads : OnlyReads (IsRedoneFile urls old.pairs) (IsErrOf result Failed) before after

-- The same, beside these counts: its numbers are among them, and no damage is named of books that they are of.
pub record RedoesBy (counts : JudgedCounts) (result : Result Unit Fault) (at : ℕ) (event : Event) (urls : Drum)
    (old new : Ledger) (before after : Told) : Type 0 where
  pub pairs : new.pairs ≡ old.pairs
  pub log : new.log ≡ old.log
  pub keeps : OnOk result (IsRedone urls new)
  pub legal : OnOk result (IsDone urls old.pairs event old.frontier new.frontier)
  pub counted : OnOk result (IsCounted counts.urls.items counts.pairs.items event)
  pub tables : OnOk result (ForSome before.files (λ _. (settings : Settings) (u p : Book) (first more : List Happened)
      (places : List Place) → IsNextOf before.images urls old settings u p first more event places
      → HasNext new settings u p first event places))
  pub whole : (f place : ℕ) → IsErrOf result (Damaged f place) → ForSome before.files (λ _. (settings : Settings)
      (u p : Book) (first more : List Happened) (places : List Place)
      → IsNextOf before.images urls old settings u p first more event places → IsKnownBy counts u p → ⊥)
  pub spoilt : (f place : ℕ) → IsErrOf result (Damaged f place) → ((f ≡ crawl_file) × (place ≡ at)
      × IsRefused old.frontier event (AreRising counts.pairs.items
      × IsCounted counts.urls.items counts.pairs.items event × IsWithinBays urls old.pairs event))
      ⊎ ForSome before.files (λ files. IsJudgedSpoiltAt urls files f place
      ⊎ IsStrangeTextAt before.images urls f place ⊎ IsJudgedSpoiltAt old.pairs files f place)
  pub full : (n : ℕ) → IsErrOf result (Full n) → ⊥
  pub reads : OnlyReads (IsRedoneFile urls old.pairs) (IsErrOf result Failed) before after

-- ---- all events
-- the events that were kept of some, of which notes weren't
abbrev pub kept_events : List Happened → List Event
kept_events [] = []
kept_events ((Begin suffixes, places) ∷ more) = Begin suffixes ∷ kept_events more
kept_events ((Pairs cuts judged pairs, places) ∷ more) = Pairs cuts judged pairs ∷ kept_events more
kept_events ((Pass judged, places) ∷ more) = Pass judged ∷ kept_events more
kept_events ((Robots note, places) ∷ more) = kept_events more
kept_events ((Settle fronts outcomes, places) ∷ more) = Settle fronts outcomes ∷ kept_events more

-- The bays hold the books of a crawl, of whose events the first were done again, and the others weren't.
pub record IsCrawlOf (images : Files → Type 0) (urls : Drum) (ledger : Ledger) (settings : Settings) (u p : Book)
    (first more : List Happened) : Type 0 where
  pub urls_hold : Holds images urls u
  pub pairs_hold : Holds images ledger.pairs p
  pub state : IsCrawlState settings u p (first ++ more)
  pub tables : IsFrontierOf settings u p first ledger.frontier
  pub suffixes : ledger.suffixes ≡ begun_with first

-- the tables are those of all its events
pub record HasAll (ledger : Ledger) (settings : Settings) (u p : Book) (events : List Happened) : Type 0 where
  pub tables : IsFrontierOf settings u p events ledger.frontier
  pub suffixes : ledger.suffixes ≡ begun_with events

-- Events that were kept, each with its place, are done again, by the answer.
pub record RedoesAll (counts : JudgedCounts) (result : Result Unit Fault) (events : List (ℕ × Event))
    (urls : Drum) (old new : Ledger) (before after : Told) : Type 0 where
  pub pairs : new.pairs ≡ old.pairs
  pub log : new.log ≡ old.log
  pub keeps : OnOk result (IsRedone urls new)
  -- none breaks a rule or has other numbers
  pub legal : OnOk result (HaveHappened counts.urls.items counts.pairs.items urls old.pairs (map (λ e. e.1) events)
      old.frontier.progress new.frontier.progress)
  -- where a crawl goes on with just these, the tables are then those of all its events, and no damage is named
  pub tables : OnOk result (ForSome before.files (λ _. (settings : Settings) (u p : Book) (first more : List Happened)
      → IsCrawlOf before.images urls old settings u p first more → IsKnownBy counts u p → kept_events more
      ≡ map (λ e. e.1) events → HasAll new settings u p (first ++ more)))
  pub whole : (f place : ℕ) → IsErrOf result (Damaged f place) → ForSome before.files (λ _. (settings : Settings)
      (u p : Book) (first more : List Happened) → IsCrawlOf before.images urls old settings u p first more
      → IsKnownBy counts u p → kept_events more ≡ map (λ e. e.1) events → ⊥)
  -- damage is named where it is
  pub spoilt : (f place : ℕ) → IsErrOf result (Damaged f place) → ((f ≡ crawl_file)
      × IsFirstRefused counts.urls.items counts.pairs.items urls old.pairs events old.frontier.progress place)
      ⊎ ForSome before.files (λ files. IsJudgedSpoiltAt urls files f place
      ⊎ IsStrangeTextAt before.images urls f place ⊎ IsJudgedSpoiltAt old.pairs files f place)
  pub full : (n : ℕ) → IsErrOf result (Full n) → ⊥
  pub reads : OnlyReads (IsRedoneFile urls old.pairs) (IsErrOf result Failed) before after

-- An event that is no pass is done again, by the answer: the tables alone change.
pub record RedoesOther (result : Result Unit Fault) (at : ℕ) (event : Event) (old new : Ledger) : Type 0 where
  pub done : OnOk result (new ≡ record old { frontier = after_other old.frontier event })
  -- it breaks no rule
  pub legal : OnOk result (broken old.frontier.progress event [] ≡ None)
  pub kept : IsErr result → new ≡ old
  -- damage is named where an event stands that does
  pub damaged : (f place : ℕ) → IsErrOf result (Damaged f place) → (f ≡ crawl_file) × (place ≡ at)
      × (broken old.frontier.progress event [] ≡ None → ⊥)
  pub full : (n : ℕ) → IsErrOf result (Full n) → ⊥
  pub failed : IsErrOf result Failed → ⊥

-- A pass that reads these fresh items, where the pairs that were told lead to these domains, likewise.
pub record RedoesReading (result : Result Unit Fault) (at judged : ℕ) (fresh : List Item) (adds : List (List ℕ))
    (old new : Ledger) : Type 0 where
  pub done : OnOk result (new ≡ record old { frontier = after_pass adds old.frontier judged fresh })
  pub legal : OnOk result (broken old.frontier.progress (Pass judged) (places_for adds old.frontier fresh) ≡ None)
  pub kept : IsErr result → new ≡ old
  pub damaged : (f place : ℕ) → IsErrOf result (Damaged f place) → (f ≡ crawl_file) × (place ≡ at)
      × (broken old.frontier.progress (Pass judged) (places_for adds old.frontier fresh) ≡ None → ⊥)
  pub full : (n : ℕ) → IsErrOf result (Full n) → ⊥
  pub failed : IsErrOf result Failed → ⊥

-- ---- the manifests
-- How many offers were judged at each cut of both bays is read, by the answer.
pub record ReadsCounts (result : Result JudgedCounts Fault) (urls pairs : Drum) (before after : Told) : Type 0 where
  pub value : IfOk result (λ counts. ForSome before.files (λ _. (u p : Book) → Holds before.images urls u
      → Holds before.images pairs p → IsKnownBy counts u p))
  -- damage is named where it is, and never over files that stand for books
  pub spoilt : (f at : ℕ) → IsErrOf result (Damaged f at) → ForSome before.files (λ files.
      ((f ≡ urls.manifest.file) × IsSpoiltManifest urls files at)
      ⊎ ((f ≡ pairs.manifest.file) × IsSpoiltManifest pairs files at))
  pub whole : (f at : ℕ) → IsErrOf result (Damaged f at) → ForSome before.files (λ _. (u p : Book)
      → Holds before.images urls u → Holds before.images pairs p → ⊥)
  pub full : (n : ℕ) → IsErrOf result (Full n) → ⊥
  pub reads : OnlyReads (λ f. (f ≡ urls.manifest.file) ⊎ (f ≡ pairs.manifest.file)) (IsErrOf result Failed) before after
