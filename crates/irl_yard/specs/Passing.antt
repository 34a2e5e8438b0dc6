-- A pass of an open store, what is then to be fetched, and what becomes of each URL.
use Rattle.std.specs.Prelude.{◌≡◌, ◌⊎◌, ◌-◌, ◌^◌, ℕ, List, [], map, length, min, sum, true, Option, None, Some, Result, IfOk, OnOk, OnErr, IsErrOf, ⊤}
use Rattle.std.specs.List.{AllByRecursion}
use Rattle.std.specs.Option.{ForSome}
use Rattle.irl_base.specs.declared.fault.Fault.{Fault}
use Rattle.irl_base.specs.declared.fault.Fault.TheVariants.{Damaged, Failed, Full, Memory}
use Rattle.irl_offer.specs.declared.settings.Settings.{Settings}
use Rattle.irl_key.specs.Key.{key_of}
use Rattle.irl_key.specs.declared.web.Work.{Work}
use Rattle.irl_model.specs.Book.{Book, judged, lengths_of, uniques}
use Rattle.irl_events.specs.Events.{Pass, Progress, progress}
use Rattle.irl_events.specs.State.{State}
use Rattle.irl_fate.specs.Counting.{CountFates}
use Rattle.irl_fate.specs.Fates.{fate_of}
use Rattle.irl_fate.specs.declared.counts.Counts.{Counts}
use Rattle.irl_fate.specs.declared.fate.Fate.{Fate}
use Rattle.irl_fate.specs.declared.fate.Fate.TheVariants.{Fresh}
use Rattle.irl_beast.specs.declared.item.Item.{Item}
use Rattle.irl_core.specs.States.{places_of, url_text}
use Rattle.irl_disk.specs.Disk.{ChangesFile}
use Rattle.irl_disk.specs.Effects.{OnlyChanges, ReadsAndChanges}
use Rattle.irl_disk.specs.Images.{Told, Leaves}
use Rattle.irl_bay.specs.Drum.{Drum}
use Rattle.irl_bay.specs.JudgedSpoilt.{IsJudgedSpoiltAt, IsJudgedFile}
use Rattle.irl_frontier.specs.Frontier.{after_pass}
use Rattle.irl_head.specs.StoreFiles.{crawl_file}
use Rattle.irl_ledger.specs.declared.ledger.Ledger.{Ledger}
use Rattle.irl_ledger.specs.Crawling.{domain_of}
use Rattle.irl_ledger.specs.Holding.{domain_by}
use Rattle.irl_ledger.specs.Passing.{MayPass as LedgerMayPass, fresh_of}
use Rattle.irl_ledger.specs.Reading.{IsStrangeTextAt}
use Rattle.irl_yard.specs.declared.parts.Parts.{Parts}
use Rattle.irl_yard.specs.declared.parts.Rest.{Rest}
use Rattle.irl_yard.specs.declared.parts.Rest.TheVariants.{Plain, Crawl}
use Rattle.irl_yard.specs.Adding.{with_event}
use Rattle.irl_yard.specs.Holding.{HoldsState, HasOneOf}
use Rattle.irl_yard.specs.Standing.{HasState, IsStateOf}

-- ---- the state
-- how far the crawl of a state has come, where the store has these settings
abbrev pub come : Settings → State → Progress
come settings state = progress settings.queues settings.buckets state.events

-- the state after a pass: it reads the next queue and the URLs that the last sent pairs cover and no pass has read, and
-- puts each where the budget says that the links give its domain
abbrev pub with_pass : Settings → State → State
with_pass settings state =
    let x = come settings state in
    with_event (Pass x.sent) (places_of (domain_by state.events) key_of settings state.urls x x.sent) state

-- ---- what is asked
-- a crawl that has begun, whose pairs are sent, and that has nothing left in front
pub record IsDue (urls : Drum) (ledger : Ledger) : Type 0 where
  pub begun : ledger.frontier.progress.begun ≡ true
  pub sent : ledger.frontier.progress.cuts ≡ urls.cuts
  pub front : ledger.frontier.progress.front ≡ []

abbrev pub MayPass : Drum → Rest → Type 0
MayPass urls Plain = ⊥
MayPass urls (Crawl ledger) = IsDue urls ledger

-- and fresh URLs that it may read
abbrev pub MayRead : Drum → Rest → List Item → Type 0
MayRead urls Plain fresh = ⊥
MayRead urls (Crawl ledger) fresh = IsDue urls ledger × LedgerMayPass ledger fresh

-- they are all those of a book that the pass has to read
abbrev pub AreFresh : Rest → List Item → Book → Type 0
AreFresh Plain fresh urls = ⊥
AreFresh (Crawl ledger) fresh urls = (suffixes : List ℕ) → ledger.suffixes ≡ Some suffixes
    → fresh ≡ fresh_of (domain_of suffixes) urls ledger.frontier.progress.read ledger.frontier.progress.sent

-- what an open store has in front
abbrev pub front_in : Rest → List ℕ
front_in Plain = []
front_in (Crawl ledger) = ledger.frontier.progress.front

-- the suffixes that it began with
abbrev pub suffixes_in : Rest → Option (List ℕ)
suffixes_in Plain = None
suffixes_in (Crawl ledger) = ledger.suffixes

-- ---- what is left
-- What a pass that reads these fresh URLs leaves, by its answer.
pub record AddsPass {S : Type 0} (told : S → Told) (result : Result Unit Fault) (fresh : List Item) (was now : Parts)
    (before after : S) : Type 0 where
  -- the store holds the state after the pass, where they are those of the state
  pub holds : OnOk result ((state : State) → HoldsState (told before).images was state
      → AreFresh was.rest fresh state.urls → HoldsState (told after).images now (with_pass was.urls.settings state))
  -- a stop at any moment leaves files that stand for the state, with the pass or without
  pub stops : (state : State) → HoldsState (told before).images was state → AreFresh was.rest fresh state.urls
      → Leaves (told before) (told after) (HasOneOf state (with_pass was.urls.settings state))
  -- the state after the pass keeps the laws of one
  pub legal : (state : State) → HoldsState (told before).images was state → AreFresh was.rest fresh state.urls
      → IsStateOf was.urls.settings (with_pass was.urls.settings state)
  -- whatever the files stand for, only the log's changes, and no byte is read
  pub others : OnlyChanges (ChangesFile crawl_file (λ _ _. ⊤)) (IsErrOf result Failed) (told before) (told after)
  -- want of memory changes nothing, and else only a fault of the store is answered
  pub memory : IsErrOf result Memory → (after ≡ before) × (now ≡ was)
  pub full : (n : ℕ) → IsErrOf result (Full n) → ⊥
  pub damaged : (f at : ℕ) → IsErrOf result (Damaged f at) → ⊥
  pub urls : now.urls ≡ was.urls
  -- the tables are told of the pass exactly after Ok, with budgets by some domains
  pub tables : (old new : Ledger) → was.rest ≡ Crawl old → now.rest ≡ Crawl new
      → OnOk result ((adds : List (List ℕ))
      × (new.frontier ≡ after_pass adds old.frontier old.frontier.progress.sent fresh))
      × OnErr result (new.frontier ≡ old.frontier)
  -- and the suffixes stay
  pub suffixes : suffixes_in now.rest ≡ suffixes_in was.rest

-- What a pass leaves of an open store, by its answer.
pub record PassesState {S : Type 0} (told : S → Told) (result : Result ℕ Fault) (was now : Parts) (before after : S)
    : Type 0 where
  -- the store holds the state after the pass,
  pub holds : OnOk result (ForSome (told before).files (λ _. (state : State) → HoldsState (told before).images was state
      → HoldsState (told after).images now (with_pass was.urls.settings state)))
  -- and the answer is how many URLs are in front
  pub count : IfOk result (λ count. count ≡ length (front_in now.rest))
  pub front : IfOk result (λ count. (state : State) → HoldsState (told after).images now state
      → count ≡ length (come now.urls.settings state).front)
  -- a stop at any moment leaves files that stand for the state, with the pass or without
  pub stops : (state : State) → HoldsState (told before).images was state
      → Leaves (told before) (told after) (HasOneOf state (with_pass was.urls.settings state))
  -- the state after the pass keeps the laws of one, or is never left
  pub legal : ForSome (told before).files (λ _. (state : State) → HoldsState (told before).images was state
      → IsStateOf was.urls.settings (with_pass was.urls.settings state)
      ⊎ Leaves (told before) (told after) (HasState state))
  -- whatever the files stand for, only the log's changes, and only judged URLs are read
  pub others : ReadsAndChanges (IsJudgedFile was.urls) (ChangesFile crawl_file (λ _ _. ⊤)) (IsErrOf result Failed)
      (told before) (told after)
  -- want of memory and damage leave the state,
  pub memory : IsErrOf result Memory → (state : State) → HoldsState (told before).images was state
      → HoldsState (told after).images now state
  pub damaged : (f at : ℕ) → IsErrOf result (Damaged f at) → (state : State)
      → HoldsState (told before).images was state → HoldsState (told after).images now state
  -- at each moment, so that a stop leaves it too,
  pub still : (IsErrOf result Failed → ⊥) → OnErr result ((state : State) → HoldsState (told before).images was state
      → Leaves (told before) (told after) (HasState state))
  -- and damage is named only where it is, and never where a state is held
  pub spoilt : (f at : ℕ) → IsErrOf result (Damaged f at) → ForSome (told before).files (λ files.
      IsJudgedSpoiltAt was.urls files f at ⊎ IsStrangeTextAt (told before).images was.urls f at)
  pub whole : (f at : ℕ) → IsErrOf result (Damaged f at) → ForSome (told before).files (λ _. (state : State)
      → HoldsState (told before).images was state → ⊥)
  pub full : (n : ℕ) → IsErrOf result (Full n) → ⊥
  pub urls : now.urls ≡ was.urls
  -- the tables are told of the pass exactly after Ok, with budgets by some domains and some fresh URLs
  pub tables : (old new : Ledger) → was.rest ≡ Crawl old → now.rest ≡ Crawl new
      → OnOk result ((adds : List (List ℕ)) × (fresh : List Item)
      × (new.frontier ≡ after_pass adds old.frontier old.frontier.progress.sent fresh))
      × OnErr result (new.frontier ≡ old.frontier)
  -- and the suffixes stay
  pub suffixes : suffixes_in now.rest ≡ suffixes_in was.rest

-- ---- the front
-- pages under the numbers of URLs of a book, each at its text
abbrev pub AreWorks : List Work → Book → Type 0
AreWorks works urls = AllByRecursion (λ work. work.web ≡ url_text urls work.number) works

-- ---- the fates
abbrev pub fate_in : Rest → ℕ → Fate
fate_in Plain number = Fresh
fate_in (Crawl ledger) number = fate_of ledger.frontier.progress number

-- the counts of a state: of its URLs by their fates, of their offers, and of the unique pairs
pub record AreCounts (settings : Settings) (state : State) (counts : Counts) : Type 0 where
  pub fates : CountFates counts (come settings state) (map (λ p. p.0) (uniques state.urls))
  -- no more than the last number of 64 bits is told of offers
  pub offers : counts.offers ≡ min (sum (lengths_of state.urls)) (2 ^ 64 - 1)
  pub judged : counts.judged ≡ length (judged state.urls)
  pub pairs : counts.pairs ≡ length (uniques state.pairs)
