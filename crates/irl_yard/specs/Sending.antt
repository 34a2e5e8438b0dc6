-- Sending the pairs of the links that judged URLs show: what it asks, and what it makes of the state.
use Rattle.std.specs.Prelude.{◌≡◌, ◌⊎◌, ℕ, ◌+◌, ◌<◌, List, [], length, nat_eq, if◌then◌else◌, unwrap_or, true, Some, Result, Ok, Err, OnOk, OnErr, IsErrOf}
use Rattle.std.specs.Option.{ForSome}
use Rattle.irl_base.specs.Faults.{HasCause}
use Rattle.irl_base.specs.declared.fault.Fault.{Fault}
use Rattle.irl_base.specs.declared.fault.Fault.TheVariants.{Damaged, Failed, Full, Memory}
use Rattle.irl_offer.specs.declared.settings.Settings.{Settings}
use Rattle.irl_model.specs.Book.{Book, judged_cut, lengths_of, part}
use Rattle.irl_key.specs.Key.{key_of}
use Rattle.irl_events.specs.Events.{Event, Pairs, progress}
use Rattle.irl_events.specs.Links.{pairs as pairs_of}
use Rattle.irl_events.specs.State.{State}
use Rattle.irl_core.specs.States.{AreSent, begun_with, cut_count, judged_by}
use Rattle.irl_disk.specs.Disk.{Files, ChangesOnly, TellsOnly}
use Rattle.irl_disk.specs.Images.{Told, Leaves, LeavesBy}
use Rattle.irl_layout.specs.BayFiles.{IsFileOf}
use Rattle.irl_bay.specs.JudgedSpoilt.{IsJudgedSpoiltAt}
use Rattle.irl_bay.specs.Spoilt.{IsSpoiltAt}
use Rattle.irl_head.specs.StoreFiles.{crawl_file, pairs_base}
use Rattle.irl_ledger.specs.declared.ledger.Ledger.{Ledger}
use Rattle.irl_ledger.specs.Reading.{IsStrangeTextAt}
use Rattle.irl_bay.specs.Drum.{durable_at}
use Rattle.irl_schedule.specs.Feeding.{list_at}
use Rattle.irl_schedule.specs.Schedule.{AddsUneven, HaveRecords, LeavesUneven, one_more}
use Rattle.irl_ledger.specs.Crawling.{domain_of}
use Rattle.irl_ledger.specs.Sending.{IsAllSent, MayBeSent, new_links}
use Rattle.irl_yard.specs.declared.parts.Parts.{Parts}
use Rattle.irl_yard.specs.declared.parts.Rest.{Rest}
use Rattle.irl_yard.specs.declared.parts.Rest.TheVariants.{Plain, Crawl}
use Rattle.irl_yard.specs.Adding.{with_event}
use Rattle.irl_yard.specs.Leading.{FailsAt, LeadsTo}
use Rattle.irl_yard.specs.Holding.{HasOneOf, HoldsState}
use Rattle.irl_yard.specs.Standing.{HasState, IsStateOf}

-- a crawl that has begun
abbrev pub HasBegun : Rest → Type 0
HasBegun Plain = ⊥
HasBegun (Crawl ledger) = ledger.frontier.progress.begun ≡ true

-- the tables were told each judged pair
abbrev pub HasToldAll : Rest → Type 0
HasToldAll Plain = ⊥
HasToldAll (Crawl ledger) = ledger.frontier.told ≡ ledger.pairs.last.judged

-- the pairs of all cuts of the URLs are sent, by what is kept in memory
abbrev pub HasSentCuts : Parts → Type 0
HasSentCuts parts = (ledger : Ledger) → parts.rest ≡ Crawl ledger → ledger.frontier.progress.cuts ≡ parts.urls.cuts

-- Of what is kept in memory of a crawl, the suffixes, what is in front and whether it has begun stay: no pairs change
-- them.
pub record KeepsCrawl (old new : Ledger) : Type 0 where
  pub suffixes : new.suffixes ≡ old.suffixes
  pub front : new.frontier.progress.front ≡ old.frontier.progress.front
  pub begun : new.frontier.progress.begun ≡ old.frontier.progress.begun

-- an answer of the bay of pairs, whose buckets are counted behind those of the URLs
abbrev pub counted_behind : Result Unit Fault → Result Unit Fault
counted_behind (Ok value) = Ok value
counted_behind (Err Failed) = Err Failed
counted_behind (Err Memory) = Err Memory
counted_behind (Err (Full b)) = Err (Full (64 + b))
counted_behind (Err (Damaged f at)) = Err (Damaged f at)

-- a state with another book of pairs
abbrev pub with_pairs : Book → State → State
with_pairs book state = record state { pairs = book }

-- the book of pairs may have some of the new links behind its lists, or all of them, judged
abbrev pub MayHaveSent : Settings → State → Book → Type 0
MayHaveSent settings state book = MayBeSent settings state.urls state.pairs state.events book

abbrev pub HasSentAll : Settings → State → Book → Type 0
HasSentAll settings state book = IsAllSent settings state.urls state.pairs state.events book

-- the new links of a bucket
abbrev pub links_in : Settings → State → ℕ → ℕ
links_in settings state b = length (list_at state.pairs b)
    + length (part settings.buckets b (new_links settings state.urls state.events))

-- the unique ones of the judged pairs are, by key and domain, the first of each key of all links
abbrev pub ArePairsSent : State → Type 0
ArePairsSent state =
    AreSent (pairs_of (domain_of (unwrap_or (begun_with state.events) [])) key_of state.urls (cut_count state.urls))
    state.urls state.pairs (cut_count state.urls) (judged_by state.urls (cut_count state.urls))
    (judged_by state.pairs (cut_count state.pairs))

-- the event that the pairs of all cuts are sent
abbrev pub sent_of : State → Event
sent_of state = Pairs (cut_count state.urls) (judged_by state.urls (cut_count state.urls))
    (judged_by state.pairs (cut_count state.pairs))

-- the state with that event, but where the pairs of as many cuts were sent before
abbrev pub sent_state : Settings → State → State
sent_state settings state =
    if nat_eq (progress settings.queues settings.buckets state.events).cuts (cut_count state.urls) then state
    else with_event (sent_of state) [] state

-- a state with such a book
abbrev pub IsSomeSent : Settings → State → State → Type 0
IsSomeSent settings state later = (book : Book) × MayHaveSent settings state book × (later ≡ with_pairs book state)

-- or one with a book that has all of them, and with the event
abbrev pub IsOnTheWay : Settings → State → State → Type 0
IsOnTheWay settings state later = IsSomeSent settings state later
    ⊎ ((book : Book) × HasSentAll settings state book × (later ≡ sent_state settings (with_pairs book state)))

-- a joint image stands for the state with such a book
abbrev pub HasSomeSent : Settings → State → Files → Type 0
HasSomeSent settings state image = (book : Book) × MayHaveSent settings state book × HasState (with_pairs book state)
    image

-- the files that sending changes: those of the pairs, and the log
abbrev pub IsSentFile : ℕ → ℕ → Type 0
IsSentFile buckets f = IsFileOf pairs_base buckets f ⊎ (f ≡ crawl_file)

-- only some files change, as it is told and as a stop at any moment leaves it
pub record OnlyThese (among : ℕ → Type 0) (before after : Told) : Type 0 where
  pub told : TellsOnly among before.files after.files
  pub stops : LeavesBy (ChangesOnly among) before after

-- damage of what is read is named where it is: of the pairs,
abbrev pub IsSpoiltPair : Parts → Told → ℕ → ℕ → Type 0
IsSpoiltPair now after f at = (ledger : Ledger) × (now.rest ≡ Crawl ledger)
    × ForSome after.files (λ files. IsSpoiltAt ledger.pairs files f at ⊎ IsJudgedSpoiltAt ledger.pairs files f at)

-- or of the URLs before
abbrev pub IsSpoiltFor : Parts → Parts → Told → Told → ℕ → ℕ → Type 0
IsSpoiltFor was now before after f at =
    ForSome before.files (λ files. IsJudgedSpoiltAt was.urls files f at ⊎ IsStrangeTextAt before.images was.urls f at)
    ⊎ IsSpoiltPair now after f at

-- the bucket of pairs, counted behind those of the URLs, takes no whole array more
abbrev pub LacksRoom : Result Unit Fault → Parts → Type 0
LacksRoom result now = (b : ℕ) (ledger : Ledger) → IsErrOf result (Full (64 + b)) → now.rest ≡ Crawl ledger
    → ledger.pairs.settings.cap < durable_at ledger.pairs b + ledger.pairs.settings.array

-- Where the live journals of the pairs had these records, each has at most one uneven record more then, unless the
-- store failed, and so it had at any moment.
pub record AddsPairRecords (failed : Type 0) (was now : Parts) (before after : Told) : Type 0 where
  pub records : (failed → ⊥) → (old new : Ledger) → was.rest ≡ Crawl old → now.rest ≡ Crawl new
      → (first : ℕ → List (List ℕ)) → HaveRecords before.images old.pairs first → (later : ℕ → List (List ℕ))
      × HaveRecords after.images new.pairs later
      × AddsUneven one_more old.pairs.settings.buckets old.pairs.settings.array first later
  pub stops : (old : Ledger) → was.rest ≡ Crawl old → (first : ℕ → List (List ℕ))
      → HaveRecords before.images old.pairs first → Leaves before after (LeavesUneven one_more old.pairs first)

-- Offering the bay of pairs the new links, by the answer.
pub record OffersState (result : Result Unit Fault) (was now : Parts) (before after : Told) : Type 0 where
  -- it leads to the state with a longer book of pairs,
  pub holds : (IsErrOf result Failed → ⊥) → ForSome before.files (λ _. (state : State) → HoldsState before.images was
      state → (book : Book) × MayHaveSent was.urls.settings state book
      × LeadsTo state (with_pairs book state) now before after)
  -- which has all of them where it isn't refused
  pub all : OnOk result (ForSome before.files (λ _. (state : State) → HoldsState before.images was state → (book : Book)
      × HasSentAll was.urls.settings state book × LeadsTo state (with_pairs book state) now before after
      × ArePairsSent (with_pairs book state)))
  -- where the store fails a state with such a book is left
  pub failed : IsErrOf result Failed → ForSome before.files (λ _. (state : State) → HoldsState before.images was state
      → FailsAt (IsSomeSent was.urls.settings state) state before after)
  -- a stop at any moment leaves files that stand for the state with some of them
  pub stops : ForSome before.files (λ _. (state : State) → HoldsState before.images was state
      → Leaves before after (HasSomeSent was.urls.settings state))
  -- a bucket of the pairs, counted behind those of the URLs, can't have all of them
  pub full : (n : ℕ) → IsErrOf result (Full n) → ForSome before.files (λ _. (state : State)
      → HoldsState before.images was state → (b : ℕ) × (n ≡ 64 + b) × (b < was.urls.settings.buckets)
      × (was.urls.settings.cap < links_in was.urls.settings state b))
  pub room : LacksRoom result now
  -- its journals are of whole arrays, but for one record a bucket
  pub records : ForSome before.files (λ _. (state : State) → HoldsState before.images was state
      → AddsPairRecords (IsErrOf result Failed) was now before after)
  -- damage is never named where a state is held
  pub damaged : (f at : ℕ) → IsErrOf result (Damaged f at) → ForSome before.files (λ _. (state : State)
      → HoldsState before.images was state → ⊥)
  pub cause : HasCause (IsErrOf result Failed) before.faults after.faults
  pub urls : now.urls ≡ was.urls
  pub spoilt : (f at : ℕ) → IsErrOf result (Damaged f at) → IsSpoiltFor was now before after f at
  pub others : OnlyThese (IsFileOf pairs_base was.urls.settings.buckets) before after
  -- what is told is told on
  pub told : (files : Files) → before.files ≡ Some files → (later : Files) × (after.files ≡ Some later)
  -- what is kept in memory beside the bay of pairs stays
  pub tables : (old new : Ledger) → was.rest ≡ Crawl old → now.rest ≡ Crawl new → KeepsCrawl old new

-- Telling the tables the judged pairs, by the answer: the state stays.
pub record TellsState (result : Result Unit Fault) (was now : Parts) (before after : Told) : Type 0 where
  pub holds : ForSome before.files (λ _. (state : State) → HoldsState before.images was state
      → HoldsState after.images now state)
  pub stops : ForSome before.files (λ _. (state : State) → HoldsState before.images was state
      → Leaves before after (HasState state))
  pub full : (n : ℕ) → IsErrOf result (Full n) → ⊥
  pub damaged : (f at : ℕ) → IsErrOf result (Damaged f at) → ForSome before.files (λ _. (state : State)
      → HoldsState before.images was state → ⊥)
  pub cause : HasCause (IsErrOf result Failed) before.faults after.faults
  pub urls : now.urls ≡ was.urls
  pub spoilt : (f at : ℕ) → IsErrOf result (Damaged f at) → IsSpoiltPair now after f at
  -- no file changes
  pub others : OnlyThese (λ f. ⊥) before after
  pub told : (files : Files) → before.files ≡ Some files → after.files ≡ Some files
  -- and what is kept in memory stays, but for the degrees
  pub tables : (old new : Ledger) → was.rest ≡ Crawl old → now.rest ≡ Crawl new → KeepsCrawl old new
  pub pairs : (old new : Ledger) → was.rest ≡ Crawl old → now.rest ≡ Crawl new → new.pairs ≡ old.pairs

-- Adding the event that the pairs are sent, by the answer.
pub record LogsPairs {S : Type 0} (told : S → Told) (result : Result Unit Fault) (was now : Parts)
    (before after : S) : Type 0 where
  pub holds : OnOk result ((state : State) → HoldsState (told before).images was state → ArePairsSent state
      → HoldsState (told after).images now (sent_state was.urls.settings state))
  pub stops : (state : State) → HoldsState (told before).images was state → ArePairsSent state
      → Leaves (told before) (told after) (HasOneOf state (sent_state was.urls.settings state))
  -- the state with the event keeps the laws of one
  pub legal : (state : State) → HoldsState (told before).images was state → ArePairsSent state
      → IsStateOf was.urls.settings (sent_state was.urls.settings state)
  -- want of memory changes nothing, and else only a fault of the store is answered
  pub memory : IsErrOf result Memory → (after ≡ before) × (now ≡ was)
  pub full : (n : ℕ) → IsErrOf result (Full n) → ⊥
  pub damaged : (f at : ℕ) → IsErrOf result (Damaged f at) → ⊥
  pub cause : HasCause (IsErrOf result Failed) (told before).faults (told after).faults
  pub others : OnlyThese (λ f. f ≡ crawl_file) (told before) (told after)
  pub urls : now.urls ≡ was.urls
  -- the tables are told of the event alone, and after Ok they know of all cuts that their pairs are sent
  pub tables : (old new : Ledger) → was.rest ≡ Crawl old → now.rest ≡ Crawl new → KeepsCrawl old new
  pub pairs : (old new : Ledger) → was.rest ≡ Crawl old → now.rest ≡ Crawl new → new.pairs ≡ old.pairs
  pub sent : OnOk result (HasSentCuts now)

-- ---- the whole
-- a joint image stands for the state with some of the new links, or with all of them and the event
abbrev pub HasSent : Settings → State → Files → Type 0
HasSent settings state image = (book : Book) × MayHaveSent settings state book × (HasState (with_pairs book state) image
    ⊎ (HasSentAll settings state book × HasState (sent_state settings (with_pairs book state)) image))

-- the pairs of all cuts are sent, and none is pending in their bay
abbrev pub AreSentAlready : Settings → State → Type 0
AreSentAlready settings state =
    ((progress settings.queues settings.buckets state.events).cuts ≡ cut_count state.urls)
    × (judged_cut state.pairs ≡ lengths_of state.pairs)

-- Sending pairs, by the answer.
pub record SendsPairs (result : Result Unit Fault) (was now : Parts) (before after : Told) : Type 0 where
  -- the book of pairs has all new links, judged, and the events say that the pairs of all cuts are sent
  pub done : OnOk result (ForSome before.files (λ _. (state : State) → HoldsState before.images was state
      → (book : Book) × HasSentAll was.urls.settings state book
      × LeadsTo state (sent_state was.urls.settings (with_pairs book state)) now before after))
  -- where it is refused, and not by the store, it may have some, and no event is added
  pub kept : OnErr result ((IsErrOf result Failed → ⊥) → ForSome before.files (λ _. (state : State)
      → HoldsState before.images was state → (book : Book) × MayHaveSent was.urls.settings state book
      × LeadsTo state (with_pairs book state) now before after))
  -- where the store fails a state on the way is left
  pub failed : IsErrOf result Failed → ForSome before.files (λ _. (state : State) → HoldsState before.images was state
      → FailsAt (IsOnTheWay was.urls.settings state) state before after)
  -- a stop at any moment leaves files that stand for the state on the way
  pub stops : ForSome before.files (λ _. (state : State) → HoldsState before.images was state
      → Leaves before after (HasSent was.urls.settings state))
  -- a bucket of the pairs, counted behind those of the URLs, can't have all new links of it
  pub full : (n : ℕ) → IsErrOf result (Full n) → ForSome before.files (λ _. (state : State)
      → HoldsState before.images was state → (b : ℕ) × (n ≡ 64 + b) × (b < was.urls.settings.buckets)
      × (was.urls.settings.cap < links_in was.urls.settings state b))
  pub room : LacksRoom result now
  -- its journals are of whole arrays, but for one record a bucket
  pub records : ForSome before.files (λ _. (state : State) → HoldsState before.images was state
      → AddsPairRecords (IsErrOf result Failed) was now before after)
  -- damage is never named where a state is held
  pub damaged : (f at : ℕ) → IsErrOf result (Damaged f at) → ForSome before.files (λ _. (state : State)
      → HoldsState before.images was state → ⊥)
  -- and is named where it is
  pub spoilt : (f at : ℕ) → IsErrOf result (Damaged f at) → IsSpoiltFor was now before after f at
  -- whatever the files stand for, only those of the pairs and the log change
  pub others : OnlyThese (IsSentFile was.urls.settings.buckets) before after
  -- a fault is answered only where the store's count of them rose
  pub cause : HasCause (IsErrOf result Failed) before.faults after.faults
  pub urls : now.urls ≡ was.urls
  -- whatever is answered, the suffixes, what is in front and that the crawl has begun stay in memory;
  pub tables : (old new : Ledger) → was.rest ≡ Crawl old → now.rest ≡ Crawl new → KeepsCrawl old new
  pub begun : HasBegun now.rest
  -- after Ok it is known there that the pairs of all cuts are sent
  pub sent : OnOk result (HasSentCuts now)

-- Where the pairs of all cuts are sent and none is pending, the state stays, but where the store failed.
abbrev pub StaysSent : Result Unit Fault → Parts → Parts → Told → Told → Type 0
StaysSent result was now before after = (IsErrOf result Failed → ⊥) → ForSome before.files (λ _. (state : State)
    → HoldsState before.images was state → AreSentAlready was.urls.settings state → HoldsState after.images now state)
