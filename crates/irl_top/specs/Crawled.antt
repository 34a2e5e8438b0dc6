-- What a command that crawls does: it enters a store, reads its input whole, leads the store on by the answers that its
-- fetches are given, and prints the report.
use Rattle.std.specs.Prelude.{◌≡◌, ◌≢◌, ◌⊎◌, ◌↔◌, ℕ, ◌+◌, ◌-◌, ◌<◌, ◌≤◌, Bool, true, false, List, [], ◌++◌, flat_map, length, map, Option, None, Some, Result, Ok, Err}
use Rattle.std.specs.Prelude.{OnOk, OnErr, IsErrOf, unwrap_or, ⊤}
use Rattle.std.specs.List.{Contains}
use Rattle.std.specs.Option.{ForSome}
use Rattle.std.specs.Io.KnownBytes.{Appends}
use Rattle.irl_base.specs.Faults.{HasCause, Rose}
use Rattle.irl_bay.specs.Drum.{IsDrum}
use Rattle.irl_bay.specs.Holding.{IsLong}
use Rattle.irl_core.specs.States.{begun_with}
use Rattle.irl_crawl.specs.Batches.{Batches, besides, turns_since}
use Rattle.irl_crawl.specs.Crawling.{CrawlsWhole, IsPlan, NoneWaits, OnlyCrawls}
use Rattle.irl_crawl.specs.declared.plan.Ended.{Ended}
use Rattle.irl_crawl.specs.declared.plan.Ended.TheVariants.{Done as CrawlDone, Limit as CrawlLimit, Fault as CrawlFault}
use Rattle.irl_crawl.specs.declared.plan.Plan.{Plan}
use Rattle.irl_crawl.specs.Leading.{GrowsInBatches, IsCrawlFile, IsFullAt, Leads}
use Rattle.irl_crawl.specs.Refusing.{IsBrokenAt}
use Rattle.irl_crawl.specs.Room.{HasRoomFor, most_handed}
use Rattle.irl_crawl.specs.Sending.{pairs_for}
use Rattle.irl_crawl.specs.Turning.{AsksOnce, events_since}
use Rattle.irl_crawl.specs.Workers.{Given, RoseBetween, made_by}
use Rattle.irl_disk.specs.Disk.{ChangesFile, ChangesOnly, Files, TellsOnly}
use Rattle.irl_disk.specs.Images.{Leaves, LeavesBy, Told}
use Rattle.irl_events.specs.Events.{Begin}
use Rattle.irl_events.specs.State.{State, IsFrontState}
use Rattle.irl_fate.specs.Fates.{fate_of}
use Rattle.irl_fate.specs.declared.fate.Fate.TheVariants.{Done as DoneFate}
use Rattle.irl_head.specs.Asking.{Agrees, IsBadAsked}
use Rattle.irl_head.specs.Opening.{HasSettings, IsBadStore, IsKeptOtherwise, IsNotOursAt}
use Rattle.irl_head.specs.StoreFiles.{head_file, urls_base}
use Rattle.irl_journal.specs.Visiting.{IsOpened}
use Rattle.irl_key.specs.Key.{key_of}
use Rattle.irl_model.specs.Book.{Book, IsPrefixOf, part, uniques}
use Rattle.irl_offer.specs.Settings.{AreValid, settings_of}
use Rattle.irl_offer.specs.declared.outcome.Outcome.{Outcome}
use Rattle.irl_offer.specs.declared.settings.Asked.{Asked}
use Rattle.irl_offer.specs.declared.settings.Settings.{Settings}
use Rattle.irl_reach.specs.Along.{IsAlong, settled_in}
use Rattle.irl_offer.specs.Tuple.{Tuple}
use Rattle.irl_reach.specs.Crawls.{Visit, found_by, numbers_in, seed_offers}
use Rattle.irl_reach.specs.Reached.{Reached}
use Rattle.irl_record.specs.Fetched.{Playing, by_tape}
use Rattle.irl_record.specs.Reading.{tape_of}
use Rattle.irl_record.specs.Site.{site_text}
use Rattle.irl_record.specs.Taped.{Taped}
use Rattle.irl_record.specs.declared.reading.TapeFault.{TapeFault}
use Rattle.irl_record.specs.declared.reading.TapeFault.TheVariants.{BadRecord, Failed as TapeFailed, Memory as TapeMemory}
use Rattle.irl_words.specs.declared.command.RunOptions.{RunOptions}
use Rattle.irl_schedule.specs.Feeding.{list_at}
use Rattle.irl_yard.specs.declared.parts.Parts.{Parts}
use Rattle.irl_yard.specs.Adding.{with_event}
use Rattle.irl_yard.specs.Holding.{IsOpenRest, IsSound}
use Rattle.irl_yard.specs.Leading.{HasOneBetween}
use Rattle.irl_yard.specs.Opening.{IsDamageAt, entered_state}
use Rattle.irl_yard.specs.Passing.{come, suffixes_in}
use Rattle.irl_yard.specs.Standing.{HasState, IsLegal}
use Rattle.irl_top.specs.declared.ending.Ending.{Ending}
use Rattle.irl_top.specs.declared.ending.Ending.TheVariants.{Done, BadSettings, LineRefused, NotOurs, Damaged, OtherSettings, DiskFault, InputFault, OutputFault, NoMemory, Full}
use Rattle.irl_top.specs.Message.{IsLate, ending_of_store}
use Rattle.irl_top.specs.Opened.{IsOpenable, StaysClosed}
use Rattle.irl_top.specs.Outside.{Lent}
use Rattle.irl_top.specs.Ports.{Port, given_on}
use Rattle.irl_top.specs.Records.{AddsUnevenInBoth}
use Rattle.irl_top.specs.Shown.{IsReportOf}
use Rattle.irl_top.specs.Stream.{Stream}

-- ---- what is asked
pub record CrawlTask : Type 1 where
  -- what an input is, or the number of its first line that is refused, by the bytes of the source, where they are told
  pub reads : Option (List ℕ) → Result Taped ℕ → Type 0
  -- what the source tells before a run and after it, where all is done
  pub ends : Stream → Stream → Type 0
  -- what fetches may be given
  pub given : Taped → Given
  -- the product token for which robots files are read, how many URLs are settled at most, and in one turn
  pub agent : List ℕ
  pub pages : ℕ
  pub batch : ℕ

-- the source has such an input, or one that is refused at this line
abbrev pub IsReadBy : (List ℕ → Result Taped ℕ) → Option (List ℕ) → Result Taped ℕ → Type 0
IsReadBy reads bytes result = ForSome bytes (λ text. reads text ≡ result)

-- it is read to its end
abbrev pub IsReadWhole : Stream → Stream → Type 0
IsReadWhole old new = ForSome old.bytes (λ _. new.bytes ≡ Some [])

-- that over a tape, with pages or without them, by these options
abbrev pub tape_task : Bool → RunOptions → (Taped → Given) → CrawlTask
tape_task pages options given = record {
  reads = IsReadBy (tape_of pages);
  ends = IsReadWhole;
  given = given;
  agent = options.agent;
  pages = options.pages;
  batch = options.batch;
}

-- the answers of a tape, of which any number may be that none comes, and for which no connection is made
abbrev pub given_by_tape : Taped → Given
given_by_tape tape = record { gives = by_tape tape; may_miss = λ _. ⊤; made = 0 }

-- a fetcher of a tape that hasn't answered yet
abbrev pub playing_at_first : Taped → Playing
playing_at_first tape = record { tape = tape; faults = 0; moment = 0 }

-- Those that ports gave on connections to this number of a port, and how many of these they made. Each that didn't come
-- is a fault of its port.
abbrev pub given_by_ports : ℕ → List ℕ → List Port → List Port → Given
given_by_ports number agent before after = record {
  gives = given_on number agent before after;
  may_miss = RoseBetween (λ port. port.faults) before after;
  made = made_by (λ port. port.connections) after - made_by (λ port. port.connections) before;
}

-- that of `replay`: a tape with pages, which gives the answers
abbrev pub replay_task : RunOptions → CrawlTask
replay_task options = tape_task true options given_by_tape

-- that of `crawl`: a tape without pages, and answers of ports
abbrev pub crawl_task : RunOptions → ℕ → List Port → List Port → CrawlTask
crawl_task options number before after =
    tape_task false options (λ _. given_by_ports number options.agent before after)

-- that of `gen`: a site of so many pages, whose tape gives the answers; nothing is read
abbrev pub site_task : RunOptions → ℕ → CrawlTask
site_task options pages = record (replay_task options) {
  reads = λ _ result. tape_of true (site_text pages) ≡ result;
  ends = λ old new. new ≡ old;
}

-- a part of one by these options, where this is given: it reads nothing itself
abbrev pub part_task : RunOptions → Given → CrawlTask
part_task options given = tape_task false options (λ _. given)

-- the input is this one
abbrev pub IsInput : CrawlTask → Option (List ℕ) → Taped → Type 0
IsInput task bytes input = task.reads bytes (Ok input)

-- ---- states
-- the settings of an open store's state, or those that a store is made with
abbrev pub settings_for : Asked → State → Settings
settings_for asked state = unwrap_or state.settings (settings_of asked)

-- the suffixes of a crawl: those that it began with, and else the input's
abbrev pub suffixes_for : State → Taped → List ℕ
suffixes_for state input = unwrap_or (begun_with state.events) input.suffixes

-- A crawl began with other suffixes than an input names: the keys of both texts.
pub record HasOtherSuffixes (x : State) (input : List ℕ) (kept wanted : ℕ) : Type 0 where
  pub text : List ℕ
  pub begun : begun_with x.events ≡ Some text
  pub kept_is : kept ≡ key_of text
  pub wanted_is : wanted ≡ key_of input
  pub differ : text ≢ input
  pub named : input ≢ []

-- or it hasn't begun, or with the same ones, or the input names none
abbrev pub Fits : State → List ℕ → Type 0
Fits x suffixes = (kept wanted : ℕ) → HasOtherSuffixes x suffixes kept wanted → ⊥

-- An input was crawled from a state on: some URLs were visited, and nothing is offered but the seeds and what the
-- visits name. One merge of each book may come before a bucket has enough new offers for the seeds, and one a turn.
abbrev pub CrawlsInput : CrawlTask → Settings → Taped → State → State → Type 0
CrawlsInput task settings input x y = OnlyCrawls (task.given input) task.agent (suffixes_for x input) input.seeds
    settings 1 task.pages task.batch x y

-- a state that a run over an open store's may leave: it itself, or one that a crawl of an input that fits leads it to
abbrev pub MayCrawl : CrawlTask → Settings → Option (List ℕ) → State → State → Type 0
MayCrawl task settings bytes x y = (y ≡ x)
    ⊎ ((input : Taped) × IsInput task bytes input × Fits x input.suffixes × CrawlsInput task settings input x y
    × IsFrontState x y)

-- what such a crawl handed in: the seeds, and what the visits found
abbrev pub handed_by : Taped → State → State → List Visit → List Tuple
handed_by input x y visits = seed_offers input ++ flat_map (found_by (suffixes_for x input) y.urls) visits

-- an offer of it, or a link that it shows, has no room
abbrev pub IsFullBy : CrawlTask → Settings → Taped → State → State → ℕ → Type 0
IsFullBy task settings input x y n = Fits x input.suffixes × ((crawls : CrawlsInput task settings input x y)
    × IsFullAt (suffixes_for x input) settings (handed_by input x y crawls.visits) x y n)

-- What came of each visit is settled, all is judged and the pairs are sent, and either no URL waits or as many are
-- settled as were asked for.
pub record IsCrawled (task : CrawlTask) (settings : Settings) (input : Taped) (x y : State) : Type 0 where
  pub fits : Fits x input.suffixes
  pub crawls : CrawlsInput task settings input x y
  pub whole : CrawlsWhole (suffixes_for x input) input.seeds settings crawls.visits x y
  -- nothing was asked for twice
  pub asks : AsksOnce (task.given input) crawls.visits (events_since x y)
  pub ends : NoneWaits settings y ⊎ (length (settled_in (events_since x y)) ≡ task.pages)

-- an input names other suffixes than none, and this is their key
pub record NamesSuffixes (task : CrawlTask) (bytes : Option (List ℕ)) (wanted : ℕ) : Type 0 where
  pub input : Taped
  pub is_input : IsInput task bytes input
  pub named : input.suffixes ≢ []
  pub wanted_is : wanted ≡ key_of input.suffixes

-- ---- what parts of it make of an open store
-- damage of an open store is answered only where it is, by what is kept in memory and told of the files then
pub record EndsAsFound (answered : Ending → Type 0) (now : Parts) (after : Told) : Type 0 where
  pub spoilt : (f at : ℕ) → answered (Damaged f at) → ForSome after.files (λ files. IsBrokenAt now files f at)

-- a crawl is begun with these suffixes, unless it has begun
abbrev pub BeginsAt : List ℕ → State → State → Type 0
BeginsAt suffixes x y = (y ≡ x) ⊎ ((begun_with x.events ≡ None) × (y ≡ with_event (Begin suffixes) [] x))

pub record Begins (result : Result Unit Ending) (suffixes : List ℕ) (x y : State) : Type 0 where
  pub at : BeginsAt suffixes x y
  pub begun : OnOk result (begun_with y.events ≡ Some (unwrap_or (begun_with x.events) suffixes))
  pub fits : OnOk result (Fits x suffixes)
  pub same : OnErr result (y ≡ x)
  pub full : (n : ℕ) → IsErrOf result (Full n) → ⊥
  pub damaged : (f at : ℕ) → IsErrOf result (Damaged f at) → ⊥
  pub other : (n kept wanted : ℕ) → IsErrOf result (OtherSettings n kept wanted)
      → (n ≡ 12) × HasOtherSuffixes x suffixes kept wanted

-- the suffixes of an open store's crawl, if it has begun, are these, or these name none
abbrev pub KeepsSuffixes : Parts → List ℕ → Type 0
KeepsSuffixes parts suffixes = (kept : List ℕ) → suffixes_in parts.rest ≡ Some kept
    → (suffixes ≡ []) ⊎ (kept ≡ suffixes)

-- an answer that settings differ is about these suffixes, by their key
abbrev pub RefusesSuffixes : Result Unit Ending → List ℕ → Type 0
RefusesSuffixes result suffixes = (n kept wanted : ℕ) → IsErrOf result (OtherSettings n kept wanted)
    → (n ≡ 12) × (wanted ≡ key_of suffixes) × (suffixes ≢ [])

-- an input was crawled, by the answer
pub record Crawled (result : Result Unit Ending) (task : CrawlTask) (settings : Settings) (input : Taped) (x y : State)
    : Type 0 where
  pub crawls : CrawlsInput task settings input x y
  -- nothing is done where the suffixes don't fit
  pub fits : (y ≡ x) ⊎ Fits x input.suffixes
  pub done : OnOk result (IsCrawled task settings input x y)
  pub full : (n : ℕ) → IsErrOf result (Full n) → IsFullBy task settings input x y n
  pub whole : (f at : ℕ) → IsErrOf result (Damaged f at) → ⊥
  pub other : (n kept wanted : ℕ) → IsErrOf result (OtherSettings n kept wanted)
      → (n ≡ 12) × HasOtherSuffixes x input.suffixes kept wanted

-- what a tape and the options of a run ask of a crawl
pub record IsPlanOf (tape : Taped) (options : RunOptions) (plan : Plan) : Type 0 where
  pub is_plan : IsPlan plan
  pub seeds : plan.seeds.items ≡ tape.seeds
  pub agent : plan.agent ≡ options.agent
  pub pages : plan.pages ≡ options.pages
  pub batch : plan.batch ≡ options.batch
  pub delay : plan.delay ≡ options.delay

-- ---- endings
-- what the end of a crawl is to a run
abbrev pub ending_of_crawl : Ended → Result Unit Ending
ending_of_crawl CrawlDone = Ok tt
ending_of_crawl CrawlLimit = Ok tt
ending_of_crawl (CrawlFault fault) = Err (ending_of_store fault)

-- the ending that a tape's fault is
abbrev pub ending_of_tape : TapeFault → Ending
ending_of_tape (BadRecord n) = LineRefused n
ending_of_tape TapeFailed = InputFault
ending_of_tape TapeMemory = NoMemory

-- an ending that a crawl may be refused with
abbrev pub IsCrawlEnding : Ending → Type 0
IsCrawlEnding Done = ⊥
IsCrawlEnding (BadSettings n) = ⊥
IsCrawlEnding (LineRefused n) = ⊥
IsCrawlEnding (NotOurs at) = ⊥
IsCrawlEnding (Damaged f at) = ⊤
IsCrawlEnding (OtherSettings n kept wanted) = ⊤
IsCrawlEnding DiskFault = ⊤
IsCrawlEnding InputFault = ⊥
IsCrawlEnding OutputFault = ⊥
IsCrawlEnding NoMemory = ⊤
IsCrawlEnding (Full n) = ⊤

-- an ending of a crawl of an input with its report
abbrev pub IsPlayEnding : Ending → Type 0
IsPlayEnding Done = ⊤
IsPlayEnding (BadSettings n) = ⊥
IsPlayEnding (LineRefused n) = ⊥
IsPlayEnding (NotOurs at) = ⊥
IsPlayEnding (Damaged f at) = ⊤
IsPlayEnding (OtherSettings n kept wanted) = ⊤
IsPlayEnding DiskFault = ⊤
IsPlayEnding InputFault = ⊥
IsPlayEnding OutputFault = ⊤
IsPlayEnding NoMemory = ⊤
IsPlayEnding (Full n) = ⊤

-- an ending that comes behind a whole crawl
abbrev pub IsCrawledEnding : Ending → Type 0
IsCrawledEnding ending = (ending ≡ Done) ⊎ (ending ≡ OutputFault)

-- and one that comes behind an input that was read, where the store tells of a list without room, or the suffixes
-- don't fit
abbrev pub IsReadEnding : Ending → Type 0
IsReadEnding ending = IsCrawledEnding ending ⊎ ((n : ℕ) × (ending ≡ Full n))
    ⊎ ((n kept wanted : ℕ) × (ending ≡ OtherSettings n kept wanted))

-- an ending before it was read
abbrev pub IsUnreadEnding : Ending → Type 0
IsUnreadEnding ending = (ending ≡ InputFault) ⊎ ((n : ℕ) × (ending ≡ LineRefused n))

-- an ending at which something may be printed
abbrev pub IsPrintEnding : Ending → Type 0
IsPrintEnding ending = (ending ≡ Done) ⊎ (ending ≡ OutputFault) ⊎ (ending ≡ NoMemory)

-- an ending that refuses a store as it is: it can't be made as is asked, is of another make, or was made otherwise
abbrev pub IsRefusedStore : Ending → Type 0
IsRefusedStore ending = ((n : ℕ) × (ending ≡ BadSettings n)) ⊎ ((at : ℕ) × (ending ≡ NotOurs at))
    ⊎ ((n kept wanted : ℕ) × (ending ≡ OtherSettings n kept wanted) × (n ≢ 12))

-- an ending of a run over an open store
abbrev pub IsOpenEnding : Ending → Type 0
IsOpenEnding Done = ⊤
IsOpenEnding (BadSettings n) = ⊥
IsOpenEnding (LineRefused n) = ⊤
IsOpenEnding (NotOurs at) = ⊥
IsOpenEnding (Damaged f at) = ⊤
IsOpenEnding (OtherSettings n kept wanted) = ⊤
IsOpenEnding DiskFault = ⊤
IsOpenEnding InputFault = ⊤
IsOpenEnding OutputFault = ⊤
IsOpenEnding NoMemory = ⊤
IsOpenEnding (Full n) = ⊤

-- ---- what a run leaves
-- a text is the report of a state, or a prefix of it where the run isn't done
abbrev pub PrintsReport : Ending → State → List ℕ → Type 0
PrintsReport ending y text = (whole : List ℕ) × IsReportOf y whole × IsPrefixOf text whole
    × (ending ≡ Done → text ≡ whole)

-- An input was crawled over an open store and the report printed, where the store didn't fail and this is written.
pub record PrintsCrawl (task : CrawlTask) (settings : Settings) (input : Taped) (ending : Ending) (text : List ℕ)
    (x y : State) : Type 0 where
  pub crawls : CrawlsInput task settings input x y
  pub fits : (y ≡ x) ⊎ Fits x input.suffixes
  pub done : IsCrawledEnding ending → IsCrawled task settings input x y
  pub full : (n : ℕ) → ending ≡ Full n → IsFullBy task settings input x y n
  pub whole : (f at : ℕ) → ending ≡ Damaged f at → ⊥
  pub other : (n kept wanted : ℕ) → ending ≡ OtherSettings n kept wanted
      → (n ≡ 12) × HasOtherSuffixes x input.suffixes kept wanted
  pub prints : PrintsReport ending y text

-- where the store failed, it was crawled so far, unless the suffixes don't fit
abbrev pub MayCrawlInput : CrawlTask → Settings → Taped → State → State → Type 0
MayCrawlInput task settings input x y = CrawlsInput task settings input x y × ((y ≡ x) ⊎ Fits x input.suffixes)

-- The same between what is told before and after it.
pub record CrawlsTape (task : CrawlTask) (input : Taped) (was now : Parts) (before after : Told) (old new : Stream)
    (ending : Ending) : Type 0 where
  pub text : List ℕ
  pub written : Appends old.bytes new.bytes text
  pub leads : Leads (ending ≡ DiskFault) (MayCrawlInput task was.urls.settings input)
      (PrintsCrawl task was.urls.settings input ending text)
      was now before after
  -- Cuts and records come in batches, but for those of the settled turns, of two desks and of one judging.
  pub batches : Batches (ending ≡ DiskFault) (besides 2 1) (besides 2 1) was now before after
  pub found : EndsAsFound (λ answered. ending ≡ answered) now after
  pub silent : (IsPrintEnding ending → ⊥) → text ≡ []
  pub kinds : IsPlayEnding ending
  -- of what the store was made with, only the suffixes may differ
  pub suffixes : (n kept wanted : ℕ) → ending ≡ OtherSettings n kept wanted
      → (n ≡ 12) × (wanted ≡ key_of input.suffixes) × (input.suffixes ≢ [])
  pub output : HasCause (ending ≡ OutputFault) old.faults new.faults

-- What a run over an open store makes of its state, where the store didn't fail and this is written.
pub record GoesTo (task : CrawlTask) (settings : Settings) (bytes : Option (List ℕ)) (ending : Ending) (text : List ℕ)
    (x y : State) : Type 0 where
  pub may : MayCrawl task settings bytes x y
  pub unread : IsUnreadEnding ending → y ≡ x
  pub done : IsCrawledEnding ending → (input : Taped) × IsInput task bytes input × IsCrawled task settings input x y
  pub full : (n : ℕ) → ending ≡ Full n → (input : Taped) × IsInput task bytes input × IsFullBy task settings input x y n
  pub whole : (f at : ℕ) → ending ≡ Damaged f at → ⊥
  pub other : (n kept wanted : ℕ) → ending ≡ OtherSettings n kept wanted
      → (n ≡ 12) × ((input : Taped) × IsInput task bytes input × HasOtherSuffixes x input.suffixes kept wanted)
  pub prints : PrintsReport ending y text

-- A run over an open store, between what is told before it and after it.
pub record GoesOver (task : CrawlTask) (was now : Parts) (before after : Lent) (ending : Ending) : Type 0 where
  pub text : List ℕ
  pub written : Appends before.output.bytes after.output.bytes text
  pub leads : Leads (ending ≡ DiskFault) (MayCrawl task was.urls.settings before.input.bytes)
      (GoesTo task was.urls.settings before.input.bytes ending text) was now before.store after.store
  -- cuts and records come in batches
  pub batches : Batches (ending ≡ DiskFault) (besides 2 1) (besides 2 1) was now before.store after.store
  -- and a refusal has its reason, whatever the files stand for
  pub found : EndsAsFound (λ answered. ending ≡ answered) now after.store
  pub silent : (IsPrintEnding ending → ⊥) → text ≡ []
  pub read : ending ≡ Done → task.ends before.input after.input
  pub accepted : IsReadEnding ending → (input : Taped) × IsInput task before.input.bytes input
  pub line : (n : ℕ) → ending ≡ LineRefused n → task.reads before.input.bytes (Err n)
  pub kinds : IsOpenEnding ending
  pub suffixes : (n kept wanted : ℕ) → ending ≡ OtherSettings n kept wanted
      → (n ≡ 12) × NamesSuffixes task before.input.bytes wanted
  pub input : HasCause (ending ≡ InputFault) before.input.faults after.input.faults
  pub output : HasCause (ending ≡ OutputFault) before.output.faults after.output.faults

-- the state that files stood for, or what a run may leave of it once it is opened
abbrev pub MayLeave : CrawlTask → Asked → Option (List ℕ) → State → State → Type 0
MayLeave task asked bytes x y = (y ≡ x)
    ⊎ MayCrawl task (settings_for asked (entered_state asked x)) bytes (entered_state asked x) y

-- From one joint image of a state to another that a run may leave, cuts and records come in batches: of each bay at
-- most two cuts are early, and two records of each bucket are uneven, besides one for each turn that was settled.
pub record IsBatched (asked : Asked) (x : State) (old image : Files) : Type 0 where
  -- the state that the later one stands for, which is the first one, or one that the run led to
  pub state : State
  pub has : HasState state image
  pub cuts : (state ≡ x) ⊎ GrowsInBatches (settings_for asked (entered_state asked x)) (2 + turns_since x state)
      (entered_state asked x) state
  pub records : AddsUnevenInBoth (2 + turns_since x state) (settings_for asked (entered_state asked x)).buckets
      (settings_for asked (entered_state asked x)).array old image

-- What a run leaves of a store whose files stood for a state, whatever ends it.
pub record CrawlsStore (task : CrawlTask) (asked : Asked) (before after : Lent) (ending : Ending) (x : State) : Type 0
  where
    -- The state that was acknowledged last, the one that the files stand for, and the greatest that a stop left. Each
    -- is the state itself, or what a run may leave of it once it is opened.
    pub kept : State
    pub state : State
    pub most : State
    pub told : ForSome after.store.files (HasState state)
    pub may_kept : MayLeave task asked before.input.bytes x kept
    pub may_state : MayLeave task asked before.input.bytes x state
    pub may_most : MayLeave task asked before.input.bytes x most
    -- the first and the last of them keep the laws of a state
    pub legal : IsLegal kept × IsLegal most
    -- before the input is read none of them is more than what entering leaves
    pub unread : IsUnreadEnding ending → kept ≡ entered_state asked x
    pub first : IsFrontState x kept
    pub fronts : IsFrontState kept state × IsFrontState state most
    -- a store that was made otherwise than is asked stays as it is
    pub agrees : (most ≡ x) ⊎ Agrees asked (settings_for asked (entered_state asked x))
    -- they differ only where the store failed
    pub settled : ending ≢ DiskFault → (state ≡ kept) × (most ≡ kept)
    pub done : IsCrawledEnding ending → (input : Taped) × IsInput task before.input.bytes input
        × IsCrawled task (settings_for asked (entered_state asked x)) input (entered_state asked x) kept
    pub full : (n : ℕ) → ending ≡ Full n → (input : Taped) × IsInput task before.input.bytes input
        × IsFullBy task (settings_for asked (entered_state asked x)) input (entered_state asked x) kept n
    -- what is written is its report at Done, and else a prefix of it, and nothing where the store failed
    pub text : List ℕ
    pub written : Appends before.output.bytes after.output.bytes text
    pub prints : PrintsReport ending kept text
    pub silent : ending ≡ DiskFault → text ≡ []
    -- where each joint image stood for the state, a stop at any moment leaves one between it and the greatest,
    pub stops : ((image : Files) → before.store.images image → HasState x image)
        → Leaves before.store after.store (HasOneBetween x most)
    -- and a stop from now on no less than what was acknowledged, also where the store was opened
    pub now : IsLate ending ⊎ ((image : Files) → before.store.images image → HasState x image)
        → (image : Files) → after.store.images image → HasOneBetween kept most image
    -- cuts and records came in batches, up to what is told then, and to what a stop at any moment leaves
    pub batched : ForSome before.store.files (λ old. ForSome after.store.files (IsBatched asked x old))
    pub batched_stop : ((image : Files) → before.store.images image → HasState x image)
        → LeavesBy (IsBatched asked x) before.store after.store

-- the files of a store of a crawl: its head, its two bays and its log
abbrev pub IsCrawlStoreFile : ℕ → Type 0
IsCrawlStoreFile f = (f ≡ head_file) ⊎ IsCrawlFile urls_base 64 f

-- What is kept in memory of an open store over files that were told as these, and then as those: each file of a bay is
-- at least as long as is kept of it.
pub record IsOpenOver (asked : Asked) (old new : Option Files) (parts : Parts) : Type 0 where
  pub sound : IsSound parts
  pub drum : IsDrum parts.urls
  pub base : parts.urls.base ≡ urls_base
  pub settings : ForSome old (λ told. HasSettings asked told parts.urls.settings)
  pub long : ForSome new (IsLong parts.urls)
  pub rest : IsOpenRest parts.urls parts.rest new

-- what is told of an open store breaks its form at this place
pub record IsBrokenStore (asked : Asked) (old : Option Files) (f at : ℕ) (files : Files) : Type 0 where
  pub parts : Parts
  pub is_open : IsOpenOver asked old (Some files) parts
  pub broken : IsBrokenAt parts files f at

-- One run of a command that crawls, between what is told before it and after it.
pub record CrawlRun (task : CrawlTask) (asked : Asked) (before after : Lent) (ending : Ending) : Type 0 where
  pub crawls : ForSome before.store.files (λ files. (x : State) → HasState x files
      → CrawlsStore task asked before after ending x)
  -- a store that tells goes on telling
  pub tells : (files : Files) → before.store.files ≡ Some files → (later : Files) × (after.store.files ≡ Some later)
  -- over any no other file changes
  pub others : TellsOnly IsCrawlStoreFile before.store.files after.store.files
  pub others_stop : LeavesBy (ChangesOnly IsCrawlStoreFile) before.store after.store
  -- it is opened, or it stays closed
  pub opened : ForSome before.store.files (IsOpenable asked) ⊎ StaysClosed asked before after ending
  -- a store that is refused as it is keeps its files, and nothing is read or written
  pub unopened : IsRefusedStore ending → (after.store.files ≡ before.store.files) × (after.input ≡ before.input)
      × (after.output ≡ before.output)
  -- and a stop leaves it, but for the head's gate
  pub unopened_stop : IsRefusedStore ending → LeavesBy (ChangesFile head_file IsOpened) before.store after.store
  -- nothing is printed but at Done, where the output fails, and where memory runs out
  pub silent : (IsPrintEnding ending → ⊥) → Appends before.output.bytes after.output.bytes []
  -- 0, 6 and 8 come only behind an input that isn't refused
  pub accepted : IsCrawledEnding ending ⊎ ((n : ℕ) × (ending ≡ Full n)) → (input : Taped)
      × IsInput task before.input.bytes input
  -- at Done the input was read to its end
  pub read : ending ≡ Done → task.ends before.input after.input
  -- the cause of each other ending; want of memory alone has none
  pub bad : (n : ℕ) → ending ≡ BadSettings n → ForSome before.store.files (λ files. IsBadStore asked files n)
  pub bad_asked : (n : ℕ) → ending ≡ BadSettings n → IsBadAsked (settings_of asked) n
  pub line : (n : ℕ) → ending ≡ LineRefused n → task.reads before.input.bytes (Err n)
  pub not_ours : (at : ℕ) → ending ≡ NotOurs at → ForSome before.store.files (λ files. IsNotOursAt files at)
  -- what shows where it is opened, or a damage that is found in an open store
  pub damaged : (f at : ℕ) → ending ≡ Damaged f at → ForSome before.store.files (λ files. IsDamageAt asked files f at)
      ⊎ (ForSome before.store.files (IsOpenable asked)
      × ForSome after.store.files (IsBrokenStore asked before.store.files f at))
  -- settings that differ, or of a crawl that has begun the text of its suffixes
  pub other : (n kept wanted : ℕ) → ending ≡ OtherSettings n kept wanted
      → ForSome before.store.files (λ files. IsKeptOtherwise asked files n kept wanted)
      ⊎ ((n ≡ 12) × NamesSuffixes task before.input.bytes wanted
      × ForSome before.store.files (λ files. (x : State) → HasState x files → (input : Taped)
      × IsInput task before.input.bytes input × HasOtherSuffixes x input.suffixes kept wanted))
  -- over files that stand for a state no damage is named
  pub whole : (f at : ℕ) → ending ≡ Damaged f at
      → ForSome before.store.files (λ files. (x : State) → HasState x files → ⊥)
  pub whole_ours : (at : ℕ) → ending ≡ NotOurs at
      → ForSome before.store.files (λ files. (x : State) → HasState x files → ⊥)
  pub disk : HasCause (ending ≡ DiskFault) before.store.faults after.store.faults
  pub input : HasCause (ending ≡ InputFault) before.input.faults after.input.faults
  pub output : HasCause (ending ≡ OutputFault) before.output.faults after.output.faults

-- ---- where nothing fails
-- each list of URLs is within the cap with all of these that are of its bucket
abbrev pub HasRoom : Settings → State → List Tuple → Type 0
HasRoom settings x handed = (b : ℕ) → b < settings.buckets
    → length (list_at x.urls b) + length (part settings.buckets b handed) ≤ settings.cap

-- and each list of pairs with all links that URLs show which weren't sent
abbrev pub HasRoomForLinks : List ℕ → Settings → State → Book → Type 0
HasRoomForLinks suffixes settings x urls = (b : ℕ) → b < settings.buckets
    → length (pairs_for suffixes settings x urls b) ≤ settings.cap

-- Over a store that stands for a state and was made, or can be made, as is asked, by an input that isn't refused and
-- names no other suffixes, where nothing fails.
pub record NothingFails (task : CrawlTask) (asked : Asked) (before after : Lent) (x : State) : Type 0
  where
    pub read : (n : ℕ) → task.reads before.input.bytes (Err n) → ⊥
    pub agrees : Agrees asked (settings_for asked (entered_state asked x))
    pub valid : AreValid (settings_for asked (entered_state asked x))
    pub suffixes : (input : Taped) → IsInput task before.input.bytes input → Fits x input.suffixes
    pub store : Rose before.store.faults after.store.faults → ⊥
    pub input : Rose before.input.faults after.input.faults → ⊥
    pub output : Rose before.output.faults after.output.faults → ⊥

-- And each list has room for all that a crawl of the input hands in and links, in whatever state that keeps the laws of
-- one.
pub record MayComplete (task : CrawlTask) (asked : Asked) (before after : Lent) (x : State) : Type 0
  where
    pub fine : NothingFails task asked before after x
    pub room : (input : Taped) (y : State) → IsInput task before.input.bytes input → IsLegal y
        → (crawls : CrawlsInput task (settings_for asked (entered_state asked x)) input (entered_state asked x) y)
        → HasRoom (settings_for asked (entered_state asked x)) (entered_state asked x)
        (handed_by input (entered_state asked x) y crawls.visits)
        × HasRoomForLinks (suffixes_for (entered_state asked x) input) (settings_for asked (entered_state asked x))
        (entered_state asked x) y.urls

-- Or for the input's seeds and 10,000 offers of each page that may be visited: that is known before a run, whatever
-- it is answered.
pub record MayCompleteFew (task : CrawlTask) (asked : Asked) (before after : Lent) (x : State) : Type 0
  where
    pub fine : NothingFails task asked before after x
    pub room : (input : Taped) → IsInput task before.input.bytes input
        → HasRoomFor (most_handed task.pages input.seeds) (settings_for asked (entered_state asked x))
        (entered_state asked x)

-- there a run is done, or memory ran out
abbrev pub CompletesWhere : (State → Type 0) → Lent → Ending → Type 0
CompletesWhere may before ending = (files : Files) (x : State) → before.store.files ≡ Some files
    → HasState x files → may x → (ending ≡ NoMemory) ⊎ (ending ≡ Done)

abbrev pub CompletesCrawl : CrawlTask → Asked → Lent → Lent → Ending → Type 0
CompletesCrawl task asked before after ending = CompletesWhere (MayComplete task asked before after) before ending

abbrev pub CompletesFew : CrawlTask → Asked → Lent → Lent → Ending → Type 0
CompletesFew task asked before after ending = CompletesWhere (MayCompleteFew task asked before after) before ending

-- ---- along a tape
-- each unique URL of a state is done
abbrev pub AreAllDone : State → Type 0
AreAllDone state = (settings : Settings) (number : ℕ) → state.settings ≡ Some settings
    → Contains (numbers_in state.urls) number
    → (outcome : Outcome) × (fate_of (come settings state) number ≡ DoneFate outcome)

-- the keys of the unique URLs are exactly those that a crawl of the tape reaches
abbrev pub HasReached : Taped → List ℕ → State → Type 0
HasReached tape agent state = (key : ℕ)
    → Contains (map (λ p. p.1.key) (uniques state.urls)) key ↔ Reached tape agent key

-- What a run over a tape leaves of a store that was along it.
pub record StaysAlong (tape : Taped) (agent : List ℕ) (before after : Lent) (ending : Ending) (x : State) : Type 0 where
  -- what the files stand for then is along it,
  pub told : ForSome after.store.files (λ files. (y : State) → HasState y files → IsAlong tape agent y)
  -- and so is what a stop at any moment left, where each joint image stood for the state
  pub stops : ((image : Files) → before.store.images image → HasState x image)
      → Leaves before.store after.store (λ image. (z : State) → HasState z image → IsAlong tape agent z)
  -- at Done, where each unique URL is done, all that is reached is unique, and nothing else
  pub reached : ending ≡ Done → ForSome after.store.files (λ files. (y : State) → HasState y files → AreAllDone y
      → HasReached tape agent y)

-- the input is this one, and no other, as where the source tells its bytes
abbrev pub IsOnlyInput : CrawlTask → Option (List ℕ) → Taped → Type 0
IsOnlyInput task bytes input = IsInput task bytes input
    × ((other : Taped) → IsInput task bytes other → other ≡ input)

abbrev pub KeepsAlong : CrawlTask → Lent → Lent → Ending → Type 0
KeepsAlong task before after ending = (tape : Taped) → IsOnlyInput task before.input.bytes tape
    → ForSome before.store.files (λ files. (x : State) → HasState x files → IsAlong tape task.agent x
    → StaysAlong tape task.agent before after ending x)

-- ---- the whole
-- one run of a command that crawls, and how it ends where nothing failed
pub record CrawlsThrough (task : CrawlTask) (asked : Asked) (before after : Lent) (ending : Ending) : Type 0 where
  pub run : CrawlRun task asked before after ending
  pub completes : CompletesCrawl task asked before after ending
  pub completes_few : CompletesFew task asked before after ending

-- the same of one over a tape that gives the answers, by which a store stays along it
pub record PlaysTape (task : CrawlTask) (asked : Asked) (before after : Lent) (ending : Ending) : Type 0 where
  pub through : CrawlsThrough task asked before after ending
  pub along : KeepsAlong task before after ending
