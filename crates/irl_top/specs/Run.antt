-- What one run of the program does, by what the store, the source and the two sinks tell before it and after it, and by
-- what a stop at any moment leaves of the store. Each command adds its case to `Does`.
use Rattle.std.specs.Prelude.{◌≡◌, ◌≢◌, ◌⊎◌, ℕ, ◌+◌, ◌<◌, ◌≤◌, List, [], ◌++◌, length, Option, None, Some, Result, Ok, Err, unwrap_or, ⊤}
use Rattle.std.specs.Option.{ForSome}
use Rattle.std.specs.Io.KnownBytes.{Appends}
use Rattle.irl_base.specs.Faults.{Rose, HasCause}
use Rattle.irl_offer.specs.Settings.{AreValid, settings_of}
use Rattle.irl_offer.specs.Tuple.{Tuple}
use Rattle.irl_offer.specs.declared.settings.Asked.{Asked}
use Rattle.irl_offer.specs.declared.settings.Settings.{Settings}
use Rattle.irl_model.specs.Book.{Book, judged_cut, lengths_of, part, IsPrefixOf}
use Rattle.irl_events.specs.State.{State, IsFrontState}
use Rattle.irl_disk.specs.Disk.{Files, ChangesFile, TellsOnly, TellsBy, ChangesOnly}
use Rattle.irl_disk.specs.Images.{Follows, Leaves, LeavesBy}
use Rattle.irl_journal.specs.Visiting.{IsOpened}
use Rattle.irl_layout.specs.BayFiles.{IsFileOf}
use Rattle.irl_bay.specs.Drum.{Drum, IsDrum}
use Rattle.irl_bay.specs.Holding.{IsLong}
use Rattle.irl_bay.specs.Spoilt.{IsSpoiltAt}
use Rattle.irl_bay.specs.JudgedSpoilt.{IsJudgedSpoiltAt}
use Rattle.irl_head.specs.StoreFiles.{head_file, urls_base}
use Rattle.irl_yard.specs.Standing.{HasState, IsLegal, with_urls}
use Rattle.irl_yard.specs.Entering.{Enters}
use Rattle.irl_head.specs.Asking.{Agrees, IsBadAsked}
use Rattle.irl_head.specs.Opening.{HasSettings, IsNotOursAt, IsKeptOtherwise, IsBadStore}
use Rattle.irl_yard.specs.Opening.{entered_state, IsStoreDamagedAt}
use Rattle.irl_schedule.specs.Feeding.{Grows, list_at, length_at}
use Rattle.irl_words.specs.Words.{command_of}
use Rattle.irl_words.specs.declared.command.Command.{Command}
use Rattle.irl_words.specs.declared.command.Command.TheVariants.{Seen, Drum as DrumOf, Replay, Crawl, Gen, Show, List as Listing}
use Rattle.irl_top.specs.declared.line.LineKind.{LineKind}
use Rattle.irl_top.specs.declared.line.LineKind.TheVariants.{Text as TextLine, Tuple as TupleLine}
use Rattle.irl_top.specs.declared.ending.Ending.{Ending}
use Rattle.irl_top.specs.declared.ending.Ending.TheVariants.{Done, BadSettings, LineRefused, NotOurs, Damaged, OtherSettings, DiskFault, InputFault, OutputFault, NoMemory, Full}
use Rattle.irl_top.specs.Crawled.{CrawlsThrough, PlaysTape, crawl_task, replay_task, site_task}
use Rattle.irl_top.specs.Input.{refused, offered}
use Rattle.irl_top.specs.Message.{Says, message, refusal, status_of, refused_status, IsAllPrinted, IsLate, IsUnopened}
use Rattle.irl_top.specs.Opened.{IsOpenable, StaysClosed}
use Rattle.irl_top.specs.Outside.{Lent, Outside, IsUntouched}
use Rattle.irl_top.specs.Ports.{Port, PortsGoOn}
use Rattle.irl_top.specs.Printed.{before_last, added}
use Rattle.irl_top.specs.Records.{AddsUnevenRecords}
use Rattle.irl_top.specs.Shown.{Shown, IsReportOf, IsListingOf}

-- ---- what a command over lines does
pub record Task : Type 0 where
  -- what it asks of a store
  pub asked : Asked
  -- the number of the first line of an input that is refused, and the offers of the lines before it
  pub refuses : List ℕ → Option ℕ
  pub offers : List ℕ → List Tuple
  -- what it prints where one book becomes another
  pub prints : Book → Book → List ℕ

-- that of a command over lines of a kind
abbrev pub line_task : LineKind → Asked → Task
line_task kind asked = record { asked = asked; refuses = refused kind; offers = offered kind; prints = added kind }

-- ---- states
-- the settings of a store that stands for a state, or those that it will be made with
abbrev pub settings_in : Asked → State → Settings
settings_in asked state = unwrap_or state.settings (settings_of asked)

-- A state that a run over this one may leave: it itself, or one that comes of it once it is opened, which differs from
-- that in its URLs alone. One that wasn't made is made as was asked; each list that has grown is within the cap, and at
-- most one cut was made before a bucket had enough new offers.
abbrev pub Reaches : Asked → State → State → Type 0
Reaches asked x y = (y ≡ x) ⊎ ((y ≡ with_urls y.urls (entered_state asked x))
    × Grows (settings_in asked x) 1 (entered_state asked x).urls y.urls)

-- the lists of a state are those of another, and behind each a prefix of its part of some offers
abbrev pub AddsSome : Asked → State → State → List Tuple → Type 0
AddsSome asked x y offers = (b : ℕ) → b < (settings_in asked x).buckets → (news : List Tuple)
    × (list_at y.urls b ≡ list_at x.urls b ++ news) × IsPrefixOf news (part (settings_in asked x).buckets b offers)

-- a joint image stands for a state that a run over the first may leave, at or below the last
abbrev pub HasReached : Asked → State → State → Files → Type 0
HasReached asked x most image = (z : State) × HasState z image × Reaches asked x z × IsFrontState z most

-- no bucket that gets some of these offers would pass the cap with its part of them
abbrev pub FitsCap : Asked → State → List Tuple → Type 0
FitsCap asked x offers = (b : ℕ) → b < (settings_in asked x).buckets
    → (part (settings_in asked x).buckets b offers ≡ [])
    ⊎ (length_at (entered_state asked x).urls b + length (part (settings_in asked x).buckets b offers)
    ≤ (settings_in asked x).cap)

-- ---- what a run leaves
-- What a run takes in of an input over the first state, where the second was acknowledged last.
pub record TakesIn (task : Task) (x kept : State) (input : List ℕ) (ending : Ending) : Type 0 where
  -- the offers that were taken in are the first of the input's
  pub news : List Tuple
  pub read : IsPrefixOf news (task.offers input)
  -- none of them is lost: what isn't in its bucket's list waited in its array
  pub waiting : ℕ → List Tuple
  pub few : (b : ℕ) → b < (settings_in task.asked x).buckets → length (waiting b) ≤ (settings_in task.asked x).array
  pub keeps : (b : ℕ) → b < (settings_in task.asked x).buckets
      → list_at kept.urls b ++ waiting b ≡ list_at x.urls b ++ part (settings_in task.asked x).buckets b news
  -- at the end of the input, and at a line that is refused, all were; and at the end nothing waits
  pub whole : (ending ≡ Done) ⊎ ((n : ℕ) × (ending ≡ LineRefused n)) → news ≡ task.offers input
  pub none : ending ≡ Done → (b : ℕ) → b < (settings_in task.asked x).buckets → waiting b ≡ []
  -- a bucket is full only where its list would pass the cap with what waits
  pub full : (b : ℕ) → ending ≡ Full b → (1 ≤ length (waiting b))
      × ((settings_in task.asked x).cap < length_at kept.urls b + length (waiting b))

-- What a run leaves of a store whose files stood for a state, whatever ends it.
pub record Extends (task : Task) (before after : Lent) (ending : Ending) (x : State) : Type 0 where
  -- The state that was acknowledged last, the one that the files stand for, and the greatest that a stop left. Where
  -- the store failed the first is one at or above all that was written.
  pub kept : State
  pub state : State
  pub most : State
  pub told : ForSome after.store.files (HasState state)
  pub reaches : Reaches task.asked x kept × Reaches task.asked x state × Reaches task.asked x most
  pub fronts : IsFrontState kept state × IsFrontState state most
  -- the first and the last of them keep the laws of a state
  pub legal : IsLegal kept × IsLegal most
  -- they differ only where the store failed
  pub settled : ending ≢ DiskFault → (state ≡ kept) × (most ≡ kept)
  -- at an ending that comes only once the store is opened, it is made
  pub entered : IsLate ending → kept.settings ≡ Some (settings_in task.asked x)
  -- what is taken in of the input, and what of it the greatest has in its lists; at Done all is judged
  pub takes : ForSome before.input.bytes (λ input. TakesIn task x kept input ending)
  pub lists : ForSome before.input.bytes (λ input. AddsSome task.asked x most (task.offers input))
  pub judged : ending ≡ Done → judged_cut kept.urls ≡ lengths_of kept.urls
  -- a bucket is full only where its list would pass the cap with an array
  pub full : (b : ℕ) → ending ≡ Full b → (b < (settings_in task.asked x).buckets)
      × ((settings_in task.asked x).cap < length_at kept.urls b + (settings_in task.asked x).array)
  -- what is written is of acknowledged offers: a prefix of the text, and all of it where the store, the output and
  -- memory never failed
  pub text : List ℕ
  pub written : Appends before.output.bytes after.output.bytes text
  pub prints : IsPrefixOf text (task.prints x.urls kept.urls)
  pub prints_all : IsAllPrinted ending → text ≡ task.prints x.urls kept.urls
  -- and whatever the ending all that each of the three states has judged before its last cut: output is written after
  -- each merge
  pub printed_before : IsPrefixOf (task.prints x.urls (before_last most.urls)) text
  -- each record but one of a bucket is a whole array
  pub records : ForSome before.store.files (λ old.
      ForSome after.store.files (AddsUnevenRecords 1 (settings_in task.asked x).buckets (settings_in task.asked x).array
      old))
  -- Where each joint image stood for the state, a stop at any moment leaves one that the run reached,
  pub stops : ((image : Files) → before.store.images image → HasState x image)
      → Leaves before.store after.store (HasReached task.asked x most)
  pub records_stop : ((image : Files) → before.store.images image → HasState x image)
      → LeavesBy (AddsUnevenRecords 1 (settings_in task.asked x).buckets (settings_in task.asked x).array) before.store
      after.store
  -- whatever they stood for, what entering leaves of one of them, or a state that the run reached,
  pub stops_any : Leaves before.store after.store (λ image.
      Follows (Enters task.asked before.store.files) before.store.images image ⊎ HasReached task.asked x most image)
  -- and a stop from now on one that is acknowledged; where the store was opened, as where something was written, it
  -- does whatever the joint images were before.
  pub now : IsLate ending ⊎ (1 ≤ length text) ⊎ ((image : Files) → before.store.images image → HasState x image)
      → (image : Files) → after.store.images image → (z : State) × HasState z image × IsFrontState kept z
      × IsFrontState z most

-- the files of a store of lines or tuples
abbrev pub IsStoreFile : ℕ → Type 0
IsStoreFile f = (f ≡ head_file) ⊎ IsFileOf urls_base 64 f

-- what is told of an open bay, which is as long as the bay says, breaks its form at this place
pub record IsBrokenBay (asked : Asked) (old : Option Files) (f at : ℕ) (files : Files) : Type 0 where
  pub urls : Drum
  pub drum : IsDrum urls
  pub base : urls.base ≡ urls_base
  pub settings : ForSome old (λ told. HasSettings asked told urls.settings)
  pub long : IsLong urls files
  pub broken : IsSpoiltAt urls files f at ⊎ IsJudgedSpoiltAt urls files f at

-- one run of a command, between what is told before it and after it
pub record Ran (task : Task) (before after : Lent) (ending : Ending) : Type 0 where
  -- over a store that stands for a state
  pub extends : ForSome before.store.files (λ files. (x : State) → HasState x files
      → Extends task before after ending x)
  -- over any: no other file changes, and a store that tells goes on telling
  pub others : TellsOnly IsStoreFile before.store.files after.store.files
  pub others_stop : LeavesBy (ChangesOnly IsStoreFile) before.store after.store
  -- it is opened, or it stays closed
  pub opened : ForSome before.store.files (IsOpenable task.asked) ⊎ StaysClosed task.asked before after ending
  -- a store that is refused keeps its files, and nothing is read or written
  pub unopened : IsUnopened ending → (after.store.files ≡ before.store.files) × (after.input ≡ before.input)
      × (after.output ≡ before.output)
  -- and a stop leaves it, but for the head's gate
  pub unopened_stop : IsUnopened ending → LeavesBy (ChangesFile head_file IsOpened) before.store after.store
  -- at Done the input was read to its end, and no line of it is refused
  pub read : ending ≡ Done → ForSome before.input.bytes (λ input. (after.input.bytes ≡ Some [])
      × (task.refuses input ≡ None))
  -- the cause of each other ending; want of memory alone has none
  pub bad : (n : ℕ) → ending ≡ BadSettings n → ForSome before.store.files (λ files. IsBadStore task.asked files n)
  pub bad_asked : (n : ℕ) → ending ≡ BadSettings n → IsBadAsked (settings_of task.asked) n
  pub line : (n : ℕ) → ending ≡ LineRefused n → ForSome before.input.bytes (λ input. task.refuses input ≡ Some n)
  pub not_ours : (at : ℕ) → ending ≡ NotOurs at → ForSome before.store.files (λ files. IsNotOursAt files at)
  pub other : (n kept wanted : ℕ) → ending ≡ OtherSettings n kept wanted
      → ForSome before.store.files (λ files. IsKeptOtherwise task.asked files n kept wanted)
  pub damaged : (f at : ℕ) → ending ≡ Damaged f at
      → ForSome before.store.files (λ files. IsStoreDamagedAt task.asked files f at)
      ⊎ (ForSome before.store.files (IsOpenable task.asked)
      × ForSome after.store.files (IsBrokenBay task.asked before.store.files f at))
  pub whole : (f at : ℕ) → ending ≡ Damaged f at
      → ForSome before.store.files (λ files. (x : State) → HasState x files → ⊥)
  pub whole_ours : (at : ℕ) → ending ≡ NotOurs at
      → ForSome before.store.files (λ files. (x : State) → HasState x files → ⊥)
  pub disk : HasCause (ending ≡ DiskFault) before.store.faults after.store.faults
  pub input : HasCause (ending ≡ InputFault) before.input.faults after.input.faults
  pub output : HasCause (ending ≡ OutputFault) before.output.faults after.output.faults

-- what a run ends in where nothing failed and nothing was refused but a line: want of memory, or as the input says
abbrev pub EndsWell : Ending → Option ℕ → Type 0
EndsWell ending refusal = (ending ≡ NoMemory) ⊎ ((ending ≡ Done) × (refusal ≡ None))
    ⊎ ((n : ℕ) × (ending ≡ LineRefused n) × (refusal ≡ Some n))

-- Over a store that stands for a state and was made, or can be made, as is asked, over a source that tells, with
-- nothing that fails and no list that passes the cap, a run ends as the input says.
abbrev pub Completes : Task → Lent → Lent → Ending → Type 0
Completes task before after ending = (files : Files) (x : State) (input : List ℕ) → before.store.files ≡ Some files
    → HasState x files → before.input.bytes ≡ Some input → Agrees task.asked (settings_in task.asked x)
    → AreValid (settings_in task.asked x)
    → FitsCap task.asked x (task.offers input) → (Rose before.store.faults after.store.faults → ⊥)
    → (Rose before.input.faults after.input.faults → ⊥) → (Rose before.output.faults after.output.faults → ⊥)
    → EndsWell ending (task.refuses input)

-- one run of a command that judges what its input offers and prints it, and how it ends where nothing failed
pub record Filtered (task : Task) (before after : Lent) (ending : Ending) : Type 0 where
  pub ran : Ran task before after ending
  pub completes : Completes task before after ending

-- ---- each command
-- it is carried out without the threads of a run
abbrev pub WaitsForNobody : Command → Type 0
WaitsForNobody (Seen asked) = ⊤
WaitsForNobody (DrumOf asked) = ⊤
WaitsForNobody (Replay asked options) = ⊥
WaitsForNobody (Crawl asked options number) = ⊥
WaitsForNobody (Gen asked options pages) = ⊥
WaitsForNobody Show = ⊤
WaitsForNobody Listing = ⊤

-- it makes connections
abbrev pub IsOnline : Command → Type 0
IsOnline (Seen asked) = ⊥
IsOnline (DrumOf asked) = ⊥
IsOnline (Replay asked options) = ⊥
IsOnline (Crawl asked options number) = ⊤
IsOnline (Gen asked options pages) = ⊥
IsOnline Show = ⊥
IsOnline Listing = ⊥

-- what it does, by what ports tell before it and after it, between what is told of all else
abbrev pub Does : Command → List Port → List Port → Lent → Lent → Ending → Type 0
Does (Seen asked) olds news before after ending = Filtered (line_task TextLine asked) before after ending
Does (DrumOf asked) olds news before after ending = Filtered (line_task TupleLine asked) before after ending
Does (Replay asked options) olds news before after ending = PlaysTape (replay_task options) asked before after ending
Does (Crawl asked options number) olds news before after ending =
    CrawlsThrough (crawl_task options number olds news) asked before after ending
Does (Gen asked options pages) olds news before after ending =
    PlaysTape (site_task options pages) asked before after ending
Does Show olds news before after ending = Shown IsReportOf before after ending
Does Listing olds news before after ending = Shown IsListingOf before after ending

-- a command was carried out
pub record Obeys (command : Command) (before after : Outside) (status : ℕ) : Type 0 where
  pub ending : Ending
  pub status_is : status ≡ status_of ending
  pub does : Does command before.ports after.ports before.lent after.lent ending
  -- each port goes on in its place, and no other command calls one
  pub ports : PortsGoOn before.ports after.ports
  pub offline : IsOnline command ⊎ (after.ports ≡ before.ports)
  -- the error sink is given the ending's line, or a prefix of it where the sink failed
  pub says : Says (message ending) before.errors after.errors

-- the words are refused, and nothing is called but the error sink
pub record Refuses (word : List ℕ) (before after : Outside) (status : ℕ) : Type 0 where
  pub status_is : status ≡ refused_status
  pub untouched : IsUntouched before.lent after.lent
  pub ports : after.ports ≡ before.ports
  pub says : Says (refusal word) before.errors after.errors

-- memory ran out while the words were read, and nothing is called but the error sink
pub record GivesUp (before after : Outside) (status : ℕ) : Type 0 where
  pub status_is : status ≡ status_of NoMemory
  pub untouched : IsUntouched before.lent after.lent
  pub ports : after.ports ≡ before.ports
  pub says : Says (message NoMemory) before.errors after.errors

-- what is done with words that are a command, or are refused
abbrev pub Answers : Result Command (List ℕ) → Outside → Outside → ℕ → Type 0
Answers (Ok command) before after status = Obeys command before after status
Answers (Err word) before after status = Refuses word before after status

-- one call of the program
abbrev pub Runs : List (List ℕ) → Outside → Outside → ℕ → Type 0
Runs words before after status = Answers (command_of words) before after status ⊎ GivesUp before after status
