-- What a command that shows a store does: `show` prints the report of its counts, and `list` a line for each of its
-- URLs. Neither changes what the files stand for.
use Rattle.std.specs.Prelude.{◌≡◌, ◌⊎◌, ℕ, List, [], Option, None, Some, ⊤}
use Rattle.std.specs.List.{flat_map}
use Rattle.std.specs.Option.{ForSome}
use Rattle.std.specs.Io.KnownBytes.{Appends}
use Rattle.irl_base.specs.Faults.{Rose, HasCause}
use Rattle.irl_offer.specs.Tuple.{Tuple}
use Rattle.irl_offer.specs.declared.settings.Asked.{Asked}
use Rattle.irl_offer.specs.declared.settings.Settings.{Settings}
use Rattle.irl_model.specs.Book.{uniques, IsPrefixOf}
use Rattle.irl_events.specs.State.{State}
use Rattle.irl_fate.specs.Fates.{fate_of}
use Rattle.irl_fate.specs.declared.counts.Counts.{Counts}
use Rattle.irl_disk.specs.Disk.{Files, TellsBy}
use Rattle.irl_disk.specs.Images.{Leaves, LeavesBy}
use Rattle.irl_bay.specs.Drum.{Drum, IsDrum}
use Rattle.irl_bay.specs.Holding.{IsLong}
use Rattle.irl_bay.specs.JudgedSpoilt.{IsJudgedSpoiltAt}
use Rattle.irl_head.specs.Opening.{HasHead, IsBlank, IsNotOursAt}
use Rattle.irl_head.specs.StoreFiles.{urls_base}
use Rattle.irl_yard.specs.Looking.{IsAskedAsKept, OpensAsKept}
use Rattle.irl_head.specs.Asking.{Agrees}
use Rattle.irl_yard.specs.Opening.{IsDamageAt, IsStoreDamagedAt}
use Rattle.irl_yard.specs.Passing.{AreCounts, come}
use Rattle.irl_yard.specs.Standing.{HasState}
use Rattle.irl_report.specs.Report.{report_of, list_line_of}
use Rattle.irl_top.specs.Outside.{Lent}
use Rattle.irl_top.specs.declared.ending.Ending.{Ending}
use Rattle.irl_top.specs.declared.ending.Ending.TheVariants.{Done, BadSettings, LineRefused, NotOurs, Damaged, OtherSettings, DiskFault, InputFault, OutputFault, NoMemory, Full}

-- ---- the text of a state
-- the counts of a store that wasn't made yet
abbrev pub no_counts : Counts
no_counts = record {
  offers = 0;
  judged = 0;
  unique = 0;
  pairs = 0;
  fresh = 0;
  queued = 0;
  last = 0;
  front = 0;
  done = 0;
  page = 0;
  moved = 0;
  status = 0;
  denied = 0;
  shut = 0;
  lost = 0;
  bad = 0;
  large = 0;
  coded = 0;
}

-- the counts of a state whose store has these settings, or wasn't made yet
abbrev pub HasCounts : Option Settings → State → Counts → Type 0
HasCounts None state counts = counts ≡ no_counts
HasCounts (Some settings) state counts = AreCounts settings state counts

-- the text is the report of a state
abbrev pub IsReportOf : State → List ℕ → Type 0
IsReportOf state text = (counts : Counts) × HasCounts state.settings state counts × (text ≡ report_of counts)

-- a line for each of some URLs of a state whose store has these settings: its number, what became of it and its text
abbrev pub url_lines : Settings → State → List (ℕ × Tuple) → List ℕ
url_lines settings state urls = flat_map (λ p. list_line_of p.0 (fate_of (come settings state) p.0) p.1.aux) urls

-- the lines of all URLs, in the order of their numbers; a store that wasn't made yet has none
abbrev pub listing_by : Option Settings → State → List ℕ
listing_by None state = []
listing_by (Some settings) state = url_lines settings state (uniques state.urls)

-- the text is the listing of a state
abbrev pub IsListingOf : State → List ℕ → Type 0
IsListingOf state text = text ≡ listing_by state.settings state

-- ---- one run
-- what is told of an open store, whose bay is as long as it says, has at this place a judged offer that may not stand
-- there; the settings are those of the head
pub record IsBrokenOffer (old : Option Files) (f at : ℕ) (files : Files) : Type 0 where
  pub urls : Drum
  pub drum : IsDrum urls
  pub base : urls.base ≡ urls_base
  pub head : ForSome old (HasHead urls.settings)
  pub long : IsLong urls files
  pub broken : IsJudgedSpoiltAt urls files f at

-- an ending of a command that asks nothing of the store and reads no input
abbrev pub IsShowEnding : Ending → Type 0
IsShowEnding Done = ⊤
IsShowEnding (BadSettings n) = ⊥
IsShowEnding (LineRefused n) = ⊥
IsShowEnding (NotOurs at) = ⊤
IsShowEnding (Damaged f at) = ⊤
IsShowEnding (OtherSettings n kept wanted) = ⊥
IsShowEnding DiskFault = ⊤
IsShowEnding InputFault = ⊥
IsShowEnding OutputFault = ⊤
IsShowEnding NoMemory = ⊤
IsShowEnding (Full b) = ⊥

-- an ending that comes only once the store was looked at whole
abbrev pub IsPrinted : Ending → Type 0
IsPrinted ending = (ending ≡ Done) ⊎ (ending ≡ OutputFault)

-- no store was made, or one is ours and shows no damage, for whoever asks for what it keeps
abbrev pub IsSeen : Files → Type 0
IsSeen files = IsBlank files ⊎ ((settings : Settings) × HasHead settings files × ((asked : Asked)
    → Agrees asked settings → ((at : ℕ) → IsNotOursAt files at → ⊥)
    × ((f at : ℕ) → IsStoreDamagedAt asked files f at → ⊥)))

-- One run of a command that prints the text of a store's state, between what is told before it and after it: `has` says
-- which text is a state's.
pub record Shown (has : State → List ℕ → Type 0) (before after : Lent) (ending : Ending) : Type 0 where
  -- what is written
  pub text : List ℕ
  pub written : Appends before.output.bytes after.output.bytes text
  -- over files that stand for a state, also that of a store that wasn't made yet, it is a prefix of the state's text,
  -- and all of it at Done
  pub prints : ForSome before.store.files (λ files. (x : State) → HasState x files → (whole : List ℕ)
      × has x whole × IsPrefixOf text whole × (ending ≡ Done → text ≡ whole))
  -- the files stand for the same state afterwards, and where each joint image stood for it, a stop at any moment leaves
  -- one that does
  pub told : (x : State) → ForSome before.store.files (λ files. HasState x files
      → ForSome after.store.files (HasState x))
  pub stops : (x : State) → ((image : Files) → before.store.images image → HasState x image)
      → Leaves before.store after.store (HasState x)
  -- whatever the files stand for, the store is opened at most, in what a stop leaves too, and no input is read
  pub files : TellsBy (OpensAsKept before.store.files) before.store.files after.store.files
  pub steps : LeavesBy (OpensAsKept before.store.files) before.store after.store
  pub input : after.input ≡ before.input
  -- it is done only over a store that wasn't made yet, or one of our make that shows no damage where it is opened
  pub opened : IsPrinted ending → ForSome before.store.files IsSeen
  -- and a store of another make keeps its files, and nothing is written
  pub unopened : (at : ℕ) → ending ≡ NotOurs at → (after.store.files ≡ before.store.files)
      × (after.output ≡ before.output)
  -- there is nothing to ask and nothing to refuse of an input
  pub kinds : IsShowEnding ending
  -- The cause of each other ending; want of memory alone has none. A store of another make, and one that is damaged
  -- where it is opened, is so for whoever asks for what it keeps, and a judged offer is damaged where it stands;
  pub not_ours : (at : ℕ) → ending ≡ NotOurs at → (asked : Asked) → IsAskedAsKept asked before.store.files
      → ForSome before.store.files (λ files. IsNotOursAt files at)
  pub damaged : (f at : ℕ) → ending ≡ Damaged f at
      → ((asked : Asked) → IsAskedAsKept asked before.store.files
      → ForSome before.store.files (λ files. IsDamageAt asked files f at))
      ⊎ ForSome after.store.files (IsBrokenOffer before.store.files f at)
  -- over files that stand for a state neither comes.
  pub whole : (f at : ℕ) → ending ≡ Damaged f at
      → ForSome before.store.files (λ files. (x : State) → HasState x files → ⊥)
  pub whole_ours : (at : ℕ) → ending ≡ NotOurs at
      → ForSome before.store.files (λ files. (x : State) → HasState x files → ⊥)
  pub disk : HasCause (ending ≡ DiskFault) before.store.faults after.store.faults
  pub output : HasCause (ending ≡ OutputFault) before.output.faults after.output.faults
  -- and where nothing failed, over files that stand for a state, it is done, or memory ran out
  pub completes : ForSome before.store.files (λ files. (x : State) → HasState x files
      → (Rose before.store.faults after.store.faults → ⊥) → (Rose before.output.faults after.output.faults → ⊥)
      → (ending ≡ NoMemory) ⊎ (ending ≡ Done))
