-- Entering a store: what it does to the files, the ground of each refusal, and what is answered.
use Rattle.std.specs.Prelude.{◌≡◌, ◌≢◌, ◌⊎◌, ℕ, ◌+◌, ◌*◌, ◌<◌, ◌≤◌, Option, ⊤}
use Rattle.irl_base.specs.Faults.{HasCause}
use Rattle.irl_base.specs.declared.fault.Fault.{Fault}
use Rattle.irl_base.specs.declared.fault.Fault.TheVariants.{Failed as BayFailed, Memory as BayMemory, Full as BayFull, Damaged as BayDamaged}
use Rattle.irl_offer.specs.declared.settings.Settings.{Settings}
use Rattle.std.specs.Option.{ForSome}
use Rattle.irl_offer.specs.Settings.{AreValid, settings_of}
use Rattle.irl_offer.specs.declared.settings.Asked.{Asked}
use Rattle.irl_offer.specs.declared.settings.Kind.{Kind}
use Rattle.irl_offer.specs.declared.settings.Kind.TheVariants.{Lines, Tuples, Crawl}
use Rattle.irl_events.specs.State.{State}
use Rattle.irl_disk.specs.Disk.{Files, ChangesFile, ChangesOnly, TellsBy}
use Rattle.irl_disk.specs.Images.{Told, Leaves, LeavesBy}
use Rattle.irl_disk.specs.Taken.{TakesAmong}
use Rattle.irl_journal.specs.Visiting.{IsOpened}
use Rattle.irl_head.specs.declared.open_fault.OpenFault.{OpenFault}
use Rattle.irl_head.specs.declared.open_fault.OpenFault.TheVariants.{NotOurs, Damaged, OtherSettings, BadSettings, Failed, Memory}
use Rattle.irl_bay.specs.Drum.{IsDrum}
use Rattle.irl_bay.specs.Holding.{IsLong}
use Rattle.irl_layout.specs.BayFiles.{file_of}
use Rattle.irl_layout.specs.declared.files.BayFile.TheVariants.{Judged, Texts}
use Rattle.irl_bay.specs.Making.{IsUnmade, IsJournalOf}
use Rattle.irl_head.specs.StoreFiles.{head_file, crawl_file, urls_base, pairs_base}
use Rattle.irl_head.specs.Head.{head_bytes}
use Rattle.irl_head.specs.Opening.{IsBlank, IsNotOursAt, IsKeptOtherwise, IsBadStore, HasHead, HasSettings, DeniesState, IsUnwanted}
use Rattle.irl_head.specs.Asking.{Agrees, IsBadAsked}
use Rattle.irl_head.specs.Writing.{GainsFirst}
use Rattle.irl_yard.specs.declared.parts.Parts.{Parts}
use Rattle.irl_yard.specs.Holding.{IsOpenRest, IsSound, HoldsState, HasOneOf}
use Rattle.irl_ledger.specs.declared.ledger.Ledger.{Ledger}
use Rattle.irl_yard.specs.declared.parts.Rest.TheVariants.{Crawl as CrawlRest}
use Rattle.irl_yard.specs.Opening.{IsDamageAt, IsOfItsLog, IsStoreDamagedAt, entered_state}
use Rattle.irl_yard.specs.Standing.{ArePlainFiles, HasState}

-- the files of a state beside the head and the bay of URLs; the bay of pairs has its buckets' files on two sides
abbrev pub IsRestFile : ℕ → ℕ → Type 0
IsRestFile buckets f =
    (f ≡ crawl_file)
    ⊎ ((pairs_base ≤ f) × (f < pairs_base + 10 + 2 * buckets))
    ⊎ ((pairs_base + 500 ≤ f) × (f < pairs_base + 500 + 2 * buckets))

-- a stop leaves of the files from one on and below another what is told
abbrev pub AreSyncedWithin : (Files → Type 0) → ℕ → ℕ → Files → Type 0
AreSyncedWithin images from end files = (image : Files) → images image → (f : ℕ) → from ≤ f → f < end
    → image f ≡ files f

-- a stop leaves of the files of a state beside these what is told
abbrev pub AreSynced : (Files → Type 0) → ℕ → Files → Type 0
AreSynced images buckets files = (image : Files) → images image → (f : ℕ) → IsRestFile buckets f → image f ≡ files f

-- ---- what entering does to the files
-- the journals that a store of a kind has beside the head and those of its bay of URLs: one of lines or of tuples has
-- none
abbrev pub IsKindJournal : Kind → ℕ → ℕ → Type 0
IsKindJournal Lines buckets f = ⊥
IsKindJournal Tuples buckets f = ⊥
IsKindJournal Crawl buckets f = (f ≡ crawl_file) ⊎ IsJournalOf pairs_base buckets f

-- the journals of a store of a kind with so many buckets
abbrev pub IsStoreJournal : Kind → ℕ → ℕ → Type 0
IsStoreJournal kind buckets f = (f ≡ head_file) ⊎ IsJournalOf urls_base buckets f ⊎ IsKindJournal kind buckets f

-- the journals of a store whose files were told as these: the head, and those of the settings that it has, where they
-- are as was asked
abbrev pub IsToldJournal : Asked → Option Files → ℕ → Type 0
IsToldJournal asked told f = (f ≡ head_file)
    ⊎ ((settings : Settings) × AreValid settings × Agrees asked settings × ForSome told (HasHead settings)
    × IsStoreJournal settings.kind settings.buckets f)

-- the files of which a store that is opened may be read: its journals, and of one of a crawl the judged offers too, for
-- what its events say of them
abbrev pub IsJudgedFile : ℕ → ℕ → Type 0
IsJudgedFile base f = (f ≡ file_of base 0 Judged) ⊎ (f ≡ file_of base 0 Texts)

abbrev pub IsReadFile : Asked → Option Files → ℕ → Type 0
IsReadFile asked told f = IsToldJournal asked told f
    ⊎ ((asked.kind ≡ Crawl) × (IsJudgedFile urls_base f ⊎ IsJudgedFile pairs_base f))

-- it is opened: each file stays, or it is one of its journals and changes at most as opening one may
abbrev pub OpensStore : Asked → Option Files → Files → Files → Type 0
OpensStore asked told old new = (f : ℕ) → (new f ≡ old f) ⊎ (IsToldJournal asked told f × IsOpened (old f) (new f))

-- A store is made: only its journals change. A bay that wasn't made isn't made yet, nor is the rest, and a head without
-- a record has none, or these settings.
pub record MakesStore (settings : Settings) (old new : Files) : Type 0 where
  pub others : ChangesOnly (IsStoreJournal settings.kind settings.buckets) old new
  pub unmade : IsUnmade urls_base settings.buckets old → IsUnmade urls_base settings.buckets new
  pub rest : ArePlainFiles settings.buckets old → ArePlainFiles settings.buckets new
  pub head : GainsFirst (head_bytes settings) (old head_file) (new head_file)

-- A store is entered whose files were told as these: it is opened, or it is made where a store was told that wasn't
-- made yet.
abbrev pub Enters : Asked → Option Files → Files → Files → Type 0
Enters asked told old new = OpensStore asked told old new ⊎ (ForSome told IsBlank × AreValid (settings_of asked)
    × MakesStore (settings_of asked) old new)

-- ---- a refusal
-- What is told of the files is the ground of it. That no store can be made as is asked is one whatever is told.
abbrev pub HasGround : Asked → Option Files → OpenFault → Type 0
HasGround asked told (NotOurs at) = ForSome told (λ files. IsNotOursAt files at)
HasGround asked told (Damaged f at) = ForSome told (λ files. IsDamageAt asked files f at)
HasGround asked told (OtherSettings n kept wanted) = ForSome told (λ files. IsKeptOtherwise asked files n kept wanted)
HasGround asked told (BadSettings n) = ForSome told (λ files. IsBadStore asked files n)
    × IsBadAsked (settings_of asked) n
HasGround asked told Failed = ⊤
HasGround asked told Memory = ⊤

-- what a bay was refused with; `Full` is no refusal of an opening
abbrev pub fault_of_bay : Fault → OpenFault
fault_of_bay BayFailed = Failed
fault_of_bay BayMemory = Memory
fault_of_bay (BayFull n) = Failed
fault_of_bay (BayDamaged f at) = Damaged f at

-- ---- what is answered
-- What Ok gives: the parts of an open store, whose files were told as these before.
pub record OpensYard (asked : Asked) (parts : Parts) (told : Option Files) (after : Told) : Type 0 where
  -- a store that stands for a state is opened as it, and one that wasn't made yet is made; each stop from then on
  -- leaves that
  pub holds : ForSome told (λ files. (state : State) → HasState state files
      → HoldsState after.images parts (entered_state asked state))
  pub sound : IsSound parts
  pub drum : IsDrum parts.urls
  pub base : parts.urls.base ≡ urls_base
  pub long : ForSome after.files (λ files. IsLong parts.urls files)
  pub rest : IsOpenRest parts.urls parts.rest after.files
  -- it has the settings that were kept, or those of a new store, which are as was asked
  pub settings : ForSome told (λ files. HasSettings asked files parts.urls.settings)
  pub agrees : Agrees asked parts.urls.settings
  -- a crawl is that of its log's events, whatever the store tells: none that breaks a rule is passed over
  pub legal : (ledger : Ledger) → parts.rest ≡ CrawlRest ledger → IsOfItsLog told parts.urls ledger
  -- what is of another make or damaged is refused
  pub ours : ForSome told (λ files. (at : ℕ) → IsNotOursAt files at → ⊥)
  pub undamaged : ForSome told (λ files. (f at : ℕ) → IsStoreDamagedAt asked files f at → ⊥)

-- Why there is a refusal, and what it leaves.
pub record OpeningRefused (asked : Asked) (fault : OpenFault) (before after : Told) : Type 0 where
  -- it has its ground in what is told; no store that stands for a state is of another make or damaged
  pub ground : HasGround asked before.files fault
  pub whole : DeniesState fault → ForSome before.files (λ files. (state : State) → HasState state files → ⊥)
  -- what isn't ours, or was asked otherwise, stays as it is told; and a stop leaves it, but for the head's gate
  pub same : IsUnwanted fault → after.files ≡ before.files
  pub same_stops : IsUnwanted fault → LeavesBy (ChangesFile head_file IsOpened) before after
  -- a made store's state is told still, and of one that wasn't made that or the new store's
  pub told_err : (state : State) → ForSome before.files (λ files. HasState state files
      → ForSome after.files (HasOneOf state (entered_state asked state)))
  -- a store that wasn't made yet still isn't, but that a failed call may have made it
  pub blank : fault ≢ Failed → ForSome before.files (λ files. IsBlank files → ForSome after.files IsBlank)
  pub blank_stops : fault ≢ Failed → ((image : Files) → before.images image → IsBlank image)
      → Leaves before after IsBlank

-- What entering does to the store, whatever is answered; `failed` says that it is a fault of the store.
pub record EntersStore (asked : Asked) (failed : Type 0) (before after : Told) : Type 0 where
  -- the store is entered at most, and a stop at any moment leaves no more
  pub files : TellsBy (Enters asked before.files) before.files after.files
  pub steps : LeavesBy (Enters asked before.files) before after
  -- so it leaves a made store's state, and of one that wasn't made that or the new store's
  pub stops : (state : State) → ((image : Files) → before.images image → HasState state image)
      → Leaves before after (HasOneOf state (entered_state asked state))
  -- no byte is read but of the store's journals, and of a crawl's judged offers
  pub taken : TakesAmong (IsReadFile asked before.files) before.taken after.taken
  pub cause : HasCause failed before.faults after.faults
