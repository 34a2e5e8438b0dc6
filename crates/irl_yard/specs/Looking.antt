-- Looking at a store: one that was made is opened with the settings that it has, and none is made.
use Rattle.std.specs.Prelude.{◌≡◌, ◌⊎◌, ℕ, Option, ⊤}
use Rattle.std.specs.Option.{ForSome}
use Rattle.irl_base.specs.Faults.{HasCause}
use Rattle.irl_offer.specs.Settings.{AreValid}
use Rattle.irl_offer.specs.declared.settings.Asked.{Asked}
use Rattle.irl_offer.specs.declared.settings.Kind.TheVariants.{Crawl}
use Rattle.irl_offer.specs.declared.settings.Settings.{Settings}
use Rattle.irl_events.specs.State.{State}
use Rattle.irl_disk.specs.Disk.{Files, ChangesFile, TellsBy}
use Rattle.irl_disk.specs.Effects.{ReadsAndChanges}
use Rattle.irl_disk.specs.Images.{Told, Leaves, LeavesBy}
use Rattle.irl_disk.specs.Taken.{TakesAmong}
use Rattle.irl_disk.specs.declared.store.Store.{Ghosts}
use Rattle.irl_journal.specs.Visiting.{IsOpened}
use Rattle.irl_head.specs.StoreFiles.{head_file, urls_base, pairs_base}
use Rattle.irl_head.specs.Asking.{Agrees}
use Rattle.irl_head.specs.Opening.{HasHead, IsBlank}
use Rattle.irl_head.specs.declared.open_fault.OpenFault.{OpenFault}
use Rattle.irl_head.specs.declared.open_fault.OpenFault.TheVariants.{NotOurs, Damaged, OtherSettings, BadSettings, Failed, Memory}
use Rattle.irl_yard.specs.Standing.{HasState}
use Rattle.irl_yard.specs.Holding.{HoldsState}
use Rattle.irl_yard.specs.Entering.{IsStoreJournal, IsJudgedFile, OpensStore, OpensYard, OpeningRefused}
use Rattle.irl_yard.specs.declared.parts.Parts.{Parts}
use Rattle.irl_yard.specs.declared.look.Looked.{Looked}
use Rattle.irl_yard.specs.declared.look.Looked.TheVariants.{Blank, Made}

-- what is asked is as it is kept: as the head says, where it has settings
abbrev pub IsAskedAsKept : Asked → Option Files → Type 0
IsAskedAsKept asked told = ForSome told (λ files. (settings : Settings) → HasHead settings files
    → Agrees asked settings)

-- a store is opened at most, as someone may ask for it
abbrev pub OpensAsKept : Option Files → Files → Files → Type 0
OpensAsKept told old new = (asked : Asked) × OpensStore asked told old new

-- the files of which a store that is looked at may be read: the head, and where that has settings, the journals of such
-- a store, and of one of a crawl the judged offers
abbrev pub IsLookedFile : Option Files → ℕ → Type 0
IsLookedFile told f = (f ≡ head_file)
    ⊎ ((settings : Settings) × AreValid settings × ForSome told (HasHead settings)
    × (IsStoreJournal settings.kind settings.buckets f
    ⊎ ((settings.kind ≡ Crawl) × (IsJudgedFile urls_base f ⊎ IsJudgedFile pairs_base f))))

-- a refusal names what was asked
abbrev pub NamesAsked : OpenFault → Type 0
NamesAsked (NotOurs at) = ⊥
NamesAsked (Damaged f at) = ⊥
NamesAsked (OtherSettings n kept wanted) = ⊤
NamesAsked (BadSettings n) = ⊤
NamesAsked Failed = ⊥
NamesAsked Memory = ⊥

-- ---- what is answered
-- What looking does to the store, whatever is answered; `failed` says that it is a fault of the store.
pub record LooksAtStore (failed : Type 0) (before after : Told) : Type 0 where
  -- the store is opened at most, and a stop at any moment leaves no more
  pub files : TellsBy (OpensAsKept before.files) before.files after.files
  pub steps : LeavesBy (OpensAsKept before.files) before after
  -- so its state is told still, and a stop leaves it
  pub told : (state : State) → ForSome before.files (λ files. HasState state files
      → ForSome after.files (HasState state))
  pub stops : (state : State) → ((image : Files) → before.images image → HasState state image)
      → Leaves before after (HasState state)
  pub taken : TakesAmong (IsLookedFile before.files) before.taken after.taken
  pub cause : HasCause failed before.faults after.faults

-- No store was made yet, and none is: what is told stays.
pub record LooksBlank (before after : Told) : Type 0 where
  pub blank : ForSome before.files IsBlank
  pub same : after.files ≡ before.files
  -- a stop leaves each file as it was, but for the head's gate, and no byte is read but of the head
  pub changes : ReadsAndChanges (λ f. f ≡ head_file) (ChangesFile head_file IsOpened) ⊥ before after
  pub looks : LooksAtStore ⊥ before after

-- A store is open that was made with the settings that it has.
pub record LooksMade (parts : Parts) (before after : Told) : Type 0 where
  pub head : ForSome before.files (HasHead parts.urls.settings)
  -- it is opened as for whoever asks for these,
  pub opens : (asked : Asked) → Agrees asked parts.urls.settings → OpensYard asked parts before.files after
  -- and holds the state for which its files stand
  pub holds : ForSome before.files (λ files. (state : State) → HasState state files
      → HoldsState after.images parts state)
  pub looks : LooksAtStore ⊥ before after

-- by what was found
abbrev pub LooksAs : {S : Type 0} {tells : Ghosts S} → Told → Looked S tells → Type 0
LooksAs {S} {tells} before (Blank store) = LooksBlank before (tells.told store)
LooksAs {S} {tells} before (Made yard) = LooksMade yard.parts before (tells.told yard.store)

-- Why a look is refused, and what it leaves.
pub record LookRefused (fault : OpenFault) (before after : Told) : Type 0 where
  -- as whoever asks for what is kept is refused
  pub refused : (asked : Asked) → IsAskedAsKept asked before.files → OpeningRefused asked fault before after
  -- no store whose files stand for a state, that of one that wasn't made too, is refused but as failed or for want of
  -- memory,
  pub own : ForSome before.files (λ files. (state : State) → HasState state files
      → (fault ≡ Failed) ⊎ (fault ≡ Memory))
  -- and none by what was asked
  pub unasked : NamesAsked fault → ⊥
  pub looks : LooksAtStore (fault ≡ Failed) before after
