-- What opening a store finds of its head, and what it refuses by that.
use Rattle.std.specs.Prelude.{◌≡◌, ◌⊎◌, ℕ, ◌<◌, ◌≤◌, List, [], ◌∷◌, ◌++◌, length, ⊤}
use Rattle.irl_offer.specs.Settings.{AreValid, settings_of}
use Rattle.irl_offer.specs.declared.settings.Asked.{Asked}
use Rattle.irl_offer.specs.declared.settings.Settings.{Settings}
use Rattle.irl_disk.specs.Disk.{Files}
use Rattle.irl_journal.specs.Format.{HasRecords, StandsFor, IsPayload, record_text, open_gate}
use Rattle.irl_head.specs.declared.open_fault.OpenFault.{OpenFault}
use Rattle.irl_head.specs.declared.open_fault.OpenFault.TheVariants.{NotOurs, Damaged, OtherSettings, BadSettings, Failed, Memory}
use Rattle.irl_head.specs.StoreFiles.{head_file, IsOtherFile}
use Rattle.irl_head.specs.Head.{head_bytes, IsNoHeadAt}
use Rattle.irl_head.specs.Asking.{IsOther, IsBadAsked}

-- ---- what is kept
-- a store that wasn't made yet: its head has no record, and every other file has at most one byte
pub record IsBlank (files : Files) : Type 0 where
  pub head : StandsFor (files head_file) []
  pub others : (f : ℕ) → IsOtherFile f → length (files f) ≤ 1

-- a store that wasn't made yet isn't made yet
abbrev pub KeepsBlank : Files → Files → Type 0
KeepsBlank old new = IsBlank old → IsBlank new

-- the head has settings, which lie in their ranges
pub record HasHead (settings : Settings) (files : Files) : Type 0 where
  pub valid : AreValid settings
  pub head : StandsFor (files head_file) (head_bytes settings ∷ [])

-- the settings with which these files are opened: those of the head, or what was asked, where the store wasn't made yet
abbrev pub HasSettings : Asked → Files → Settings → Type 0
HasSettings asked files settings = HasHead settings files ⊎ (IsBlank files × (settings ≡ settings_of asked))

-- a stop leaves the head with these settings
abbrev pub KeepsHead : (Files → Type 0) → Settings → Type 0
KeepsHead images settings = (image : Files) → images image → HasRecords (image head_file) (head_bytes settings ∷ [])

-- ---- what is refused
-- the head's first record, with the gate behind it
pub record HasFirst (file payload : List ℕ) (gate : ℕ) : Type 0 where
  pub rest : List ℕ
  pub bytes : file ≡ record_text payload ++ gate ∷ rest
  pub fits : IsPayload payload

-- The store is of another make: its head has no record and another file has more than one byte; or its first record is
-- no head, by its first place that isn't; or a second record is open.
abbrev pub IsNotOursAt : Files → ℕ → Type 0
IsNotOursAt files at =
    (StandsFor (files head_file) [] × ((f : ℕ) × IsOtherFile f × (1 < length (files f))) × (at ≡ 0))
    ⊎ ((payload : List ℕ) × (gate : ℕ) × HasFirst (files head_file) payload gate × IsNoHeadAt payload at)
    ⊎ ((settings : Settings) × AreValid settings × (gate : ℕ) × HasFirst (files head_file) (head_bytes settings) gate
    × (gate ≡ open_gate) × (at ≡ 105))

-- the store was made otherwise than is asked
abbrev pub IsKeptOtherwise : Asked → Files → ℕ → ℕ → ℕ → Type 0
IsKeptOtherwise asked files n kept wanted = (settings : Settings) × HasHead settings files
    × IsOther asked settings n kept wanted

-- a store that wasn't made yet can't be made as is asked
abbrev pub IsBadStore : Asked → Files → ℕ → Type 0
IsBadStore asked files n = IsBlank files × IsBadAsked (settings_of asked) n

-- ---- a refusal
-- it says that the files stand for no state
abbrev pub DeniesState : OpenFault → Type 0
DeniesState (NotOurs at) = ⊤
DeniesState (Damaged f at) = ⊤
DeniesState (OtherSettings n kept wanted) = ⊥
DeniesState (BadSettings n) = ⊥
DeniesState Failed = ⊥
DeniesState Memory = ⊥

-- the store is of another make, or something else was asked than there is or may be
abbrev pub IsUnwanted : OpenFault → Type 0
IsUnwanted (NotOurs at) = ⊤
IsUnwanted (Damaged f at) = ⊥
IsUnwanted (OtherSettings n kept wanted) = ⊤
IsUnwanted (BadSettings n) = ⊤
IsUnwanted Failed = ⊥
IsUnwanted Memory = ⊥
