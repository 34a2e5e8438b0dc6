-- A store that a run opens, and one that stays closed.
use Rattle.std.specs.Prelude.{◌≡◌, ℕ}
use Rattle.irl_disk.specs.Disk.{Files, TellsBy}
use Rattle.irl_disk.specs.Images.{LeavesBy}
use Rattle.irl_head.specs.Asking.{Agrees}
use Rattle.irl_head.specs.Opening.{HasSettings, IsNotOursAt}
use Rattle.irl_offer.specs.Settings.{AreValid}
use Rattle.irl_offer.specs.declared.settings.Asked.{Asked}
use Rattle.irl_offer.specs.declared.settings.Settings.{Settings}
use Rattle.irl_yard.specs.Entering.{Enters}
use Rattle.irl_yard.specs.Opening.{IsStoreDamagedAt}
use Rattle.irl_top.specs.Message.{IsLate}
use Rattle.irl_top.specs.Outside.{Lent}
use Rattle.irl_top.specs.declared.ending.Ending.{Ending}

-- a store that is opened: it is of our make and shows no damage, and it was made as is asked, or it wasn't made yet and
-- can be
pub record IsOpenable (asked : Asked) (files : Files) : Type 0 where
  pub settings : Settings
  pub has : HasSettings asked files settings
  pub valid : AreValid settings
  pub agrees : Agrees asked settings
  pub ours : (at : ℕ) → IsNotOursAt files at → ⊥
  pub undamaged : (f at : ℕ) → IsStoreDamagedAt asked files f at → ⊥

-- One that isn't: it is entered at most, which a store that is of another make or damaged bears, and nothing is read or
-- written.
pub record StaysClosed (asked : Asked) (before after : Lent) (ending : Ending) : Type 0 where
  pub files : TellsBy (Enters asked before.store.files) before.store.files after.store.files
  pub steps : LeavesBy (Enters asked before.store.files) before.store after.store
  pub input : after.input ≡ before.input
  pub output : after.output ≡ before.output
  pub late : IsLate ending → ⊥
