-- Syncs that failed, and what is remembered of them.
use Rattle.std.specs.Prelude.{◌≡◌, ℕ, Bool, false, true, ◌||◌, slice_index_or}
use Rattle.irl_disk.specs.DeviceCall.{DeviceCall, Sync}
use Rattle.irl_files.specs.declared.lost.Lost.{Lost}

-- a sync of this file, or of a folder, has failed
abbrev pub is_lost : Lost → ℕ → Bool
is_lost lost f = lost.has_folder || slice_index_or lost.files.items f false

-- each failed sync of before is one now
abbrev pub KeepsLost : Lost → Lost → Type 0
KeepsLost old new = (f : ℕ) → is_lost old f ≡ true → is_lost new f ≡ true

-- a sync is answered Ok only where none of its file failed before, and one that fails is one that failed
abbrev pub FailsOnce : DeviceCall → Bool → Lost → Lost → Type 0
FailsOnce (Sync f) true old new = is_lost old f ≡ false
FailsOnce (Sync f) false old new = is_lost new f ≡ true
FailsOnce call is_ok old new = Unit {0}

-- What a call of a store leaves of the failed syncs. So after a failed sync of a file each later one of it fails.
pub record Remembers (call : DeviceCall) (is_ok : Bool) (old new : Lost) : Type 0 where
  pub kept : KeepsLost old new
  pub once : FailsOnce call is_ok old new
