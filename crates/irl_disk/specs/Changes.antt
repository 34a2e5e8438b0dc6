-- What the steps of a store in memory make of its files' bytes.
use Rattle.std.specs.Prelude.{◌≡◌, ℕ, ◌+◌, ◌%◌, ◌<◌, nat_eq, Bool, ◌&&◌, if◌then◌else◌, List, length, get_or, min, Vec}
use Rattle.std.specs.BTreeMap.{BTreeMap}
use Rattle.std.specs.declared.alloc.Global.{Global}
use Rattle.irl_disk.specs.Disk.{ChangesFile}
use Rattle.irl_disk.specs.Model.{after_write, at_rest, is_in}
use Rattle.irl_disk.specs.Calls.{files_of}

-- one file changes by a step
abbrev pub Writes : ℕ → (List ℕ → List ℕ → Type 0) → BTreeMap ℕ (Vec ℕ Global) → BTreeMap ℕ (Vec ℕ Global) → Type 0
Writes f step old new = ChangesFile f step (files_of old) (files_of new)

-- every file stays
abbrev pub AllStay : BTreeMap ℕ (Vec ℕ Global) → BTreeMap ℕ (Vec ℕ Global) → Type 0
AllStay old new = (f : ℕ) → files_of new f ≡ files_of old f

-- new has `A5` at the odd places of a range, and is old elsewhere
pub record TearsRange (start end : ℕ) (old new : List ℕ) : Type 0 where
  pub long : length new ≡ length old
  pub each : (i : ℕ) → i < length old → get_or new i 0
      ≡ (if nat_eq (i % 2) 1 && is_in i (start, end) then 165 else get_or old i 0)

-- a torn file after one more write
abbrev pub TornNext : Bool → ℕ → List ℕ → List ℕ → List ℕ → Type 0
TornNext is_done at bytes old new = TearsRange (min at (length old)) (min at (length old) + length bytes)
    (after_write is_done at bytes (at_rest old)).now new
