-- What a store in memory holds that fails only where it must, and what each of its calls does.
use Rattle.std.specs.Prelude.{◌≡◌, ℕ, ◌+◌, ◌-◌, ◌^◌, ◌<◌, ◌≤◌, ◌↔◌, min, Bool, false, if◌then◌else◌, List, [], ◌∷◌, length, take, drop, get_or, Some}
use Rattle.std.specs.List.{sum_by}
use Rattle.irl_base.specs.Faults.{counted}
use Rattle.irl_disk.specs.DeviceCall.{DeviceCall, Length, Read, Write, Cut, Sync}
use Rattle.irl_disk.specs.Disk.{Files}
use Rattle.irl_disk.specs.Images.{Told}

-- bytes cut into pieces of these lengths, one behind the other
abbrev pub pieces : List ℕ → List ℕ → List (List ℕ)
pieces [] bytes = []
pieces (n ∷ lengths) bytes = take n bytes ∷ pieces lengths (drop n bytes)

-- each piece, by its number
abbrev pub files_cut : List ℕ → List ℕ → Files
files_cut lengths bytes f = get_or (pieces lengths bytes) f []

-- what a file has that was given this length: its bytes as far as both go, and then any
pub record Resized (to : ℕ) (old new : List ℕ) : Type 0 where
  pub long : length new ≡ to
  pub kept : (n : ℕ) → n ≤ to → n ≤ length old → take n new ≡ take n old

-- what the store holds
pub record Held : Type 0 where
  -- the bytes of each file, by its number
  pub files : List (List ℕ)
  -- how many bytes the reads of each have given
  pub taken : List ℕ
  -- how many bytes the files may have together
  pub room : ℕ
  -- how often the store has failed
  pub faults : ℕ

-- what a read gives of each file
abbrev pub sure_files : Held → Files
sure_files store f = get_or store.files f []

-- how many bytes the reads of each file have given
abbrev pub sure_taken : Held → ℕ → ℕ
sure_taken store f = get_or store.taken f 0

-- how many bytes the files have together
abbrev pub bytes_held : Held → ℕ
bytes_held store = sum_by (λ file. length file) store.files

-- what a store tells of which a stop leaves what a read gives, and nothing earlier
abbrev pub settled : Files → (ℕ → ℕ) → ℕ → Told
settled files taken faults =
    record {
      files = Some files;
      images = λ image. image ≡ files;
      moment = 0;
      since = λ t image. image ≡ files;
      taken = Some taken;
      faults = faults;
    }

abbrev pub told_surely : Held → Told
told_surely store = settled (sure_files store) (sure_taken store) store.faults

-- The calls that fail: a read that would carry the count of bytes taken past the last `u64`, and a write that would
-- carry the lengths of the files together past the room.
abbrev pub Overruns : DeviceCall → Held → Type 0
Overruns (Length f) store = ⊥
Overruns (Read f at len) store = 2 ^ 64 ≤ sure_taken store f + min len (length (sure_files store f) - at)
Overruns (Write f at bytes) store = store.room < bytes_held store + (at + length bytes - length (sure_files store f))
Overruns (Cut f to) store = ⊥
Overruns (Sync f) store = ⊥

-- One call of such a store, by whether it answered Ok.
pub record SureCall (call : DeviceCall) (is_ok : Bool) (old new : Held) : Type 0 where
  -- a call fails exactly where it must
  pub failed : is_ok ≡ false ↔ Overruns call old
  -- and then changes no file and no count of bytes taken
  pub kept : is_ok ≡ false → (new.files ≡ old.files) × (new.taken ≡ old.taken)
  -- the count of faults rises by one where the call failed, and else stays
  pub faults : new.faults ≡ (if is_ok then old.faults else counted old.faults)
  pub room : new.room ≡ old.room
