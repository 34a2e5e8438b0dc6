-- The calls of a store, what each makes of the files, and what a store has after some.
use Rattle.std.specs.Prelude.{◌≡◌, ◌≢◌, ℕ, ◌+◌, ◌^◌, ◌<◌, ◌≤◌, nat_eq, min, Bool, true, false, ◌⊎◌, if◌then◌else◌, List, [], ◌∷◌, ◌++◌, length, take, Vec, Option, None, Some}
use Rattle.std.specs.Ordering.{nat_cmp}
use Rattle.std.specs.Map.{lookup}
use Rattle.std.specs.BTreeMap.{BTreeMap, get, is_at}
use Rattle.std.specs.declared.alloc.Global.{Global}
use Rattle.irl_disk.specs.declared.calls.Call.{Call}
use Rattle.irl_disk.specs.declared.calls.Call.TheVariants.{Query, Write, Cut, Sync}
use Rattle.irl_disk.specs.declared.calls.LoggedCall.{LoggedCall}
use Rattle.irl_disk.specs.declared.calls.Part.{Part}
use Rattle.irl_disk.specs.declared.calls.Part.TheVariants.{Old, New, Torn}
use Rattle.irl_disk.specs.DeviceCall as device
use Rattle.irl_disk.specs.DeviceCall.{DeviceCall}
use Rattle.irl_disk.specs.Disk.{Files}
use Rattle.irl_disk.specs.Model.{FileState, at_rest, after_write, after_cut, after_sync, AreImages, IsTorn}

-- the bytes of a file that may never have been written
abbrev pub bytes_of : Option (Vec ℕ Global) → List ℕ
bytes_of None = []
bytes_of (Some bytes) = bytes.items

-- each file's bytes
abbrev pub files_of : BTreeMap ℕ (Vec ℕ Global) → Files
files_of kept f = bytes_of (get nat_cmp kept f)

-- the same of a map's entries
abbrev pub files_among : List (ℕ × Vec ℕ Global) → Files
files_among kept f = bytes_of (lookup (is_at (nat_cmp f)) kept)

-- what a call makes of file f
abbrev pub after_call : Call → Bool → ℕ → FileState → FileState
after_call Query is_done f s = s
after_call (Write file at bytes) is_done f s = if nat_eq f file then after_write is_done at bytes.items s else s
after_call (Cut file to) is_done f s = if nat_eq f file then after_cut is_done to s else s
after_call (Sync file) is_done f s = if nat_eq f file then after_sync is_done s else s

-- what a call that was made, done or not, makes of file f
abbrev pub after_entry : LoggedCall → ℕ → FileState → FileState
after_entry entry f s = after_call entry.call entry.is_done f s

-- and all of them, from the first on
abbrev pub after_entries : List LoggedCall → ℕ → FileState → FileState
after_entries [] f s = s
after_entries (entry ∷ entries) f s = after_entries entries f (after_entry entry f s)

-- what a read gives of file f once a call is done
abbrev pub read_after : Call → ℕ → List ℕ → List ℕ
read_after call f bytes = (after_call call true f (at_rest bytes)).now

-- the files that a store began with, all of them synced, and its calls since
pub record History : Type 0 where
  pub first : List (ℕ × Vec ℕ Global)
  pub entries : List LoggedCall

-- what the disk has of each file after the first of the calls
abbrev pub states_at : ℕ → History → ℕ → FileState
states_at count h f = after_entries (take count h.entries) f (at_rest (files_among h.first f))

-- and after all
abbrev pub states : History → ℕ → FileState
states h f = after_entries h.entries f (at_rest (files_among h.first f))

-- what a stop after at least t calls may have left
abbrev pub ImagesSince : History → ℕ → Files → Type 0
ImagesSince h t image = (count : ℕ) × (t ≤ count) × (count ≤ length h.entries) × AreImages (states_at count h) image

-- one more call was made
pub record Logs (call : Call) (is_done : Bool) (old new : History) : Type 0 where
  pub first : new.first ≡ old.first
  pub entries : new.entries ≡ old.entries ++ record { call = call; is_done = is_done } ∷ []

-- one more write was made, of these bytes
abbrev pub LogsWrite : ℕ → ℕ → List ℕ → Bool → History → History → Type 0
LogsWrite file at bytes is_done old new = (kept : Vec ℕ Global) × (kept.items ≡ bytes)
    × Logs (Write file at kept) is_done old new

-- A call was made and logged, as done where it answered Ok. One that found no memory to be logged was not made, and a
-- read may fail behind its call.
abbrev pub IsLogged : DeviceCall → Bool → History → History → Type 0
IsLogged (device.Length file) true old new = Logs Query true old new
IsLogged (device.Length file) false old new = (new ≡ old) ⊎ Logs Query false old new
IsLogged (device.Read file at len) true old new = Logs Query true old new
IsLogged (device.Read file at len) false old new = (new ≡ old) ⊎ ((is_done : Bool) × Logs Query is_done old new)
IsLogged (device.Write file at bytes) true old new = LogsWrite file at bytes true old new
IsLogged (device.Write file at bytes) false old new = (new ≡ old) ⊎ LogsWrite file at bytes false old new
IsLogged (device.Cut file to) true old new = Logs (Cut file to) true old new
IsLogged (device.Cut file to) false old new = (new ≡ old) ⊎ Logs (Cut file to) false old new
IsLogged (device.Sync file) true old new = Logs (Sync file) true old new
IsLogged (device.Sync file) false old new = (new ≡ old) ⊎ Logs (Sync file) false old new

-- what the disk has of one file changes by a step, and that of every other file stays
pub record ChangesState (file : ℕ) (step : FileState → FileState) (old new : History) : Type 0 where
  pub changed : states new file ≡ step (states old file)
  pub others : (f : ℕ) → f ≢ file → states new f ≡ states old f

-- what a call writes ends at a place that fits
abbrev pub EndsWithin : Call → Files → Type 0
EndsWithin (Write file at bytes) files = min at (length (files file)) + length bytes.items < 2 ^ 64
EndsWithin call files = Unit {0}

-- a part that a stop may leave of a file
abbrev pub IsPart : Part → FileState → List ℕ → Type 0
IsPart Old s bytes = bytes ≡ s.synced
IsPart New s bytes = bytes ≡ s.now
IsPart Torn s bytes = IsTorn s bytes

-- a part of each file goes on over one more entry, where `now` is what a read gave before it
abbrev pub ShowsNext : Part → LoggedCall → Files → Files → Files → Type 0
ShowsNext part entry now old new = (f : ℕ) (s : FileState) → now f ≡ s.now → IsPart part s (old f)
    → IsPart part (after_entry entry f s) (new f)
