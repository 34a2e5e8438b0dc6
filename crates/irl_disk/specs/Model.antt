-- The disk model: what a disk has of a file after some calls, and what a stop then may leave.
--
-- Between two syncs of a file, each range that was written and the part past the synced length may hold any bytes after
-- a stop. The length is then any number from the least to the greatest since the last sync. All other bytes stay. After
-- a sync that succeeds a stop leaves what a read gives. A stop takes one such image of every file at one moment.
use Rattle.std.specs.Prelude.{◌≡◌, ℕ, ◌+◌, ◌%◌, ◌<◌, ◌≤◌, nat_eq, nat_lt, nat_le, min, max, Bool, false, ◌&&◌, ◌||◌, if◌then◌else◌, List, [], ◌∷◌, ◌++◌, length, take, drop, get_or}
use Rattle.irl_disk.specs.Disk.{Files}

-- what the disk has of one file
pub record FileState : Type 0 where
  -- what a read gives
  pub now : List ℕ
  -- what a read gave at the last sync
  pub synced : List ℕ
  -- the ranges that were written since, each by its first place and the one behind its last
  pub unsynced : List (ℕ × ℕ)
  -- the least and the greatest length since
  pub least : ℕ
  pub greatest : ℕ

-- a file of which all is synced
abbrev pub at_rest : List ℕ → FileState
at_rest bytes = record { now = bytes; synced = bytes; unsynced = []; least = length bytes; greatest = length bytes }

-- a write of these bytes; one that failed changes nothing that a read gives. What would begin past the end begins at it
abbrev pub after_write : Bool → ℕ → List ℕ → FileState → FileState
after_write is_done at bytes s =
    let start = min at (length s.now) in
    record {
      now = if is_done then take start s.now ++ bytes ++ drop (start + length bytes) s.now else s.now;
      synced = s.synced;
      unsynced = (start, start + length bytes) ∷ s.unsynced;
      least = s.least;
      greatest = max s.greatest (start + length bytes);
    }

-- a cut to a length; one that failed changes nothing that a read gives
abbrev pub after_cut : Bool → ℕ → FileState → FileState
after_cut is_done to s = record {
  now = if is_done then take to s.now else s.now;
  synced = s.synced;
  unsynced = s.unsynced;
  least = min s.least to;
  greatest = s.greatest;
}

-- a sync; one that failed leaves unsynced what was
abbrev pub after_sync : Bool → FileState → FileState
after_sync is_done s = if is_done then at_rest s.now else s

-- whether a place is in a range
abbrev pub is_in : ℕ → ℕ × ℕ → Bool
is_in i range = nat_le range.0 i && nat_lt i range.1

-- whether a place is in one of the ranges that were written since the last sync
abbrev pub is_written : List (ℕ × ℕ) → ℕ → Bool
is_written [] i = false
is_written (range ∷ ranges) i = is_in i range || is_written ranges i

-- whether a stop may leave any byte at a place
abbrev pub is_free : FileState → ℕ → Bool
is_free s i = nat_le (length s.synced) i || is_written s.unsynced i

-- what a stop may leave of the file
pub record IsFileImage (s : FileState) (image : List ℕ) : Type 0 where
  pub no_shorter : s.least ≤ length image
  pub no_longer : length image ≤ s.greatest
  pub kept : (i : ℕ) → i < length image → is_free s i ≡ false → get_or image i 0 ≡ get_or s.synced i 0

-- and of all files at once
abbrev pub AreImages : (ℕ → FileState) → Files → Type 0
AreImages states image = (f : ℕ) → IsFileImage (states f) (image f)

-- a byte of a torn file: `A5` at an odd place of an unsynced range, else what a read gives
abbrev pub torn_byte : FileState → ℕ → ℕ → ℕ
torn_byte s i byte = if nat_eq (i % 2) 1 && is_written s.unsynced i then 165 else byte

-- what a read gives, torn
pub record IsTorn (s : FileState) (bytes : List ℕ) : Type 0 where
  pub long : length bytes ≡ length s.now
  pub each : (i : ℕ) → i < length bytes → get_or bytes i 0 ≡ torn_byte s i (get_or s.now i 0)
