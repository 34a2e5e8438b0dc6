-- A call of a store, by what was asked.
use Rattle.std.specs.Prelude.{ℕ, List}

pub data DeviceCall : Type 0 where
  -- the length of a file
  Length : ℕ → DeviceCall
  -- a read of a file from a place into a slice of this length
  Read : ℕ → ℕ → ℕ → DeviceCall
  -- a write of a file at a place
  Write : ℕ → ℕ → List ℕ → DeviceCall
  -- a cut of a file to a length
  Cut : ℕ → ℕ → DeviceCall
  Sync : ℕ → DeviceCall
