-- Bytes at the front of a file that only grow. What lies past the committed ones means nothing: each predicate on a
-- file is "begins with".
use Rattle.std.specs.Prelude.{◌≡◌, ℕ, List, ◌++◌, length}
use Rattle.irl_disk.specs.Disk.{Files}

-- a blob as contracts see it: its file, and how many bytes at the file's front are committed
pub record Front : Type 0 where
  pub file : ℕ
  pub length : ℕ

-- a file begins with these bytes
abbrev pub BeginsWith : List ℕ → List ℕ → Type 0
BeginsWith file bytes = (rest : List ℕ) × (file ≡ bytes ++ rest)

-- the n bytes that the old file begins with, the new one begins with too
abbrev pub KeepsFront : ℕ → List ℕ → List ℕ → Type 0
KeepsFront n old new = (held : List ℕ) → length held ≡ n → BeginsWith old held → BeginsWith new held

-- a blob's committed bytes are these: in each joint image that a stop now may leave its file begins with them
pub record IsCommitted (images : Files → Type 0) (blob : Front) (held : List ℕ) : Type 0 where
  pub size : length held ≡ blob.length
  pub each : (image : Files) → images image → BeginsWith (image blob.file) held
