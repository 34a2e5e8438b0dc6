-- A store of numbered files, each a list of bytes, and what each call does to what a read gives.
use Rattle.std.specs.Prelude.{◌≡◌, ◌≢◌, ℕ, ◌+◌, ◌-◌, ◌≤◌, min, max, List, ◌++◌, length, take, drop, Option, None, Some}

-- the bytes of each file, by its number
abbrev pub Files : Type 0
Files = ℕ → List ℕ

-- new is old with these bytes at this place
abbrev pub Holds : ℕ → List ℕ → List ℕ → List ℕ → Type 0
Holds at bytes old new = new ≡ take at old ++ bytes ++ drop (at + length bytes) old

-- what a failed write of n bytes leaves: any bytes in its range and past the old end, the same elsewhere
pub record Scribbled (at n : ℕ) (old new : List ℕ) : Type 0 where
  pub before : take at new ≡ take at old
  pub after : drop (at + n) new ≡ drop (at + n) old
  pub no_shorter : length old ≤ length new
  pub no_longer : length new ≤ max (length old) (at + n)

-- new is the prefix of this length of old
abbrev pub IsPrefix : ℕ → List ℕ → List ℕ → Type 0
IsPrefix n old new = new ≡ take n old

-- what a failed cut to n bytes leaves: any prefix of at least n bytes
pub record PartlyCut (n : ℕ) (old new : List ℕ) : Type 0 where
  pub no_shorter : min n (length old) ≤ length new
  pub prefix : new ≡ take (length new) old

-- one file changes by a step, and every other file stays
pub record ChangesFile (f : ℕ) (step : List ℕ → List ℕ → Type 0) (old new : Files) : Type 0 where
  pub changed : step (old f) (new f)
  pub others : (g : ℕ) → g ≢ f → new g ≡ old g

-- only these files change, each by its step
pub record ChangesAmong (among : ℕ → Type 0) (step : ℕ → List ℕ → List ℕ → Type 0) (old new : Files) : Type 0 where
  pub changed : (f : ℕ) → among f → step f (old f) (new f)
  pub others : (f : ℕ) → (among f → ⊥) → new f ≡ old f

-- What is told changes by a step. A store that tells nothing goes on telling nothing.
abbrev pub TellsBy : (Files → Files → Type 0) → Option Files → Option Files → Type 0
TellsBy step None new = new ≡ None
TellsBy step (Some old) new = (files : Files) × (new ≡ Some files) × step old files

-- only some files differ
abbrev pub ChangesOnly : (ℕ → Type 0) → Files → Files → Type 0
ChangesOnly among old new = (f : ℕ) → (among f → ⊥) → new f ≡ old f

-- the same of what is told
abbrev pub TellsOnly : (ℕ → Type 0) → Option Files → Option Files → Type 0
TellsOnly among old new = TellsBy (ChangesOnly among) old new

-- one file changes by a step, of what is told
abbrev pub Changes : ℕ → (List ℕ → List ℕ → Type 0) → Option Files → Option Files → Type 0
Changes f step old new = TellsBy (ChangesFile f step) old new

-- a read of a slice of this length from this place gave n bytes of the file: as many as there are, at most the slice's
-- length
pub record Reads (at len n : ℕ) (into file : List ℕ) : Type 0 where
  pub count : n ≡ min len (length file - at)
  pub bytes : take n into ≡ take n (drop at file)
