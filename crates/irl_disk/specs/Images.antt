-- What a store tells at one moment, and what a stop then may leave. A joint image gives the bytes of every file as they
-- stand after a stop at one moment.
use Rattle.std.specs.Prelude.{◌≡◌, ◌⊎◌, ℕ, ◌≤◌, Option, None, Some}
use Rattle.irl_disk.specs.Disk.{Files}

pub record Told : Type 1 where
  -- the bytes of each file, where the store tells them: what a read gives
  pub files : Option Files
  -- the joint images that a stop now may leave
  pub images : Files → Type 0
  -- a number that never falls
  pub moment : ℕ
  -- the joint images that a stop at some moment from that one on may have left, during a call or between two
  pub since : ℕ → Files → Type 0
  -- how many bytes the reads of each file have given, where the store tells it
  pub taken : Option (ℕ → ℕ)
  -- how often the store has failed: a number that never falls, and stands still at 2 ^ 64 - 1
  pub faults : ℕ

-- what holds of all that a store tells
pub record IsConsistent (now : Told) : Type 0 where
  -- what a read gives is what a stop now may leave
  pub told : (files : Files) → now.files ≡ Some files → now.images files
  -- a store that tells nothing has no images
  pub tells : (image : Files) → now.images image → (files : Files) × (now.files ≡ Some files)
  -- what a stop now may leave is among what stops since an earlier moment may
  pub counts : (t : ℕ) (image : Files) → t ≤ now.moment → now.images image → now.since t image
  -- a stop since now is a stop now
  pub only : (image : Files) → now.since now.moment image → now.images image
  -- a stop since a moment is one since each moment before it
  pub earlier : (t u : ℕ) (image : Files) → t ≤ u → now.since u image → now.since t image

-- the joint images that a step makes of these
abbrev pub Follows : (Files → Files → Type 0) → (Files → Type 0) → Files → Type 0
Follows step images new = (old : Files) × images old × step old new

-- From what a store tells to what it tells later, a stop at any moment leaves a joint image that has P; and of those
-- since an earlier moment each is one that could be left by then, or has P.
pub record Leaves (old new : Told) (P : Files → Type 0) : Type 0 where
  -- the clock never goes back
  pub later : old.moment ≤ new.moment
  pub each : (image : Files) → new.since old.moment image → P image
  pub before : (t : ℕ) (image : Files) → t ≤ old.moment → new.since t image → old.since t image ⊎ P image

-- a stop at any moment between two leaves what was left before the first, after this step
abbrev pub LeavesBy : (Files → Files → Type 0) → Told → Told → Type 0
LeavesBy step old new = Leaves old new (Follows step old.images)

-- a stop at any moment between two leaves what was left before the first
abbrev pub LeavesSame : Told → Told → Type 0
LeavesSame old new = Leaves old new old.images

-- what a store tells that tells only how often it has failed
abbrev pub silent : ℕ → Told
silent faults = record {
  files = None;
  images = λ image. ⊥;
  moment = 0;
  since = λ t image. ⊥;
  taken = None;
  faults = faults;
}
