-- The growing end of a file, written in pieces.
use Rattle.std.specs.Prelude.{◌≡◌, ℕ, ◌+◌, ◌^◌, ◌<◌, ◌≤◌, List, [], ◌++◌, length as len, drop, Option, Result, OnOk, OnErr, IfOk, IsErr}
use Rattle.std.specs.Option.{ForSome}
use Rattle.irl_disk.specs.Disk.{Files, Changes, ChangesFile}
use Rattle.irl_disk.specs.Effects.{OnlyChanges}
use Rattle.irl_disk.specs.Images.{Told}
use Rattle.irl_journal.specs.Blob.{KeepsFront, IsCommitted}
use Rattle.irl_journal.specs.Synced.{IsDurable}

-- a writer as contracts see it
pub record Writer : Type 0 where
  pub file : ℕ
  -- how many bytes at the file's front stay
  pub kept : ℕ
  -- where it writes next
  pub place : ℕ
  -- what was put and isn't written
  pub waiting : List ℕ

-- how long the file is with what was put
abbrev pub end_of : Writer → ℕ
end_of writer = writer.place + len writer.waiting

-- the file is as long as what was written
abbrev pub ReachesPlace : Writer → Files → Type 0
ReachesPlace writer files = writer.place ≤ len (files writer.file)

-- from the n-th byte on the file is as it was
abbrev pub KeepsRest : ℕ → List ℕ → List ℕ → Type 0
KeepsRest n old new = drop n new ≡ drop n old

-- These bytes were put: those that were written stand behind the ones that stay, where a store tells its contents.
pub record HasPut (told : Option Files) (bytes : List ℕ) (writer : Writer) : Type 0 where
  pub written : List ℕ
  pub are : bytes ≡ written ++ writer.waiting
  pub place : writer.place ≡ writer.kept + len written
  pub stand : ForSome told (λ files. (held rest : List ℕ) × (files writer.file ≡ held ++ written ++ rest)
      × (len held ≡ writer.kept))

-- These bytes are put behind those that were, by the answer. A refusal leaves what was put.
pub record Puts {E : Type 0} (result : Result Unit E) (more : List ℕ) (old new : Writer) (before after : Told) : Type
    0 where
  pub put : OnOk result ((bytes : List ℕ) → HasPut before.files bytes old → HasPut after.files (bytes ++ more) new)
  pub put_before : OnErr result ((bytes : List ℕ) → HasPut before.files bytes old → HasPut after.files bytes new)
  pub end : OnOk result (end_of new ≡ end_of old + len more)
  pub end_before : OnErr result (end_of new ≡ end_of old)
  pub file : new.file ≡ old.file
  pub kept : new.kept ≡ old.kept
  pub long : ForSome after.files (ReachesPlace new)
  -- what the file has behind them stays
  pub rest : OnOk result (Changes old.file (KeepsRest (end_of new)) before.files after.files)
  -- a stop at any moment leaves the bytes that stay, and every other file as it was
  pub changes : OnlyChanges (ChangesFile old.file (KeepsFront old.kept)) (IsErr result) before after

-- What a writer's bytes that wait are written and synced with, by the answer: how long the file then is.
pub record Finishes {E : Type 0} (result : Result ℕ E) (writer : Writer) (before after : Told) : Type 0 where
  -- each stop from then on leaves what was committed of the bytes that stay, and behind them all that were put
  pub committed : IfOk result (λ n. (bytes held : List ℕ) → HasPut before.files bytes writer
      → IsCommitted before.images (record { file = writer.file; length = writer.kept }) held
      → IsCommitted after.images (record { file = writer.file; length = n }) (held ++ bytes))
  pub put : IfOk result (λ n. (bytes : List ℕ) → HasPut before.files bytes writer
      → HasPut after.files bytes (record { file = writer.file; kept = writer.kept; place = n; waiting = [] }))
  pub durable : OnOk result (IsDurable writer.file after)
  pub length : IfOk result (λ n. n ≡ end_of writer)
  pub bound : IfOk result (λ n. n < 2 ^ 64)
  pub long : IfOk result (λ n. ForSome after.files (λ files. n ≤ len (files writer.file)))
  pub rest : IfOk result (λ n. Changes writer.file (KeepsRest n) before.files after.files)
  -- a stop at any moment leaves the bytes that stay, and every other file as it was
  pub changes : OnlyChanges (ChangesFile writer.file (KeepsFront writer.kept)) (IsErr result) before after
