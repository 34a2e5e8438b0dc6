-- A merge goes through the cache: it reads the live side block by block, and writes the other.
use Rattle.std.specs.Prelude.{◌≡◌, ◌⊎◌, ℕ, ◌-◌, ◌*◌, ◌<◌, ◌≤◌, List, [], ◌∷◌, ◌++◌, map, length, drop, Option, Result, OnOk, IsErrOf}
use Rattle.std.specs.List.{AllByRecursion}
use Rattle.std.specs.Option.{ForSome}
use Rattle.irl_base.specs.declared.fault.Fault.{Fault}
use Rattle.irl_base.specs.declared.fault.Fault.TheVariants.{Damaged, Full}
use Rattle.irl_offer.specs.Buckets.{bucket_of}
use Rattle.irl_offer.specs.Tuple.{Tuple}
use Rattle.irl_offer.specs.declared.entry.Entry.{Entry}
use Rattle.irl_offer.specs.declared.offer.Verdict.{Verdict}
use Rattle.irl_offer.specs.declared.receipt.Pair.{Pair}
use Rattle.irl_model.specs.Judging.{after, judgements}
use Rattle.irl_model.specs.Pairs.{ArePairsOf, IsRising, keys_of}
use Rattle.irl_disk.specs.Disk.{Files, ChangesFile}
use Rattle.irl_disk.specs.Effects.{ReadsAndChanges}
use Rattle.irl_disk.specs.Images.{Told}
use Rattle.irl_journal.specs.Blob.{KeepsFront}
use Rattle.irl_cache.specs.Reading.{HasRead, Reader, TakesExactly, read_of}
use Rattle.irl_cache.specs.SortedRun.{IsSpoiltRun}
use Rattle.irl_cache.specs.Writing.{HasWritten}
use Rattle.irl_merge.specs.declared.sweep.Sweep.{Sweep}
use Rattle.irl_merge.specs.Queries.{AreEntriesOf}
use Rattle.irl_merge.specs.Sweeping.{HasSwept}
use Rattle.irl_layout.specs.BayFiles.{file_of}
use Rattle.irl_layout.specs.declared.files.BayFile.TheVariants.{Cache}
use Rattle.irl_bay.specs.Drum.{Drum, cache_front}
use Rattle.irl_bay.specs.declared.sides.Sides.{Sides}

-- the pairs of the block that no sweep was fed
abbrev pub rest_of : Sides → List Pair
rest_of sides = drop sides.fed sides.reader.block

-- Of pairs that were read, the first are fed. Those that aren't, and whichever are still read, up to so many in all,
-- are of this bucket or of one behind it where all rise.
abbrev pub LieFrom : ℕ → ℕ → ℕ → List Pair → List Pair → Type 0
LieFrom buckets b entries fed rest =
    (more : List Pair) → length (fed ++ (rest ++ more)) ≤ entries → IsRising (fed ++ (rest ++ more))
    → AllByRecursion (λ pair. b ≤ bucket_of buckets pair.key) (rest ++ more)

-- Nothing is left of a bucket: what isn't fed begins behind it, or all was fed.
abbrev pub IsDone : ℕ → Sides → Type 0
IsDone b sides =
    ((pair : Pair) × (more : List Pair) × (rest_of sides ≡ pair ∷ more) × (b < bucket_of sides.buckets pair.key))
    ⊎ ((rest_of sides ≡ []) × (sides.reader.given ≡ sides.reader.entries))

-- The buckets before this one are judged: these are their offers, and the verdicts on them.
pub record HasMerged (b : ℕ) (offers : List Tuple) (verdicts : List (Option Verdict)) (told : Option Files)
    (sides : Sides) : Type 0 where
  -- the keys that were fed, and those of the new side
  pub fed : List Pair
  pub put : List Pair
  pub verdicts_are : verdicts ≡ map (λ p. p.1) (judgements sides.rule (keys_of fed) offers)
  pub keys : ArePairsOf (after sides.rule (keys_of fed) offers) put
  pub fed_below : AllByRecursion (λ pair. bucket_of sides.buckets pair.key < b) fed
  pub offers_below : AllByRecursion (λ offer. bucket_of sides.buckets offer.key < b) offers
  pub read : HasRead told (fed ++ rest_of sides) sides.reader
  pub behind : LieFrom sides.buckets b sides.reader.entries fed (rest_of sides)
  pub done : (n : ℕ) → n < b → IsDone n sides
  pub written : HasWritten told put sides.writer

-- This bucket is being judged, by a sweep for these offers of its.
pub record IsSweeping (b : ℕ) (offers : List Tuple) (verdicts : List (Option Verdict)) (news : List Tuple)
    (told : Option Files) (sweep : Sweep) (sides : Sides) : Type 0 where
  -- the keys that were fed before it, and those of the new side
  pub before : List Pair
  pub put : List Pair
  -- the keys that it was fed, and those that it gave
  pub fed : List Pair
  pub given : List Pair
  pub verdicts_are : verdicts ≡ map (λ p. p.1) (judgements sides.rule (keys_of before) offers)
  pub keys : ArePairsOf (after sides.rule (keys_of before) offers) put
  pub before_below : AllByRecursion (λ pair. bucket_of sides.buckets pair.key < b) before
  pub offers_below : AllByRecursion (λ offer. bucket_of sides.buckets offer.key < b) offers
  pub fed_here : AllByRecursion (λ pair. bucket_of sides.buckets pair.key ≡ b) fed
  pub news_here : AllByRecursion (λ offer. bucket_of sides.buckets offer.key ≡ b) news
  pub swept : HasSwept sides.rule news fed given sweep
  pub read : HasRead told ((before ++ fed) ++ rest_of sides) sides.reader
  pub behind : LieFrom sides.buckets b sides.reader.entries (before ++ fed) (rest_of sides)
  pub written : HasWritten told (put ++ given) sides.writer

-- the settings, the files and the number of keys stay
pub record IsSameCache (old new : Sides) : Type 0 where
  pub rule : new.rule ≡ old.rule
  pub buckets : new.buckets ≡ old.buckets
  pub from : new.reader.file ≡ old.reader.file
  pub entries : new.reader.entries ≡ old.reader.entries
  pub to : new.writer.out.file ≡ old.writer.out.file

-- ---- what its steps ask and leave
-- these offers have these entries, and are of this bucket
abbrev pub AreHere : ℕ → Sides → List Entry → List Tuple → Type 0
AreHere b sides entries news = AreEntriesOf news entries
    × AllByRecursion (λ offer. bucket_of sides.buckets offer.key ≡ b) news

-- this bucket is being judged
abbrev pub IsSwept : ℕ → Option Files → Sweep → Sides → Type 0
IsSwept b told sweep sides = (offers : List Tuple) × (verdicts : List (Option Verdict)) × (news : List Tuple)
    × IsSweeping b offers verdicts news told sweep sides

-- and still is
abbrev pub StaysSwept : ℕ → Option Files → Sweep → Sides → Option Files → Sweep → Sides → Type 0
StaysSwept b told sweep sides told_then sweep_then sides_then =
    (offers : List Tuple) (verdicts : List (Option Verdict)) (news : List Tuple)
    → IsSweeping b offers verdicts news told sweep sides
    → IsSweeping b offers verdicts news told_then sweep_then sides_then

-- each key of the live side is read once
abbrev pub ReadsOn : Reader → Reader → Option (ℕ → ℕ) → Option (ℕ → ℕ) → Type 0
ReadsOn from to old new = (read_of from ≤ read_of to)
    × TakesExactly from.file (16 * (read_of to - read_of from)) old new

-- A step by its answer. Damage is named only where the live side has it.
pub record Passes {A : Type 0} (result : Result A Fault) (old new : Sides) (before after : Told) : Type 0 where
  pub same : IsSameCache old new
  pub damaged : (f at : ℕ) → IsErrOf result (Damaged f at) → ForSome before.files (λ files. (f ≡ old.reader.file)
      × IsSpoiltRun old.reader.entries (files f) at)
  pub full : (n : ℕ) → IsErrOf result (Full n) → ⊥
  pub read : OnOk result (ReadsOn old.reader new.reader before.taken after.taken)

-- it reads the live side and writes the other
abbrev pub ReadsAndPuts : Sides → Type 0 → Told → Told → Type 0
ReadsAndPuts sides failed before after = ReadsAndChanges (λ f. f ≡ sides.reader.file)
    (ChangesFile sides.writer.out.file (KeepsFront 0)) failed before after

-- they are the sides of a bay's cache
pub record IsSidesOf (drum : Drum) (sides : Sides) : Type 0 where
  pub rule : sides.rule ≡ drum.settings.rule
  pub buckets : sides.buckets ≡ drum.settings.buckets
  pub from : sides.reader.file ≡ (cache_front drum).file
  pub entries : sides.reader.entries ≡ drum.last.entries
  pub to : sides.writer.out.file ≡ file_of drum.base 0 (Cache (1 - drum.last.side))

-- of which nothing is read or written yet
pub record AreUnread (drum : Drum) (sides : Sides) : Type 0 where
  pub none : (told : Option Files) → HasMerged 0 [] [] told sides
  pub of : IsSidesOf drum sides
  pub unread : read_of sides.reader ≡ 0
