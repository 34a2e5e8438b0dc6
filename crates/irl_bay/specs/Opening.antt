-- Opening a bay: what it gives of the parts, and what the calls leave.
use Rattle.std.specs.Prelude.{◌≡◌, ℕ, ◌+◌, ◌-◌, ◌*◌, ◌^◌, ◌<◌, ◌≤◌, min, true, List, ◌∷◌, ◌++◌, map, length, sum, take, Option, Result, IfOk, OnOk, IsErrOf}
use Rattle.std.specs.List.{AllByRecursion}
use Rattle.std.specs.Option.{ForSome}
use Rattle.irl_offer.specs.Buckets.{bucket_of}
use Rattle.irl_offer.specs.Tuple.{Tuple}
use Rattle.irl_offer.specs.declared.entry.Entry.{Entry}
use Rattle.irl_offer.specs.declared.settings.Settings.{Settings}
use Rattle.irl_base.specs.declared.fault.Fault.{Fault}
use Rattle.irl_base.specs.declared.fault.Fault.TheVariants.{Damaged, Full}
use Rattle.irl_model.specs.Book.{Book, IsBelow}
use Rattle.irl_disk.specs.Disk.{Files, ChangesAmong}
use Rattle.irl_disk.specs.Effects.{ReadsAndChanges}
use Rattle.irl_disk.specs.Images.{Told, Leaves}
use Rattle.irl_disk.specs.Taken.{TakesAmong}
use Rattle.irl_journal.specs.Format.{records_text}
use Rattle.irl_journal.specs.Blob.{IsCommitted}
use Rattle.irl_journal.specs.Visiting.{IsOpened}
use Rattle.irl_layout.specs.BayFiles.{file_of}
use Rattle.irl_layout.specs.declared.files.BayFile.TheVariants.{Cache, Judged, Texts, Journal, Aux}
use Rattle.irl_bay.specs.declared.bucket.Bucket.{Bucket}
use Rattle.irl_layout.specs.Commits.{Commit, commit_bytes}
use Rattle.irl_layout.specs.declared.commit.Live.{Live}
use Rattle.irl_bay.specs.Damage.{HasFronts, HasRuns, IsDamagedAt, IsLiveJournal, IsAdopted}
use Rattle.irl_bay.specs.Drum.{Drum, IsDrum}
use Rattle.irl_bay.specs.Holding.{Holds, HoldsBucket, IsLong}
use Rattle.irl_bay.specs.Standing.{Stands}
use Rattle.irl_layout.specs.EntryRuns.{entries_in, text_length}
use Rattle.irl_bay.specs.Making.{IsJournalOn}
use Rattle.irl_layout.specs.Runs.{HasBucket}

-- what a commit names of the three files is committed: the bytes that they have up to there
pub record AreFronts (images : Files → Type 0) (base : ℕ) (last : Commit) (files : Files) : Type 0 where
  pub cache : IsCommitted images (record { file = file_of base 0 (Cache last.side); length = 16 * last.entries })
      (take (16 * last.entries) (files (file_of base 0 (Cache last.side))))
  pub judged : IsCommitted images (record { file = file_of base 0 Judged; length = 48 * last.judged })
      (take (48 * last.judged) (files (file_of base 0 Judged)))
  pub texts : IsCommitted images (record { file = file_of base 0 Texts; length = last.texts })
      (take last.texts (files (file_of base 0 Texts)))

-- an open bucket has its own files on a side, the first of whose offers has this number, and its places lie within them
pub record IsOpenBucket (base side b first : ℕ) (bucket : Bucket) : Type 0 where
  pub journal : bucket.journal.file ≡ file_of base 0 (Journal side b)
  pub aux : bucket.aux.file ≡ file_of base 0 (Aux side b)
  pub start : bucket.start ≡ first
  pub sound : bucket.journal.is_sound ≡ true
  pub gate : bucket.gate ≤ bucket.journal.end
  pub text : bucket.text ≤ bucket.aux.length

-- the files have the offers that the bucket counts, and their texts
pub record HasWhole (base side : ℕ) (settings : Settings) (b : ℕ) (files : Files) (bucket : Bucket) : Type 0 where
  pub runs : List (List Entry)
  pub has : HasRuns base side settings b files runs
  pub durable : bucket.durable ≡ min (bucket.start + length (entries_in runs)) (2 ^ 64 - 1)
  pub texts : text_length (entries_in runs) ≤ length (files (file_of base 0 (Aux side b)))

-- they are at least as long as what is committed of them
pub record IsLongBucket (bucket : Bucket) (files : Files) : Type 0 where
  pub journal : bucket.journal.end < length (files bucket.journal.file)
  pub aux : bucket.aux.length ≤ length (files bucket.aux.file)

-- a bucket's files have this list, the first of whose offers has a number, and of which so many are judged
pub record HasListOf (base side : ℕ) (settings : Settings) (b start cut : ℕ) (list : List Tuple)
    (files : Files) : Type 0 where
  pub has : HasBucket settings.array list (files (file_of base 0 (Journal side b)))
      (files (file_of base 0 (Aux side b)))
  pub here : AllByRecursion (λ offer. bucket_of settings.buckets offer.key ≡ b) list
  pub within : cut ≤ length list
  pub few : 48 * start < 2 ^ 64

-- the journals of the first buckets on a side, and what opening these does
abbrev pub IsJournalBelow : ℕ → ℕ → ℕ → ℕ → Type 0
IsJournalBelow base side n f = (c : ℕ) × (c < n) × (f ≡ file_of base 0 (Journal side c))

abbrev pub OpensBelow : ℕ → ℕ → ℕ → Files → Files → Type 0
OpensBelow base side n old new = ChangesAmong (IsJournalBelow base side n) (λ f. IsOpened) old new

-- a cut is below these lengths of the lists, and counts no more offers in all than are judged
pub record IsWithin (lengths : List ℕ) (most : ℕ) (cut : List ℕ) : Type 0 where
  pub lists : IsBelow cut lengths
  pub all : sum cut ≤ most

-- the first of the commits whose cut isn't has its gate at this place of the manifest
pub record IsFirstAbove (lengths : List ℕ) (most : ℕ) (commits : List Commit) (at : ℕ) : Type 0 where
  pub before : List Commit
  pub commit : Commit
  pub more : List Commit
  pub among : commits ≡ before ++ commit ∷ more
  pub place : at ≡ length (records_text (map commit_bytes before))
  pub within : AllByRecursion (λ old. IsWithin lengths most old.cut) before
  pub above : IsWithin lengths most commit.cut → ⊥

-- ---- what the calls leave
-- A bucket whose two live files were opened.
pub record OpensBucket (base : ℕ) (settings : Settings) (b : ℕ) (live : Live) (before after : Told) (bucket : Bucket) :
    Type 0 where
  pub opened : IsOpenBucket base live.side b live.start bucket
  -- the files have runs of offers,
  pub found : ForSome before.files (λ files. HasWhole base live.side settings b files bucket)
  pub long : ForSome after.files (IsLongBucket bucket)
  -- and where they have a list, the bucket has it
  pub holds : ForSome before.files (λ files. (list : List Tuple)
      → HasListOf base live.side settings b live.start live.judged list files
      → HoldsBucket after.images settings.array live.judged bucket list)

-- What a commit names of the three files is there, and committed.
pub record OpensFronts (base : ℕ) (last : Commit) (before after : Told) : Type 0 where
  pub entries : 16 * last.entries < 2 ^ 64
  pub judged : 48 * last.judged < 2 ^ 64
  pub has : ForSome before.files (HasFronts base last)
  pub committed : ForSome before.files (AreFronts after.images base last)

-- A refusal names only such damage, and is never want of room.
pub record Refuses {A : Type 0} (result : Result A Fault) (files : Option Files) (IsDamage : Files → ℕ → ℕ → Type 0) :
    Type 0 where
  pub damaged : (f at : ℕ) → IsErrOf result (Damaged f at) → ForSome files (λ told. IsDamage told f at)
  pub full : (n : ℕ) → IsErrOf result (Full n) → ⊥

-- ---- opening a bay
-- What Ok leaves of files the first of which has this number, by these settings.
pub record Adopts (result : Result Drum Fault) (first : ℕ) (asked : Settings) (before after : Told) : Type 0 where
  pub base : IfOk result (λ bay. bay.base ≡ first)
  pub settings : IfOk result (λ bay. bay.settings ≡ asked)
  pub sound : IfOk result (λ bay. bay.is_sound ≡ true)
  pub drum : IfOk result (λ bay. IsDrum bay)
  -- where the files stand for a book, the bay has it, and from then on each stop leaves it
  pub holds : IfOk result (λ bay. ForSome before.files (λ files. (book : Book) → Stands first asked book files
      → Holds after.images bay book))
  pub long : IfOk result (λ bay. ForSome after.files (λ files. IsLong bay files))
  -- no damage is passed over
  pub sane : OnOk result (ForSome before.files (λ files. (f at : ℕ) → IsDamagedAt first asked files f at → ⊥))

-- Why there is a refusal.
pub record AdoptRefused (result : Result Drum Fault) (base : ℕ) (settings : Settings) (files : Option Files) : Type 0
  where
    -- damage is the first by the layout's rules, and never named over files that stand for a book
    pub damaged : (f at : ℕ) → IsErrOf result (Damaged f at)
        → ForSome files (λ told. IsDamagedAt base settings told f at)
    pub whole : (f at : ℕ) → IsErrOf result (Damaged f at) → ForSome files (λ told. (book : Book)
        → Stands base settings book told → ⊥)
    pub full : (n : ℕ) → IsErrOf result (Full n) → ⊥

-- What a stop at any moment leaves, and which files change and are read, where `failed` says that a fault of the store
-- was answered.
pub record AdoptMayLeave (failed : Type 0) (base : ℕ) (settings : Settings) (before after : Told) : Type 0 where
  -- files that stand for a book, where all did before
  pub stands : (book : Book) → ((image : Files) → before.images image → Stands base settings book image)
      → Leaves before after (λ image. Stands base settings book image)
  -- Whatever they stand for, each file is as it was, but that the manifest or a live journal of at most one byte has at
  -- most one. No byte is read but of the manifest and of the buckets' journals on one side,
  pub side : ℕ
  pub fits : side ≤ 1
  pub changes : ReadsAndChanges (IsJournalOn base side settings.buckets) (IsAdopted base settings.buckets) failed before
      after
  -- which is the side that the manifest leaves live, where the store tells its files
  pub live : ForSome before.files (λ files. TakesAmong (IsLiveJournal base settings.buckets files) before.taken
      after.taken)
