-- What opening a bay names as damage: the first place at which its files break the layout. They are read in this order:
-- the manifest, the parts that its last commit names, each bucket's two files on the side that it leaves live; and then
-- each commit's cut is held against the lists, and its sum against how many offers are judged.
use Rattle.std.specs.Prelude.{◌≡◌, ◌⊎◌, ℕ, ◌+◌, ◌*◌, ◌^◌, ◌<◌, ◌≤◌, List, [], ◌∷◌, ◌++◌, map, length, sum, replicate, slice_index, IsSome}
use Rattle.std.specs.List.{flat_map, sum_by, AllByRecursion}
use Rattle.irl_offer.specs.Buckets.{bucket_of}
use Rattle.irl_offer.specs.Entries.{entry_bytes}
use Rattle.irl_base.specs.Limits.{max_text}
use Rattle.irl_offer.specs.declared.entry.Entry.{Entry}
use Rattle.irl_offer.specs.declared.settings.Settings.{Settings}
use Rattle.irl_model.specs.Book.{IsBelow}
use Rattle.irl_disk.specs.Disk.{Files, ChangesAmong}
use Rattle.irl_journal.specs.Format.{StandsFor, IsBrokenAt, IsPayload, records_text, body_text, open_gate}
use Rattle.irl_journal.specs.Visiting.{IsOpened}
use Rattle.irl_layout.specs.BayFiles.{file_of}
use Rattle.irl_layout.specs.declared.files.BayFile.TheVariants.{Manifest, Cache, Judged, Texts, Journal, Aux}
use Rattle.irl_layout.specs.Commits.{Commit, IsCommit, HasCommits, commit_bytes, first_commit, last_commit, live_side, starts_of}
use Rattle.irl_layout.specs.EntryRuns.{IsEntryRun, AreRunPayloads, entries_bytes, entries_in, text_length}

-- a file is shorter than what is committed of it, and this is where it ends
pub record IsShort (length_committed : ℕ) (file : List ℕ) (at : ℕ) : Type 0 where
  pub short : length file < length_committed
  pub place : at ≡ length file

-- ---- a journal whose payloads have to be good
-- behind good records there is a broken one
pub record IsBrokenBehind (AreGood : List (List ℕ) → Type 0) (file : List ℕ) (at : ℕ) : Type 0 where
  pub broken : IsBrokenAt file at
  pub before : AreGood broken.payloads

-- behind good records there is a whole one with which they aren't good
pub record IsBadBehind (AreGood : List (List ℕ) → Type 0) (file : List ℕ) (at : ℕ) : Type 0 where
  pub payloads : List (List ℕ)
  pub payload : List ℕ
  pub gate : ℕ
  pub rest : List ℕ
  pub bytes : file ≡ records_text payloads ++ (open_gate ∷ (body_text payload ++ (gate ∷ rest)))
  pub each : AllByRecursion IsPayload payloads
  pub fits : IsPayload payload
  pub place : at ≡ length (records_text payloads)
  pub before : AreGood payloads
  pub bad : AreGood (payloads ++ payload ∷ []) → ⊥

-- the gate of the first record that is broken, or with which the payloads aren't good, stands at this place
abbrev pub IsDamagedJournal : (List (List ℕ) → Type 0) → List ℕ → ℕ → Type 0
IsDamagedJournal AreGood file at = IsBrokenBehind AreGood file at ⊎ IsBadBehind AreGood file at

-- ---- the manifest
-- no number of a commit is below that of the one before it, and it names a live side of the buckets' files if that one
-- did
pub record IsAtOrAbove (old new : Commit) : Type 0 where
  pub entries : old.entries ≤ new.entries
  pub judged : old.judged ≤ new.judged
  pub unique : old.unique ≤ new.unique
  pub texts : old.texts ≤ new.texts
  pub cut : IsBelow old.cut new.cut
  pub live : IsSome old.live → IsSome new.live

-- from one commit on each has its room, and none falls
abbrev pub RiseFrom : ℕ → Commit → List Commit → Type 0
RiseFrom buckets old [] = Unit {0}
RiseFrom buckets old (commit ∷ commits) = IsCommit buckets commit × IsAtOrAbove old commit
    × RiseFrom buckets commit commits

-- payloads that a manifest may have
abbrev pub AreCommitPayloads : ℕ → List (List ℕ) → Type 0
AreCommitPayloads buckets payloads = (commits : List Commit) × RiseFrom buckets (first_commit buckets) commits
    × (payloads ≡ map commit_bytes commits)

-- the manifest has these commits
pub record HasManifest (base buckets : ℕ) (files : Files) (commits : List Commit) : Type 0 where
  pub rise : RiseFrom buckets (first_commit buckets) commits
  pub records : HasCommits base commits files

-- ---- what the last commit names
-- one of the three files is shorter than what is committed of it, and those before it aren't
abbrev pub IsDamagedFront : ℕ → Commit → Files → ℕ → ℕ → Type 0
IsDamagedFront base last files f at =
    ((f ≡ file_of base 0 (Cache last.side)) × IsShort (16 * last.entries) (files f) at)
    ⊎ ((16 * last.entries ≤ length (files (file_of base 0 (Cache last.side)))) × (f ≡ file_of base 0 Judged)
    × IsShort (48 * last.judged) (files f) at)
    ⊎ ((16 * last.entries ≤ length (files (file_of base 0 (Cache last.side))))
    × (48 * last.judged ≤ length (files (file_of base 0 Judged))) × (f ≡ file_of base 0 Texts)
    × IsShort last.texts (files f) at)

-- none of them is
pub record HasFronts (base : ℕ) (last : Commit) (files : Files) : Type 0 where
  pub cache : 16 * last.entries ≤ length (files (file_of base 0 (Cache last.side)))
  pub judged : 48 * last.judged ≤ length (files (file_of base 0 Judged))
  pub texts : last.texts ≤ length (files (file_of base 0 Texts))

-- ---- a bucket
-- a bucket's journal on a side has these runs
pub record HasRuns (base side : ℕ) (settings : Settings) (b : ℕ) (files : Files) (runs : List (List Entry)) : Type 0
  where
    pub each : AllByRecursion (IsEntryRun settings b) runs
    pub records : StandsFor (files (file_of base 0 (Journal side b))) (map entries_bytes runs)

-- a bucket whose journal is damaged, or whose texts are shorter than its entries say
abbrev pub IsDamagedBucket : ℕ → ℕ → Settings → ℕ → Files → ℕ → ℕ → Type 0
IsDamagedBucket base side settings b files f at =
    ((f ≡ file_of base 0 (Journal side b)) × IsDamagedJournal (AreRunPayloads settings b) (files f) at)
    ⊎ ((f ≡ file_of base 0 (Aux side b)) × ((runs : List (List Entry)) × HasRuns base side settings b files runs
    × IsShort (text_length (entries_in runs)) (files f) at))

-- one that isn't
abbrev pub IsWholeBucket : ℕ → ℕ → Settings → Files → ℕ → Type 0
IsWholeBucket base side settings files b = (runs : List (List Entry)) × HasRuns base side settings b files runs
    × (text_length (entries_in runs) ≤ length (files (file_of base 0 (Aux side b))))

-- ---- a commit against the lists
-- Behind this last commit, the lists have the offers that a commit says are judged. Where the last names a side, the
-- live files begin at its own cut, and the offers before it stand in the judged file alone, which opening doesn't read.
-- But each judged offer is one bucket's, so that no cut of a bay counts more offers in all than are judged.
pub record IsReached (base : ℕ) (settings : Settings) (files : Files) (last commit : Commit) : Type 0 where
  pub lists : (b : ℕ) → b < settings.buckets → (runs : List (List Entry))
      × HasRuns base (live_side last) settings b files runs
      × (slice_index commit.cut b ≤ slice_index (starts_of settings.buckets last) b + length (entries_in runs))
  pub judged : sum commit.cut ≤ last.judged

-- the first of the commits whose cut is above a list has its gate at this place of the manifest
pub record IsCutAbove (base : ℕ) (settings : Settings) (files : Files) (commits : List Commit) (at : ℕ) : Type 0 where
  pub before : List Commit
  pub commit : Commit
  pub more : List Commit
  pub among : commits ≡ before ++ commit ∷ more
  pub place : at ≡ length (records_text (map commit_bytes before))
  pub reached : AllByRecursion (IsReached base settings files (last_commit (first_commit settings.buckets) commits))
      before
  pub above : IsReached base settings files (last_commit (first_commit settings.buckets) commits) commit → ⊥

-- ---- the bay
-- behind a manifest with these commits, of which this is the last: a part that it names, a bucket on the side that it
-- leaves live, or a commit
abbrev pub IsDamagedBehind : ℕ → Settings → Files → List Commit → Commit → ℕ → ℕ → Type 0
IsDamagedBehind base settings files commits last f at =
    IsDamagedFront base last files f at
    ⊎ (HasFronts base last files
    × (((b : ℕ) × (b < settings.buckets) × ((c : ℕ) → c < b → IsWholeBucket base (live_side last) settings files c)
    × IsDamagedBucket base (live_side last) settings b files f at)
    ⊎ (((c : ℕ) → c < settings.buckets → IsWholeBucket base (live_side last) settings files c)
    × (f ≡ file_of base 0 Manifest) × IsCutAbove base settings files commits at)))

-- The files of the bay whose first file is `base` are damaged, and this place of this file is what is named of it.
abbrev pub IsDamagedAt : ℕ → Settings → Files → ℕ → ℕ → Type 0
IsDamagedAt base settings files f at =
    ((f ≡ file_of base 0 Manifest) × IsDamagedJournal (AreCommitPayloads settings.buckets) (files f) at)
    ⊎ ((commits : List Commit) × HasManifest base settings.buckets files commits
    × IsDamagedBehind base settings files commits (last_commit (first_commit settings.buckets) commits) f at)

-- ---- what opening does to the files
-- the manifest, and each bucket's journal on the side that its last commit leaves live; where the manifest is damaged
-- no bucket's
abbrev pub IsLiveJournal : ℕ → ℕ → Files → ℕ → Type 0
IsLiveJournal base buckets files f =
    (f ≡ file_of base 0 Manifest)
    ⊎ ((commits : List Commit) × HasManifest base buckets files commits
    × ((b : ℕ) × (b < buckets) × (f ≡ file_of base 0
    (Journal (live_side (last_commit (first_commit buckets) commits)) b))))

-- each of them changes at most as opening a journal may, and every other file stays
abbrev pub IsAdopted : ℕ → ℕ → Files → Files → Type 0
IsAdopted base buckets old new = ChangesAmong (IsLiveJournal base buckets old) (λ f. IsOpened) old new
