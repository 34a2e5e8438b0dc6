-- The runs of a bucket's journal as entries: what bytes are a run of so many of the bucket's.
use Rattle.std.specs.Prelude.{◌≡◌, ℕ, ◌^◌, ◌<◌, ◌≤◌, List, map, length}
use Rattle.std.specs.List.{flat_map, sum_by, AllByRecursion}
use Rattle.irl_base.specs.Limits.{max_text}
use Rattle.irl_offer.specs.Buckets.{bucket_of}
use Rattle.irl_offer.specs.Entries.{entry_bytes}
use Rattle.irl_offer.specs.declared.entry.Entry.{Entry}
use Rattle.irl_offer.specs.declared.settings.Settings.{Settings}

-- an entry of a bucket, whose numbers and text have their room
pub record IsEntryOf (buckets b : ℕ) (entry : Entry) : Type 0 where
  pub key : entry.key < 2 ^ 64
  pub value : entry.value < 2 ^ 64
  pub from : entry.from < 2 ^ 64
  pub aux : entry.aux_len ≤ max_text
  pub bucket : bucket_of buckets entry.key ≡ b

-- a run of a bucket's entries: at least one and at most as many as an array holds
pub record IsEntryRun (settings : Settings) (b : ℕ) (run : List Entry) : Type 0 where
  pub some : 1 ≤ length run
  pub few : length run ≤ settings.array
  pub each : AllByRecursion (IsEntryOf settings.buckets b) run

-- the payload of a run
abbrev pub entries_bytes : List Entry → List ℕ
entries_bytes entries = flat_map entry_bytes entries

-- no run of the bucket's entries has this payload
abbrev pub HasNoRun : Settings → ℕ → List ℕ → Type 0
HasNoRun settings b payload = (run : List Entry) → IsEntryRun settings b run → payload ≡ entries_bytes run → ⊥

-- payloads that a bucket's journal may have
abbrev pub AreRunPayloads : Settings → ℕ → List (List ℕ) → Type 0
AreRunPayloads settings b payloads = (runs : List (List Entry)) × AllByRecursion (IsEntryRun settings b) runs
    × (payloads ≡ map entries_bytes runs)

-- all entries of runs, and how many bytes their texts have
abbrev pub entries_in : List (List Entry) → List Entry
entries_in runs = flat_map (λ run. run) runs

abbrev pub text_length : List Entry → ℕ
text_length entries = sum_by (λ entry. entry.aux_len) entries
