-- When arrays are flushed and when a merge runs (Lee, Leonard, Wang, Loguinov, "IRLbot: Scaling to 6 Billion Pages and
-- Beyond", WWW 2008, section 4): a merge waits for a bucket with enough offers, and a record of a bucket's journal has
-- a whole array.
use Rattle.std.specs.Prelude.{ℕ, ◌+◌, ◌*◌, ◌<◌, ◌≤◌, nat_eq, nat_le, ◌||◌, not, Bool, false, if◌then◌else◌, List, [], ◌∷◌, length, filter}
use Rattle.irl_disk.specs.Disk.{Files}
use Rattle.irl_layout.specs.Commits.{HasLiveRecords}
use Rattle.irl_bay.specs.Drum.{Drum, bucket_at, pending_at}
use Rattle.irl_journal.specs.Appending.{IsOpen}

-- some bucket has as many unjudged offers as let a merge run
abbrev pub IsDue : Drum → Type 0
IsDue urls = (b : ℕ) × (b < urls.settings.buckets) × (urls.settings.trigger ≤ pending_at urls b)

-- ---- cuts
-- whether some bucket has so many offers between two cuts
abbrev pub has_enough : ℕ → List ℕ → List ℕ → Bool
has_enough trigger (from ∷ froms) (to ∷ tos) = nat_le (from + trigger) to || has_enough trigger froms tos
has_enough trigger _ _ = false

-- how many of the cuts behind this one were made before a bucket had so many new offers
abbrev pub early_cuts : ℕ → List ℕ → List (List ℕ) → ℕ
early_cuts trigger from [] = 0
early_cuts trigger from (cut ∷ cuts) = (if has_enough trigger from cut then 0 else 1) + early_cuts trigger cut cuts

-- ---- records
-- the bytes of an offer in a record: as many as its `entry_bytes` has
abbrev pub entry_len : ℕ
entry_len = 27

-- how many records of a bucket's journal have another number of offers than a whole array
abbrev pub uneven_records : ℕ → List (List ℕ) → ℕ
uneven_records array payloads = length (filter (λ payload. not (nat_eq (length payload) (entry_len * array))) payloads)

-- a bucket's live journal is open, with these records
abbrev pub HasJournal : (Files → Type 0) → Drum → ℕ → List (List ℕ) → Type 0
HasJournal images drum b payloads = IsOpen images (bucket_at drum b).journal payloads

-- so is each bucket's
abbrev pub HaveRecords : (Files → Type 0) → Drum → (ℕ → List (List ℕ)) → Type 0
HaveRecords images urls records = (b : ℕ) → b < urls.settings.buckets → HasJournal images urls b (records b)

-- each bucket has at most so many uneven records more than before; a merge empties its live journal
abbrev pub AddsUneven : (ℕ → ℕ) → ℕ → ℕ → (ℕ → List (List ℕ)) → (ℕ → List (List ℕ)) → Type 0
AddsUneven more buckets array old new = (b : ℕ) → b < buckets
    → uneven_records array (new b) ≤ uneven_records array (old b) + more b

-- a joint image has such records in its live journals
abbrev pub LeavesUneven : (ℕ → ℕ) → Drum → (ℕ → List (List ℕ)) → Files → Type 0
LeavesUneven more urls old image = (records : ℕ → List (List ℕ))
    × ((b : ℕ) → b < urls.settings.buckets → HasLiveRecords urls.base urls.settings.buckets b (records b) image)
    × AddsUneven more urls.settings.buckets urls.settings.array old records

-- no record more that is uneven, or one in each bucket
abbrev pub none_more : ℕ → ℕ
none_more b = 0

abbrev pub one_more : ℕ → ℕ
one_more b = 1

-- or one in this bucket
abbrev pub one_more_at : ℕ → ℕ → ℕ
one_more_at b c = if nat_eq c b then 1 else 0

-- or where these offers are flushed, which aren't a whole array
abbrev pub uneven_flush : {X : Type 0} → ℕ → ℕ → List X → ℕ → ℕ
uneven_flush array b offers c = if nat_eq (length offers) array then 0 else one_more_at b c
