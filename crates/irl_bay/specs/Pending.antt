-- The pending offers of a bucket, as its files give them: the entries of the records from a gate on, and their texts.
use Rattle.std.specs.Prelude.{◌≡◌, ◌≢◌, ◌⊎◌, ℕ, ◌+◌, ◌-◌, List, [], ◌∷◌, ◌++◌, map, length, drop, Vec, Result, IfOk, IsErrOf}
use Rattle.std.specs.List.{All, AllByRecursion}
use Rattle.std.specs.Option.{ForSome}
use Rattle.std.specs.declared.alloc.Global.{Global}
use Rattle.irl_base.specs.declared.fault.Fault.{Fault}
use Rattle.irl_base.specs.declared.fault.Fault.TheVariants.{Damaged, Failed, Full}
use Rattle.irl_offer.specs.Buckets.{bucket_of}
use Rattle.irl_offer.specs.declared.entry.Entry.{Entry}
use Rattle.irl_offer.specs.declared.settings.Settings.{Settings}
use Rattle.irl_offer.specs.Tuple.{Tuple}
use Rattle.irl_disk.specs.Disk.{Files}
use Rattle.irl_disk.specs.Effects.{OnlyReads}
use Rattle.irl_disk.specs.Images.{Told}
use Rattle.irl_journal.specs.Format.{HasNoRecord, records_text, body_text, open_gate}
use Rattle.irl_layout.specs.EntryRuns.{IsEntryRun, entries_bytes, entries_in, text_length}
use Rattle.irl_bay.specs.declared.bucket.Bucket.{Bucket}
use Rattle.irl_bay.specs.declared.pending.Pending.{Pending}
use Rattle.irl_bay.specs.Holding.{HoldsBucket}
use Rattle.irl_layout.specs.Runs.{entry_of_offer, texts_of}

-- from a gate on a file has runs of a bucket's entries in whole open records, up to this place, and then these bytes
pub record HasRunsTo (settings : Settings) (b from : ℕ) (file : List ℕ) (runs : List (List Entry)) (at : ℕ)
    (behind : List ℕ) : Type 0 where
  pub bytes : drop from file ≡ records_text (map entries_bytes runs) ++ behind
  pub each : AllByRecursion (IsEntryRun settings b) runs
  pub place : at ≡ from + length (records_text (map entries_bytes runs))

-- from the first pending offer's gate on a bucket's journal has runs of these entries, up to its end
pub record HasEntries (settings : Settings) (b : ℕ) (bucket : Bucket) (files : Files) (entries : List Entry) : Type 0
  where
    pub runs : List (List Entry)
    pub behind : List ℕ
    pub has : HasRunsTo settings b bucket.gate (files bucket.journal.file) runs bucket.journal.end behind
    pub joined : entries ≡ entries_in runs

-- these are the entries of these offers, and their texts, one behind the other
pub record AreOffersOf (offers : List Tuple) (entries : List Entry) (texts : List ℕ) : Type 0 where
  pub entries_are : map entry_of_offer offers ≡ entries
  pub texts_are : texts_of offers ≡ texts

-- ---- what breaks the layout
-- an open gate whose record passes the file's end or the limit of a payload, or no gate at all
abbrev pub IsCutShort : List ℕ → Type 0
IsCutShort bytes = HasNoRecord bytes × ((bytes ≡ []) ⊎ ((rest : List ℕ) × (bytes ≡ open_gate ∷ rest)))

-- a whole open record that is no run of the bucket's entries
pub record IsNoRun (settings : Settings) (b : ℕ) (bytes : List ℕ) : Type 0 where
  pub payload : List ℕ
  pub behind : List ℕ
  pub bytes_are : bytes ≡ open_gate ∷ body_text payload ++ behind
  pub none : (run : List Entry) → IsEntryRun settings b run → payload ≡ entries_bytes run → ⊥

-- a closed gate
abbrev pub IsClosed : List ℕ → Type 0
IsClosed bytes = (gate : ℕ) × (rest : List ℕ) × (bytes ≡ gate ∷ rest) × (gate ≢ open_gate)

-- Behind runs from the first pending offer's gate on, a bucket's journal has at this place no whole record, one that is
-- no run, or a closed gate that isn't the journal's end.
pub record IsSpoiltJournal (settings : Settings) (b : ℕ) (bucket : Bucket) (files : Files) (at : ℕ) : Type 0 where
  pub runs : List (List Entry)
  pub behind : List ℕ
  pub has : HasRunsTo settings b bucket.gate (files bucket.journal.file) runs at behind
  pub why : IsCutShort behind ⊎ IsNoRun settings b behind ⊎ (IsClosed behind × (at ≢ bucket.journal.end))

-- the runs up to the journal's end have not as many entries as are judged of the first and as wait
pub record IsMiscounted (settings : Settings) (b : ℕ) (bucket : Bucket) (pending : ℕ) (files : Files) : Type 0 where
  pub entries : List Entry
  pub has : HasEntries settings b bucket files entries
  pub other : length entries ≢ bucket.skip + pending

-- the texts from that of the first pending offer on are not as long as the pending entries say
pub record IsTextOff (settings : Settings) (b : ℕ) (bucket : Bucket) (files : Files) : Type 0 where
  pub entries : List Entry
  pub has : HasEntries settings b bucket files entries
  pub other : text_length (drop bucket.skip entries) ≢ bucket.aux.length - bucket.text

-- the files of a bucket, of which so many offers wait, have at this place what the layout doesn't allow there
abbrev pub IsSpoiltBucket : Settings → ℕ → Bucket → ℕ → Files → ℕ → ℕ → Type 0
IsSpoiltBucket settings b bucket pending files f at =
    ((f ≡ bucket.journal.file) × IsSpoiltJournal settings b bucket files at)
    ⊎ ((f ≡ bucket.journal.file) × (at ≡ bucket.gate) × IsMiscounted settings b bucket pending files)
    ⊎ ((f ≡ bucket.aux.file) × (at ≡ bucket.text) × IsTextOff settings b bucket files)

-- ---- reading them
-- The entries, by the answer, where so many offers wait.
pub record ReadsPending (result : Result Pending Fault) (settings : Settings) (b : ℕ) (bucket : Bucket) (waiting : ℕ)
    (before after : Told) : Type 0 where
  pub count : IfOk result (λ found. length (drop found.skip found.entries.items) ≡ waiting)
  -- the texts are as long as their file says
  pub texts : IfOk result (λ found.
      text_length (drop found.skip found.entries.items) ≡ bucket.aux.length - bucket.text)
  pub here : IfOk result (λ found.
      All (λ entry. bucket_of settings.buckets entry.key ≡ b) (drop found.skip found.entries.items))
  -- they are those of the list that the files have
  pub held : IfOk result (λ found. ForSome before.files (λ _. (cut : ℕ) (list : List Tuple)
      → HoldsBucket before.images settings.array cut bucket list
      → map entry_of_offer (drop cut list) ≡ drop found.skip found.entries.items))
  -- damage is named only where it is, and never over files that have a list of the bucket's offers
  pub damaged : (f at : ℕ) → IsErrOf result (Damaged f at)
      → ForSome before.files (λ files. IsSpoiltBucket settings b bucket waiting files f at)
  pub whole : (f at : ℕ) → IsErrOf result (Damaged f at) → ForSome before.files (λ _. (cut : ℕ) (list : List Tuple)
      → HoldsBucket before.images settings.array cut bucket list
      → AllByRecursion (λ offer. bucket_of settings.buckets offer.key ≡ b) list → waiting + cut ≡ length list → ⊥)
  pub full : (n : ℕ) → IsErrOf result (Full n) → ⊥
  pub reads : OnlyReads (λ f. f ≡ bucket.journal.file) (IsErrOf result Failed) before after

-- Their texts, one behind the other. A store that tells has the bytes.
pub record ReadsTexts (result : Result (Vec ℕ Global) Fault) (bucket : Bucket) (before after : Told) : Type 0 where
  pub length : IfOk result (λ texts. length texts.items ≡ bucket.aux.length - bucket.text)
  pub held : IfOk result (λ texts. ForSome before.files (λ _. (array cut : ℕ) (list : List Tuple)
      → HoldsBucket before.images array cut bucket list → texts.items ≡ texts_of (drop cut list)))
  pub damaged : (f at : ℕ) → IsErrOf result (Damaged f at) → ForSome before.files (λ _. ⊥)
  pub full : (n : ℕ) → IsErrOf result (Full n) → ⊥
  pub reads : OnlyReads (λ f. f ≡ bucket.aux.file) (IsErrOf result Failed) before after
