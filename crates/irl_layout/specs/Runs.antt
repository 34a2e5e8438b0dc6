-- What a bucket's two files keep: its offers without their texts, in runs of one record each, and the texts.
use Rattle.std.specs.Prelude.{◌≡◌, ℕ, ◌^◌, ◌<◌, ◌≤◌, List, map, length}
use Rattle.std.specs.List.{flat_map, AllByRecursion}
use Rattle.irl_offer.specs.Entries.{entry_bytes}
use Rattle.irl_base.specs.Limits.{max_text}
use Rattle.irl_offer.specs.Tuple.{Tuple}
use Rattle.irl_offer.specs.declared.entry.Entry.{Entry}
use Rattle.irl_journal.specs.Format.{StandsFor}
use Rattle.irl_journal.specs.Blob.{BeginsWith}

-- an offer without its text
abbrev pub entry_of_offer : Tuple → Entry
entry_of_offer offer = record {
  op = offer.op;
  aux_len = length offer.aux;
  key = offer.key;
  value = offer.value;
  from = offer.from;
}

-- the payload of a run of offers
abbrev pub run_bytes : List Tuple → List ℕ
run_bytes offers = flat_map (λ offer. entry_bytes (entry_of_offer offer)) offers

-- their texts, one behind the other
abbrev pub texts_of : List Tuple → List ℕ
texts_of offers = flat_map (λ offer. offer.aux) offers

-- an offer whose numbers and text have their room
pub record IsOffer (offer : Tuple) : Type 0 where
  pub key : offer.key < 2 ^ 64
  pub value : offer.value < 2 ^ 64
  pub from : offer.from < 2 ^ 64
  pub aux : length offer.aux ≤ max_text

-- a run has at least one offer and at most as many as an array
abbrev pub IsRun : ℕ → List Tuple → Type 0
IsRun array run = (1 ≤ length run) × (length run ≤ array)

-- the list of a bucket, cut into the runs of its journal's records
pub record AreRuns (array : ℕ) (list : List Tuple) (runs : List (List Tuple)) : Type 0 where
  pub joined : list ≡ flat_map (λ run. run) runs
  pub sizes : AllByRecursion (IsRun array) runs
  pub offers : AllByRecursion IsOffer list

-- a bucket's journal and its texts have its list
pub record HasBucket (array : ℕ) (list : List Tuple) (journal aux : List ℕ) : Type 0 where
  pub runs : List (List Tuple)
  pub are : AreRuns array list runs
  pub records : StandsFor journal (map run_bytes runs)
  pub texts : BeginsWith aux (texts_of list)
