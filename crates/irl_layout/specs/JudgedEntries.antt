-- The judged file: for each judged offer an entry of 48 bytes, which says where its text stands in the texts file.
use Rattle.std.specs.Prelude.{ℕ, ◌+◌, ◌^◌, ◌<◌, ◌≤◌, List, [], ◌∷◌, ◌++◌, length, take, drop, sum_by, Option, None, Some}
use Rattle.byteorder.specs.Endian.{little_bytes}
use Rattle.irl_offer.specs.Entries.{op_number}
use Rattle.irl_offer.specs.declared.entry.Entry.{Entry}
use Rattle.irl_offer.specs.declared.offer.Verdict.{Verdict}
use Rattle.irl_offer.specs.declared.offer.Verdict.TheVariants.{Unique, Absent, Known}
use Rattle.irl_offer.specs.declared.receipt.Judged.{Judged}
use Rattle.irl_base.specs.Limits.{max_text}
use Rattle.irl_layout.specs.declared.judged_entry.JudgedEntry.{JudgedEntry}

-- the number of a verdict, and the value that it tells
abbrev pub verdict_number : Option Verdict → ℕ
verdict_number None = 0
verdict_number (Some Unique) = 1
verdict_number (Some Absent) = 2
verdict_number (Some (Known value)) = 3

abbrev pub known_value : Option Verdict → ℕ
known_value None = 0
known_value (Some Unique) = 0
known_value (Some Absent) = 0
known_value (Some (Known value)) = value

-- the 48 bytes of an entry: the bucket, the operation, the verdict, a zero, the text's length, the key, the value, the
-- source, the value that the verdict tells, and the text's place
abbrev pub entry_spelling : JudgedEntry → List ℕ
entry_spelling entry =
    entry.bucket ∷ op_number entry.op ∷ verdict_number entry.verdict ∷ 0 ∷ (little_bytes 4 entry.aux_len
    ++ (little_bytes 8 entry.key ++ (little_bytes 8 entry.value ++ (little_bytes 8 entry.from
    ++ (little_bytes 8 (known_value entry.verdict) ++ little_bytes 8 entry.place)))))

-- an entry whose numbers and text have their room
pub record IsJudgedEntry (entry : JudgedEntry) : Type 0 where
  pub bucket : entry.bucket < 256
  pub aux_len : entry.aux_len ≤ max_text
  pub key : entry.key < 2 ^ 64
  pub value : entry.value < 2 ^ 64
  pub from : entry.from < 2 ^ 64
  pub known : known_value entry.verdict < 2 ^ 64
  pub place : entry.place < 2 ^ 64

-- the entry of a judged offer whose text stands at this place
abbrev pub entry_at : ℕ → Judged → JudgedEntry
entry_at place one = record {
  bucket = one.bucket;
  op = one.offer.op;
  verdict = one.verdict;
  aux_len = length one.offer.aux;
  key = one.offer.key;
  value = one.offer.value;
  from = one.offer.from;
  place = place;
}

-- its bytes
abbrev pub judged_bytes : ℕ → Judged → List ℕ
judged_bytes place one = entry_spelling (entry_at place one)

-- the entries of judged offers, the text of the first of which stands at this place
abbrev pub judged_entries : ℕ → List Judged → List ℕ
judged_entries place [] = []
judged_entries place (one ∷ more) = judged_bytes place one ++ judged_entries (place + length one.offer.aux) more

-- ---- writing them
-- the entry of a judged offer whose text stands at this place, by the offer's own entry
abbrev pub row : ℕ → ℕ → Entry → Option Verdict → List ℕ
row place bucket entry verdict = entry_spelling (record {
  bucket = bucket;
  op = entry.op;
  verdict = verdict;
  aux_len = entry.aux_len;
  key = entry.key;
  value = entry.value;
  from = entry.from;
  place = place;
})

-- those of a bucket's offers, one behind the other
abbrev pub rows : ℕ → ℕ → List Entry → List (Option Verdict) → List ℕ
rows place bucket [] verdicts = []
rows place bucket (entry ∷ entries) [] = []
rows place bucket (entry ∷ entries) (verdict ∷ verdicts) = row place bucket entry verdict
    ++ rows (place + entry.aux_len) bucket entries verdicts

-- ---- reading them back
-- the judged offer of an entry with this text
abbrev pub with_text : JudgedEntry → List ℕ → Judged
with_text entry text = record {
  bucket = entry.bucket;
  offer = record { op = entry.op; key = entry.key; value = entry.value; from = entry.from; aux = text };
  verdict = entry.verdict;
}

-- the judged offers of entries whose texts stand one behind the other
abbrev pub with_texts : List JudgedEntry → List ℕ → List Judged
with_texts [] texts = []
with_texts (entry ∷ entries) texts = with_text entry (take entry.aux_len texts)
    ∷ with_texts entries (drop entry.aux_len texts)

-- how many bytes the texts of entries have
abbrev pub texts_length : List JudgedEntry → ℕ
texts_length entries = sum_by (λ entry. entry.aux_len) entries

-- where the text of the first of them stands
abbrev pub first_place : List JudgedEntry → ℕ
first_place [] = 0
first_place (entry ∷ entries) = entry.place
