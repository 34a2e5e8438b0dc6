-- A part of the judged offers as it is held once it is read: its entries, and their texts in one piece.
use Rattle.std.specs.Prelude.{◌≡◌, ℕ, ◌+◌, ◌≤◌, List, [], ◌∷◌, length}
use Rattle.std.specs.List.{AllByRecursion}
use Rattle.irl_offer.specs.declared.receipt.Judged.{Judged}
use Rattle.irl_base.specs.Limits.{max_text}
use Rattle.irl_layout.specs.declared.judged_entry.JudgedEntry.{JudgedEntry}
use Rattle.irl_bay.specs.declared.judged_part.JudgedRef.{JudgedRef}
use Rattle.irl_layout.specs.JudgedEntries.{texts_length}

-- entries of which each text stands right behind that of the one before
abbrev pub AreJoined : List JudgedEntry → Type 0
AreJoined [] = Unit {0}
AreJoined (entry ∷ []) = Unit {0}
AreJoined (entry ∷ next ∷ entries) = (next.place ≡ entry.place + entry.aux_len) × AreJoined (next ∷ entries)

-- entries with texts as long as theirs, which stand one behind the other
pub record IsPart (entries : List JudgedEntry) (texts : List ℕ) : Type 0 where
  pub long : length texts ≡ texts_length entries
  pub each : AllByRecursion (λ entry. entry.aux_len ≤ max_text) entries
  pub joined : AreJoined entries

-- the judged offer that one which lends its text says
abbrev pub as_judged : JudgedRef → Judged
as_judged one = record {
  bucket = one.bucket;
  offer = record { op = one.op; key = one.key; value = one.value; from = one.from; aux = one.aux.now };
  verdict = one.verdict;
}
