-- The bytes of judged offers.
use Rattle.std.proofs.Common.{◌≡◌, ℕ, List, [], ◌∷◌, ◌++◌, Option, append_assoc}
use Rattle.byteorder.specs.Endian.{little_bytes}
use Rattle.irl_offer.specs.Entries.{op_number}
use Rattle.irl_offer.specs.declared.offer.Verdict.{Verdict}
use Rattle.irl_offer.specs.declared.entry.Entry.{Entry}
use Rattle.irl_layout.specs.JudgedEntries.{verdict_number, known_value, row}

joined : (e h l k v f n p : List ℕ) → (((((((e ++ h) ++ l) ++ k) ++ v) ++ f) ++ n) ++ p) ≡ e ++ (h ++ (l ++ (k ++ (v ++ (f ++ (n ++ p))))))
joined e h l k v f n p = simp append_assoc

-- the parts of an entry, put one behind the other
pub entry_put : (e : List ℕ) (place bucket : ℕ) (entry : Entry) (verdict : Option Verdict) (op v known : ℕ) (len : List ℕ) → op ≡ op_number entry.op → v ≡ verdict_number verdict
    → len ≡ little_bytes 4 entry.aux_len → known ≡ known_value verdict
    → (((((((e ++ (bucket ∷ op ∷ v ∷ 0 ∷ [])) ++ len) ++ little_bytes 8 entry.key) ++ little_bytes 8 entry.value) ++ little_bytes 8 entry.from) ++ little_bytes 8 known) ++ little_bytes 8 place) ≡ e
    ++ row place bucket entry verdict
entry_put e place bucket entry verdict op v known len op_is v_is len_is known_is =
    rw (op_is, v_is, len_is, known_is)
    (joined e (bucket ∷ op_number entry.op ∷ verdict_number verdict ∷ 0 ∷ []) (little_bytes 4 entry.aux_len) (little_bytes 8 entry.key) (little_bytes 8 entry.value) (little_bytes 8 entry.from)
    (little_bytes 8 (known_value verdict)) (little_bytes 8 place))
