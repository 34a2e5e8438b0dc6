-- The bytes of a judged entry: they are its numbers' bytes, and they give it back.
use Rattle.std.proofs.Common.{◌≡◌, ◌∙◌, ℕ, zero, suc, ◌+◌, ◌*◌, ◌/◌, ◌%◌, ◌^◌, ◌<◌, ◌≤◌, nat_eq, false, List, [], ◌∷◌, ◌++◌, length, take, drop, take_all, take-append-drop, Option, None, Some, refl, sym, ap, subst, arith, length-drop}
use Rattle.std.proofs.lemmas.Bool.Decides.{nat_tests}
use Rattle.std.proofs.Math.Nat.{div-div-eq-div-mul, div-one, pow-succ'}
use Rattle.std.proofs.lemmas.List.{drop-drop}
use Rattle.std.specs.Prelude.{slice_index}
use Rattle.std.specs.Int.{byte_at, bytes_low_first}
use Rattle.byteorder.specs.Endian.{little_bytes, little_number}
use Rattle.byteorder.specs.Numbers.{little_from-cons, little_number-reads_back}
use Rattle.irl_offer.specs.Entries.{op_number, op_of}
use Rattle.irl_offer.specs.declared.offer.Op.{Op}
use Rattle.irl_offer.specs.declared.offer.Op.TheVariants.{Check, Update, Both}
use Rattle.irl_offer.specs.declared.offer.Verdict.{Verdict}
use Rattle.irl_offer.specs.declared.offer.Verdict.TheVariants.{Unique, Absent, Known}
use Rattle.irl_layout.specs.declared.judged_entry.JudgedEntry.{JudgedEntry}
use Rattle.irl_layout.specs.JudgedEntries.{entry_spelling, verdict_number, known_value, IsJudgedEntry}

-- ---- a number's bytes
byte_behind : (j b y : ℕ) → b < 256 → byte_at (suc j) (b + 256 * y) ≡ byte_at j y
byte_behind j b y low =
    let first : (b + 256 * y) / 256 ≡ y = omega arith in
    let split : (b + 256 * y) / 256 ^ suc j ≡ y / 256 ^ j =
    ap (λ (p : ℕ). (b + 256 * y) / p) (pow-succ' 256 j) ∙ sym (div-div-eq-div-mul (b + 256 * y) 256 (256 ^ j)) ∙ ap (λ (n : ℕ). n / 256 ^ j) first in
    let rest : y / 256 ^ j % 256 ≡ byte_at j y = elim j as (λ i. y / 256 ^ i % 256 ≡ byte_at i y) [ zero ↦ ap (λ (n : ℕ). n % 256) (div-one y) | suc i ↦ refl ] in
    ap (λ (n : ℕ). n % 256) split ∙ rest

bytes_behind : (k j b y : ℕ) → b < 256 → bytes_low_first (suc j) k (b + 256 * y) ≡ bytes_low_first j k y
bytes_behind zero j b y low = refl
bytes_behind (suc k) j b y low = rw (byte_behind j b y low, bytes_behind k (suc j) b y low) refl

-- the bytes of the number that bytes are, are these
pub bytes_back : (n : ℕ) (xs : List ℕ) → n ≤ length xs → ((i : ℕ) → slice_index xs i < 256) → little_bytes n (little_number n xs) ≡ take n xs
bytes_back zero xs long fit = refl
bytes_back (suc n) [] long fit = absurd (omega arith)
bytes_back (suc n) (x ∷ xs) long fit =
    let low : x < 256 = fit 0 in
    let moved = little_from-cons 0 n x xs in
    let first : (x + 256 * little_number n xs) % 256 ≡ x = omega arith in
    let rest = bytes_behind n 0 x (little_number n xs) low ∙ bytes_back n xs (omega arith) (λ i. fit (suc i)) in
    rw (moved, first, rest) refl

-- ---- what the 48 bytes read as
pub record Reads (entry : JudgedEntry) (bytes : List ℕ) : Type 0 where
  pub bucket : slice_index bytes 0 ≡ entry.bucket
  pub op : slice_index bytes 1 ≡ op_number entry.op
  pub verdict : slice_index bytes 2 ≡ verdict_number entry.verdict
  pub zero_is : slice_index bytes 3 ≡ 0
  pub aux_len : little_number 4 (drop 4 bytes) ≡ entry.aux_len
  pub key : little_number 8 (drop 8 bytes) ≡ entry.key
  pub value : little_number 8 (drop 16 bytes) ≡ entry.value
  pub from : little_number 8 (drop 24 bytes) ≡ entry.from
  pub known : little_number 8 (drop 32 bytes) ≡ known_value entry.verdict
  pub place : little_number 8 (drop 40 bytes) ≡ entry.place

-- its own bytes read as an entry
own_bytes : (entry : JudgedEntry) → IsJudgedEntry entry → Reads entry (entry_spelling entry)
own_bytes entry is =
    let known = little_bytes 8 (known_value entry.verdict) in
    let place = little_bytes 8 entry.place in
    let from = little_bytes 8 entry.from in
    let value = little_bytes 8 entry.value in
    let key = little_bytes 8 entry.key in
    record {
      bucket = refl;
      op = refl;
      verdict = refl;
      zero_is = refl;
      aux_len = little_number-reads_back 4 entry.aux_len (key ++ (value ++ (from ++ (known ++ place)))) (omega (arith, is.aux_len));
      key = little_number-reads_back 8 entry.key (value ++ (from ++ (known ++ place))) is.key;
      value = little_number-reads_back 8 entry.value (from ++ (known ++ place)) is.value;
      from = little_number-reads_back 8 entry.from (known ++ place) is.from;
      known = little_number-reads_back 8 (known_value entry.verdict) place is.known;
      place = little_number-reads_back 8 entry.place [] is.place;
    }

pub spelling_reads : (entry : JudgedEntry) (bytes : List ℕ) → IsJudgedEntry entry → entry_spelling entry ≡ bytes → Reads entry bytes
spelling_reads entry bytes is spelled = subst (Reads entry) spelled (own_bytes entry is)

-- and 48 bytes that read as an entry are its own
part : (at n : ℕ) (bytes : List ℕ) → drop at bytes ≡ take n (drop at bytes) ++ drop (at + n) bytes
part at n bytes = sym (take-append-drop n (drop at bytes)) ∙ ap (λ (rest : List ℕ). take n (drop at bytes) ++ rest) (drop-drop n at bytes)

six_parts : (bytes : List ℕ) → length bytes ≡ 48 → drop 4 bytes ≡ take 4 (drop 4 bytes)
    ++ (take 8 (drop 8 bytes) ++ (take 8 (drop 16 bytes) ++ (take 8 (drop 24 bytes) ++ (take 8 (drop 32 bytes) ++ take 8 (drop 40 bytes)))))
six_parts bytes long =
    let last : drop 40 bytes ≡ take 8 (drop 40 bytes) = sym (take_all 8 (drop 40 bytes) (omega (arith, length-drop 40 bytes))) in
    part 4 4 bytes
    ∙ ap (λ (rest : List ℕ). take 4 (drop 4 bytes) ++ rest) (part 8 8 bytes
    ∙ ap (λ (rest : List ℕ). take 8 (drop 8 bytes) ++ rest) (part 16 8 bytes
    ∙ ap (λ (rest : List ℕ). take 8 (drop 16 bytes) ++ rest) (part 24 8 bytes
    ∙ ap (λ (rest : List ℕ). take 8 (drop 24 bytes) ++ rest) (part 32 8 bytes
    ∙ ap (λ (rest : List ℕ). take 8 (drop 32 bytes) ++ rest) last))))

four_first : (bytes : List ℕ) → 4 ≤ length bytes → bytes ≡ slice_index bytes 0 ∷ slice_index bytes 1 ∷ slice_index bytes 2 ∷ slice_index bytes 3 ∷ drop 4 bytes
four_first [] long = absurd (omega arith)
four_first (a ∷ []) long = absurd (omega arith)
four_first (a ∷ b ∷ []) long = absurd (omega arith)
four_first (a ∷ b ∷ c ∷ []) long = absurd (omega arith)
four_first (a ∷ b ∷ c ∷ d ∷ bytes) long = refl

each_behind : (n : ℕ) (xs : List ℕ) → ((i : ℕ) → slice_index xs i < 256) → (i : ℕ) → slice_index (drop n xs) i < 256
each_behind zero xs fit i = fit i
each_behind (suc n) [] fit i = fit i
each_behind (suc n) (x ∷ xs) fit i = each_behind n xs (λ k. fit (suc k)) i

same_parts : (x y z w : ℕ) (a b c d e f : List ℕ) (x' y' z' w' : ℕ) (a' b' c' d' e' f' : List ℕ) → x ≡ x' → y ≡ y' → z ≡ z' → w ≡ w' → a ≡ a' → b ≡ b' → c ≡ c' → d ≡ d' → e ≡ e' → f ≡ f'
    → (x ∷ y ∷ z ∷ w ∷ (a ++ (b ++ (c ++ (d ++ (e ++ f)))))) ≡ (x' ∷ y' ∷ z' ∷ w' ∷ (a' ++ (b' ++ (c' ++ (d' ++ (e' ++ f'))))))
same_parts x y z w a b c d e f x' y' z' w' a' b' c' d' e' f' hx hy hz hw ha hb hc hd he hf = cc

pub reads_spelling : (entry : JudgedEntry) (bytes : List ℕ) → length bytes ≡ 48 → ((i : ℕ) → slice_index bytes i < 256) → Reads entry bytes → entry_spelling entry ≡ bytes
reads_spelling entry bytes long fit reads =
    let number = λ (at n : ℕ) (here : at + n ≤ 48). bytes_back n (drop at bytes) (omega (arith, length-drop at bytes, here)) (each_behind at bytes fit) in
    let spelled = same_parts _ _ _ _ _ _ _ _ _ _ _ _ _ _ _ _ _ _ _ _ (sym reads.bucket) (sym reads.op) (sym reads.verdict) (sym reads.zero_is)
    (ap (little_bytes 4) (sym reads.aux_len) ∙ number 4 4 (omega arith))
    (ap (little_bytes 8) (sym reads.key) ∙ number 8 8 (omega arith))
    (ap (little_bytes 8) (sym reads.value) ∙ number 16 8 (omega arith))
    (ap (little_bytes 8) (sym reads.from) ∙ number 24 8 (omega arith))
    (ap (little_bytes 8) (sym reads.known) ∙ number 32 8 (omega arith))
    (ap (little_bytes 8) (sym reads.place) ∙ number 40 8 (omega arith)) in
    spelled ∙ sym (four_first bytes (omega (arith, long)) ∙ ap (λ (rest : List ℕ). slice_index bytes 0 ∷ slice_index bytes 1 ∷ slice_index bytes 2 ∷ slice_index bytes 3 ∷ rest) (six_parts bytes long))

-- the number of an operation gives it back
pub op_back : (n : ℕ) (op : Op) → op_of n ≡ Some op → n ≡ op_number op
op_back zero op is = let same : Check ≡ op = cc in ap op_number same
op_back (suc zero) op is = let same : Update ≡ op = cc in ap op_number same
op_back (suc (suc zero)) op is = let same : Both ≡ op = cc in ap op_number same
op_back (suc (suc (suc n))) op is =
    let not_0 : nat_eq (suc (suc (suc n))) 0 ≡ false = grind (arith, nat_tests) in
    let not_1 : nat_eq (suc (suc (suc n))) 1 ≡ false = grind (arith, nat_tests) in
    let not_2 : nat_eq (suc (suc (suc n))) 2 ≡ false = grind (arith, nat_tests) in
    let none = rw (not_0, not_1, not_2) at is in
    cc

-- ---- two entries with the same bytes are one
same_op : (x y : Op) → op_number x ≡ op_number y → x ≡ y
same_op Check Check e = refl
same_op Check Update e = absurd (omega arith)
same_op Check Both e = absurd (omega arith)
same_op Update Check e = absurd (omega arith)
same_op Update Update e = refl
same_op Update Both e = absurd (omega arith)
same_op Both Check e = absurd (omega arith)
same_op Both Update e = absurd (omega arith)
same_op Both Both e = refl

same_verdict : (x y : Option Verdict) → verdict_number x ≡ verdict_number y → known_value x ≡ known_value y → x ≡ y
same_verdict None None e k = refl
same_verdict None (Some Unique) e k = absurd (omega arith)
same_verdict None (Some Absent) e k = absurd (omega arith)
same_verdict None (Some (Known b)) e k = absurd (omega arith)
same_verdict (Some Unique) None e k = absurd (omega arith)
same_verdict (Some Unique) (Some Unique) e k = refl
same_verdict (Some Unique) (Some Absent) e k = absurd (omega arith)
same_verdict (Some Unique) (Some (Known b)) e k = absurd (omega arith)
same_verdict (Some Absent) None e k = absurd (omega arith)
same_verdict (Some Absent) (Some Unique) e k = absurd (omega arith)
same_verdict (Some Absent) (Some Absent) e k = refl
same_verdict (Some Absent) (Some (Known b)) e k = absurd (omega arith)
same_verdict (Some (Known a)) None e k = absurd (omega arith)
same_verdict (Some (Known a)) (Some Unique) e k = absurd (omega arith)
same_verdict (Some (Known a)) (Some Absent) e k = absurd (omega arith)
same_verdict (Some (Known a)) (Some (Known b)) e k = ap (λ (v : ℕ). Some (Known v)) k

made_of : ℕ → Op → Option Verdict → ℕ → ℕ → ℕ → ℕ → ℕ → JudgedEntry
made_of bucket op verdict aux_len key value from place = record { bucket = bucket; op = op; verdict = verdict; aux_len = aux_len; key = key; value = value; from = from; place = place }

same_made : (b b' : ℕ) (o o' : Op) (v v' : Option Verdict) (a a' k k' w w' f f' p p' : ℕ) → b ≡ b' → o ≡ o' → v ≡ v' → a ≡ a' → k ≡ k' → w ≡ w' → f ≡ f' → p ≡ p'
    → made_of b o v a k w f p ≡ made_of b' o' v' a' k' w' f' p'
same_made b b' o o' v v' a a' k k' w w' f f' p p' hb ho hv ha hk hw hf hp = cc

same_fields : (x y : JudgedEntry) → x.bucket ≡ y.bucket → x.op ≡ y.op → x.verdict ≡ y.verdict → x.aux_len ≡ y.aux_len → x.key ≡ y.key → x.value ≡ y.value → x.from ≡ y.from → x.place ≡ y.place → x ≡ y
unfolding made_of
same_fields x y bucket op verdict aux_len key value from place =
    same_made x.bucket y.bucket x.op y.op x.verdict y.verdict x.aux_len y.aux_len x.key y.key x.value y.value x.from y.from x.place y.place bucket op verdict aux_len key value from place

pub same_entry : (x y : JudgedEntry) (bytes : List ℕ) → Reads x bytes → Reads y bytes → x ≡ y
same_entry x y bytes a b =
    same_fields x y (sym a.bucket ∙ b.bucket) (same_op x.op y.op (sym a.op ∙ b.op)) (same_verdict x.verdict y.verdict (sym a.verdict ∙ b.verdict) (sym a.known ∙ b.known))
    (sym a.aux_len ∙ b.aux_len) (sym a.key ∙ b.key) (sym a.value ∙ b.value) (sym a.from ∙ b.from) (sym a.place ∙ b.place)

pub spelling_injective : (x y : JudgedEntry) → IsJudgedEntry x → IsJudgedEntry y → entry_spelling x ≡ entry_spelling y → x ≡ y
spelling_injective x y is_x is_y same = same_entry x y (entry_spelling y) (spelling_reads x (entry_spelling y) is_x same) (own_bytes y is_y)
