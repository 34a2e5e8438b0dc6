-- The bytes of a sorted run, and the pairs that they are.
use Rattle.std.proofs.Common.{◌≡◌, ◌∙◌, ℕ, zero, suc, ◌+◌, ◌*◌, ◌/◌, ◌%◌, ◌^◌, ◌<◌, ◌≤◌, List, [], ◌∷◌, ◌++◌, length, map, take, drop, refl, sym, ap, subst, arith, append_assoc, length-append, length-drop}
use Rattle.std.proofs.Math.Seq.{take-add}
use Rattle.std.proofs.lemmas.List.{append-nil, map-append, drop-drop, get_or-drop}
use Rattle.std.proofs.lemmas.Grind.{flat_map-append}
use Rattle.std.proofs.Math.Nat.{div-div-eq-div-mul, div-one, pow-succ'}
use Rattle.std.specs.Prelude.{slice_index}
use Rattle.std.specs.Int.{byte_at, bytes_low_first}
use Rattle.byteorder.specs.Endian.{little_bytes, little_number}
use Rattle.byteorder.specs.Numbers.{little_from-cons, little_number-reads_back}
use Rattle.irl_journal.specs.Blob.{BeginsWith}
use Rattle.irl_offer.specs.declared.receipt.Pair.{Pair}
use Rattle.irl_model.specs.Pairs.{pair_of}
use Rattle.irl_cache.specs.SortedRun.{AreWordPairs, pairs_bytes}

pub length-pairs : (ps : List (ℕ × ℕ)) → length (pairs_bytes ps) ≡ 16 * length ps
length-pairs [] = refl
length-pairs (p ∷ ps) = length-append (little_bytes 8 p.0 ++ little_bytes 8 p.1) (pairs_bytes ps) ∙ (let ih = length-pairs ps in omega (arith, ih))

pub length-mapped : (xs : List Pair) → length (map pair_of xs) ≡ length xs
length-mapped [] = refl
length-mapped (x ∷ xs) = ap (λ (n : ℕ). suc n) (length-mapped xs)

pub bytes_both : (ps qs : List (ℕ × ℕ)) → pairs_bytes (ps ++ qs) ≡ pairs_bytes ps ++ pairs_bytes qs
bytes_both ps qs = flat_map-append (λ (p : ℕ × ℕ). little_bytes 8 p.0 ++ little_bytes 8 p.1) ps qs

-- the same of pairs
pub bytes_joined : (xs ys : List Pair) → pairs_bytes (map pair_of (xs ++ ys)) ≡ pairs_bytes (map pair_of xs) ++ pairs_bytes (map pair_of ys)
bytes_joined xs ys = ap pairs_bytes (map-append pair_of xs ys) ∙ bytes_both (map pair_of xs) (map pair_of ys)

pub bytes_more : (xs : List Pair) (p : Pair) → pairs_bytes (map pair_of (xs ++ p ∷ [])) ≡ pairs_bytes (map pair_of xs) ++ (little_bytes 8 p.key ++ little_bytes 8 p.value)
bytes_more xs p = bytes_joined xs (p ∷ []) ∙ ap (λ (b : List ℕ). pairs_bytes (map pair_of xs) ++ b) (append-nil (little_bytes 8 p.key ++ little_bytes 8 p.value))

-- ---- a number's bytes
byte_behind : (j b y : ℕ) → b < 256 → byte_at (suc j) (b + 256 * y) ≡ byte_at j y
byte_behind j b y low =
    let first : (b + 256 * y) / 256 ≡ y = omega arith in
    let split : (b + 256 * y) / 256 ^ suc j ≡ y / 256 ^ j =
    ap (λ (p : ℕ). (b + 256 * y) / p) (pow-succ' 256 j) ∙ sym (div-div-eq-div-mul (b + 256 * y) 256 (256 ^ j)) ∙ ap (λ (n : ℕ). n / 256 ^ j) first in
    let rest : y / 256 ^ j % 256 ≡ byte_at j y = elim j as (λ i. y / 256 ^ i % 256 ≡ byte_at i y) [ zero ↦ ap (λ (n : ℕ). n % 256) (div-one y) | suc i ↦ refl ] in
    ap (λ (n : ℕ). n % 256) split ∙ rest

bytes_behind : (k j b y : ℕ) → b < 256 → bytes_low_first (suc j) k (b + 256 * y) ≡ bytes_low_first j k y
bytes_behind zero j b y low = refl
bytes_behind (suc k) j b y low = rw (byte_behind j b y low, bytes_behind k (suc j) b y low) refl

-- the bytes of the number that bytes are, are these
bytes_back : (n : ℕ) (xs : List ℕ) → n ≤ length xs → ((i : ℕ) → slice_index xs i < 256) → little_bytes n (little_number n xs) ≡ take n xs
bytes_back zero xs long fit = refl
bytes_back (suc n) [] long fit = absurd (omega arith)
bytes_back (suc n) (x ∷ xs) long fit =
    let low : x < 256 = fit 0 in
    let moved = little_from-cons 0 n x xs in
    let first : (x + 256 * little_number n xs) % 256 ≡ x = omega arith in
    let rest = bytes_behind n 0 x (little_number n xs) low ∙ bytes_back n xs (omega arith) (λ i. fit (suc i)) in
    rw (moved, first, rest) refl

fit_behind : (n : ℕ) (xs : List ℕ) → ((i : ℕ) → slice_index xs i < 256) → (i : ℕ) → slice_index (drop n xs) i < 256
fit_behind n xs fit i = omega (arith, get_or-drop n xs i 0, fit (n + i))

-- the bytes of the pair that stands at a place
module _ (bytes : List ℕ) (at : ℕ) (within : at + 16 ≤ length bytes) (fit : (i : ℕ) → slice_index bytes i < 256) where
  pub entry_is : (key value : ℕ) → key ≡ little_number 8 (drop at bytes) → value ≡ little_number 8 (drop (at + 8) bytes) → little_bytes 8 key ++ little_bytes 8 value ≡ take 16 (drop at bytes)
  entry_is key value key_is value_is =
      let k = ap (little_bytes 8) key_is ∙ bytes_back 8 (drop at bytes) (omega (arith, length-drop at bytes)) (fit_behind at bytes fit) in
      let v = ap (little_bytes 8) value_is ∙ bytes_back 8 (drop (at + 8) bytes) (omega (arith, length-drop (at + 8) bytes)) (fit_behind (at + 8) bytes fit) in
      ap (λ (l : List ℕ). l ++ little_bytes 8 value) k
      ∙ ap (λ (l : List ℕ). take 8 (drop at bytes) ++ l) (v ∙ ap (take 8) (sym (drop-drop 8 at bytes)))
      ∙ sym (take-add 8 8 (drop at bytes))

-- one entry more of a piece
pub piece_more : (bytes : List ℕ) (i : ℕ) (pairs : List Pair) (p : Pair) → i < length bytes / 16 → ((k : ℕ) → slice_index bytes k < 256) → p.key ≡ little_number 8 (drop (16 * i) bytes) → p.value
    ≡ little_number 8 (drop (16 * i + 8) bytes)
    → pairs_bytes (map pair_of pairs) ≡ take (16 * i) bytes → pairs_bytes (map pair_of (pairs ++ p ∷ [])) ≡ take (16 * (i + 1)) bytes
piece_more bytes i pairs p within fit key value so_far =
    let entry = entry_is bytes (16 * i) (omega (arith, within)) fit p.key p.value key value in
    let next : 16 * i + 16 ≡ 16 * (i + 1) = omega arith in
    bytes_more pairs p
    ∙ ap (λ (l : List ℕ). l ++ (little_bytes 8 p.key ++ little_bytes 8 p.value)) so_far
    ∙ ap (λ (l : List ℕ). take (16 * i) bytes ++ l) entry
    ∙ sym (take-add (16 * i) 16 bytes)
    ∙ ap (λ (n : ℕ). take n bytes) next

-- ---- which pairs have their room
pub words_both : (ps qs : List (ℕ × ℕ)) → AreWordPairs ps → AreWordPairs qs → AreWordPairs (ps ++ qs)
words_both [] qs h k = k
words_both (p ∷ ps) qs h k = (h.0, words_both ps qs h.1 k)

pub words_joined : (xs ys : List Pair) → AreWordPairs (map pair_of xs) → AreWordPairs (map pair_of ys) → AreWordPairs (map pair_of (xs ++ ys))
words_joined xs ys h k = subst AreWordPairs (sym (map-append pair_of xs ys)) (words_both (map pair_of xs) (map pair_of ys) h k)

words_front : (ps qs : List (ℕ × ℕ)) → AreWordPairs (ps ++ qs) → AreWordPairs ps
words_front [] qs h = tt
words_front (p ∷ ps) qs h = (h.0, words_front ps qs h.1)

pub pairs_front : (xs ys : List Pair) → AreWordPairs (map pair_of (xs ++ ys)) → AreWordPairs (map pair_of xs)
pairs_front xs ys h = words_front (map pair_of xs) (map pair_of ys) (subst AreWordPairs (map-append pair_of xs ys) h)

-- ---- bytes tell the pairs
module _ (p : ℕ × ℕ) (rest : List ℕ) (fits : (p.0 < 2 ^ 64) × (p.1 < 2 ^ 64)) where
  pub key_first : little_number 8 ((little_bytes 8 p.0 ++ little_bytes 8 p.1) ++ rest) ≡ p.0
  key_first = little_number-reads_back 8 p.0 (little_bytes 8 p.1 ++ rest) fits.0

  pub value_first : little_number 8 (drop 8 ((little_bytes 8 p.0 ++ little_bytes 8 p.1) ++ rest)) ≡ p.1
  value_first = little_number-reads_back 8 p.1 rest fits.1

-- runs of as many pairs at the front of one file are the same
pub same_runs : (ps qs : List (ℕ × ℕ)) (x y : List ℕ) → AreWordPairs ps → AreWordPairs qs → length ps ≡ length qs → pairs_bytes ps ++ x ≡ pairs_bytes qs ++ y → ps ≡ qs
same_runs [] [] x y fits_p fits_q long same = refl
same_runs [] (q ∷ qs) x y fits_p fits_q long same = absurd (omega (arith, long))
same_runs (p ∷ ps) [] x y fits_p fits_q long same = absurd (omega (arith, long))
same_runs (p ∷ ps) (q ∷ qs) x y fits_p fits_q long same =
    let e = λ (r : ℕ × ℕ). little_bytes 8 r.0 ++ little_bytes 8 r.1 in
    let apart : e p ++ (pairs_bytes ps ++ x) ≡ e q ++ (pairs_bytes qs ++ y) = sym (append_assoc (e p) (pairs_bytes ps) x) ∙ same ∙ append_assoc (e q) (pairs_bytes qs) y in
    let key : p.0 ≡ q.0 = sym (key_first p (pairs_bytes ps ++ x) fits_p.0) ∙ ap (little_number 8) apart ∙ key_first q (pairs_bytes qs ++ y) fits_q.0 in
    let value : p.1 ≡ q.1 = sym (value_first p (pairs_bytes ps ++ x) fits_p.0) ∙ ap (λ (l : List ℕ). little_number 8 (drop 8 l)) apart ∙ value_first q (pairs_bytes qs ++ y) fits_q.0 in
    let more : ps ≡ qs = same_runs ps qs x y fits_p.1 fits_q.1 (omega (arith, long)) (ap (drop 16) apart) in
    let first : p ≡ q = ap (λ (n : ℕ). (n, p.1)) key ∙ ap (λ (n : ℕ). (q.0, n)) value in
    ap (λ (r : ℕ × ℕ). r ∷ ps) first ∙ ap (λ (l : List (ℕ × ℕ)). q ∷ l) more

pub same_fronts : (ps qs : List (ℕ × ℕ)) (file : List ℕ) → AreWordPairs ps → AreWordPairs qs → length ps ≡ length qs → BeginsWith file (pairs_bytes ps) → BeginsWith file (pairs_bytes qs) → ps ≡ qs
same_fronts ps qs file fits_p fits_q long p q = same_runs ps qs p.0 q.0 fits_p fits_q long (sym p.1 ∙ q.1)
