-- Numbers of eight bytes each, one behind the other, the lowest byte first.
use Rattle.std.proofs.Common.{◌≡◌, ◌∙◌, ℕ, zero, suc, ◌+◌, ◌*◌, ◌-◌, ◌/◌, ◌%◌, ◌^◌, ◌<◌, ◌≤◌, List, [], ◌∷◌, ◌++◌, length, take, drop, get_or, refl, sym, ap, arith, length-drop, take-append-drop, take_all}
use Rattle.std.proofs.Math.Nat.{div-div-eq-div-mul, div-one, pow-succ'}
use Rattle.std.proofs.Math.Seq.{drop-append_seam}
use Rattle.std.proofs.lemmas.List.Concat.{flat_map-cons}
use Rattle.std.specs.Int.{byte_at, bytes_low_first}
use Rattle.std.specs.List.{flat_map, AllByRecursion}
use Rattle.byteorder.specs.Endian.{little_bytes, little_number}
use Rattle.byteorder.specs.Numbers.{little_from-cons, little_number-reads_back}

-- the numbers that stand in these bytes, so many
abbrev pub numbers_in : ℕ → List ℕ → List ℕ
numbers_in zero bytes = []
numbers_in (suc n) bytes = little_number 8 bytes ∷ numbers_in n (drop 8 bytes)

-- each byte of a list is one
abbrev pub AreBytes : List ℕ → Type 0
AreBytes bytes = (i : ℕ) → get_or bytes i 0 < 256

get-drop : (n i : ℕ) (bytes : List ℕ) → get_or (drop n bytes) i 0 ≡ get_or bytes (n + i) 0
get-drop zero i bytes = let e : i ≡ 0 + i = omega arith in ap (λ (k : ℕ). get_or bytes k 0) e
get-drop (suc n) i [] = refl
get-drop (suc n) i (b ∷ bytes) = let e : suc (n + i) ≡ suc n + i = omega arith in get-drop n i bytes ∙ ap (λ (k : ℕ). get_or (b ∷ bytes) k 0) e

pub bytes-drop : (n : ℕ) (bytes : List ℕ) → AreBytes bytes → AreBytes (drop n bytes)
bytes-drop n bytes small = λ i. rw (get-drop n i bytes) (small (n + i))

-- ---- one number
byte_behind : (j b y : ℕ) → b < 256 → byte_at (suc j) (b + 256 * y) ≡ byte_at j y
byte_behind j b y low =
    let first : (b + 256 * y) / 256 ≡ y = omega arith in
    let split : (b + 256 * y) / 256 ^ suc j ≡ y / 256 ^ j =
    ap (λ (p : ℕ). (b + 256 * y) / p) (pow-succ' 256 j) ∙ sym (div-div-eq-div-mul (b + 256 * y) 256 (256 ^ j)) ∙ ap (λ (n : ℕ). n / 256 ^ j) first in
    let rest : y / 256 ^ j % 256 ≡ byte_at j y = elim j as (λ i. y / 256 ^ i % 256 ≡ byte_at i y) [ zero ↦ ap (λ (n : ℕ). n % 256) (div-one y) | suc i ↦ refl ] in
    ap (λ (n : ℕ). n % 256) split ∙ rest

bytes_behind : (k j b y : ℕ) → b < 256 → bytes_low_first (suc j) k (b + 256 * y) ≡ bytes_low_first j k y
bytes_behind zero j b y low = refl
bytes_behind (suc k) j b y low = rw (byte_behind j b y low, bytes_behind k (suc j) b y low) refl

-- the bytes of the number that bytes are, are these
pub bytes_back : (n : ℕ) (bytes : List ℕ) → n ≤ length bytes → AreBytes bytes → little_bytes n (little_number n bytes) ≡ take n bytes
bytes_back zero bytes long small = refl
bytes_back (suc n) [] long small = absurd (omega arith)
bytes_back (suc n) (b ∷ bytes) long small =
    let low : b < 256 = small 0 in
    let moved = little_from-cons 0 n b bytes in
    let first : (b + 256 * little_number n bytes) % 256 ≡ b = omega arith in
    let rest = bytes_behind n 0 b (little_number n bytes) low ∙ bytes_back n bytes (omega arith) (λ i. small (suc i)) in
    rw (moved, first, rest) refl

-- ---- several
-- bytes are those of their numbers
pub numbers_written : (n : ℕ) (bytes : List ℕ) → length bytes ≡ 8 * n → AreBytes bytes → bytes ≡ flat_map (little_bytes 8) (numbers_in n bytes)
numbers_written zero [] long small = refl
numbers_written zero (b ∷ bytes) long small = absurd (omega (arith, long))
numbers_written (suc n) bytes long small =
    sym (take-append-drop 8 bytes)
    ∙ ap (λ (l : List ℕ). take 8 bytes ++ l) (numbers_written n (drop 8 bytes) (omega (arith, long, length-drop 8 bytes)) (bytes-drop 8 bytes small))
    ∙ ap (λ (l : List ℕ). l ++ flat_map (little_bytes 8) (numbers_in n (drop 8 bytes))) (sym (bytes_back 8 bytes (omega (arith, long)) small))
    ∙ sym (flat_map-cons (little_bytes 8) (little_number 8 bytes) (numbers_in n (drop 8 bytes)))

-- and numbers are read back
pub numbers_read : (ns : List ℕ) → AllByRecursion (λ (x : ℕ). x < 2 ^ 64) ns → numbers_in (length ns) (flat_map (little_bytes 8) ns) ≡ ns
numbers_read [] fit = refl
numbers_read (n ∷ ns) fit =
    let apart = flat_map-cons (little_bytes 8) n ns in
    let first : little_number 8 (flat_map (little_bytes 8) (n ∷ ns)) ≡ n = ap (little_number 8) apart ∙ little_number-reads_back 8 n (flat_map (little_bytes 8) ns) fit.0 in
    let behind : numbers_in (length ns) (drop 8 (flat_map (little_bytes 8) (n ∷ ns))) ≡ ns =
    ap (λ (l : List ℕ). numbers_in (length ns) (drop 8 l)) apart ∙ ap (numbers_in (length ns)) (drop-append_seam (little_bytes 8 n) (flat_map (little_bytes 8) ns)) ∙ numbers_read ns fit.1 in
    cc

-- a part up to the end
pub to_end : (at : ℕ) (bytes : List ℕ) → take (length bytes - at) (drop at bytes) ≡ drop at bytes
to_end at bytes = take_all (length bytes - at) (drop at bytes) (omega (arith, length-drop at bytes))
