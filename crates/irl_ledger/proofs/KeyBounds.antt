-- Keys are below 2 ^ 64, and so each has a bucket.
use Rattle.std.proofs.Common.{ℕ, zero, suc, ◌*◌, ◌/◌, ◌^◌, ◌<◌, ◌≤◌, List, [], ◌∷◌, ◌++◌, take, arith}
use Rattle.std.specs.Prelude.{slice_index}
use Rattle.std.specs.Int.{byte_at, bytes_high_first, to_be_bytes, w32}
use Rattle.std.specs.List.{AllByRecursion}
use Rattle.std.proofs.lemmas.Nat.{div_below, mod_below}
use Rattle.std.proofs.Math.Nat.{mul-le-mul_left}
use Rattle.sha1.specs.Sha1.{digest_bytes, sha1}
use Rattle.irl_offer.specs.Buckets.{bucket_of}
use Rattle.irl_key.specs.Key.{key_of}

abbrev AreBytes : List ℕ → Type 0
AreBytes bytes = AllByRecursion (λ b. b < 256) bytes

byte_small : (i n : ℕ) → byte_at i n < 256
byte_small zero n = mod_below n 256 (omega arith)
byte_small (suc i) n = mod_below (n / 256 ^ suc i) 256 (omega arith)

word_bytes : (count n : ℕ) → AreBytes (bytes_high_first count n)
word_bytes zero n = tt
word_bytes (suc count) n = (byte_small count n, word_bytes count n)

bytes_both : (xs ys : List ℕ) → AreBytes xs → AreBytes ys → AreBytes (xs ++ ys)
bytes_both [] ys one other = other
bytes_both (x ∷ xs) ys one other = (one.0, bytes_both xs ys one.1 other)

digest_are : (h : List ℕ) (n : ℕ) → AreBytes (digest_bytes h n)
unfolding digest_bytes
digest_are h zero = tt
digest_are h (suc n) = bytes_both (digest_bytes h n) (to_be_bytes w32 (slice_index h n)) (digest_are h n) (word_bytes 4 (slice_index h n))

bytes_taken : (n : ℕ) (xs : List ℕ) → AreBytes xs → AreBytes (take n xs)
bytes_taken zero xs all = tt
bytes_taken (suc n) [] all = tt
bytes_taken (suc n) (x ∷ xs) all = (all.0, bytes_taken n xs all.1)

byte_in : (xs : List ℕ) (i : ℕ) → AreBytes xs → slice_index xs i < 256
byte_in [] i all = omega arith
byte_in (x ∷ xs) zero all = all.0
byte_in (x ∷ xs) (suc i) all = byte_in xs i all.1

pub key_small : (text : List ℕ) → key_of text < 2 ^ 64
unfolding key_of sha1
key_small text =
    let bytes = take 8 (sha1 text) in
    let are : AreBytes bytes = bytes_taken 8 (sha1 text) (digest_are _ 5) in
    omega (arith, byte_in bytes 0 are, byte_in bytes 1 are, byte_in bytes 2 are, byte_in bytes 3 are, byte_in bytes 4 are, byte_in bytes 5 are, byte_in bytes 6 are, byte_in bytes 7 are)

pub bucket_small : (buckets key : ℕ) → 0 < buckets → key < 2 ^ 64 → bucket_of buckets key < buckets
bucket_small buckets key some small =
    let le : buckets * key ≤ buckets * 18446744073709551615 = mul-le-mul_left buckets (omega (arith, small)) in
    div_below (key * buckets) (2 ^ 64) buckets (omega arith) (omega (arith, le, some))
