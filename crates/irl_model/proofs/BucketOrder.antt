-- Buckets lie in the order of their keys.
use Rattle.std.proofs.Common.{◌≡◌, ◌∙◌, ℕ, ◌*◌, ◌/◌, ◌^◌, ◌<◌, ◌≤◌, ap, sym, subst, arith, inl, inr}
use Rattle.std.specs.Prelude.{◌↔◌}
use Rattle.std.proofs.lemmas.Bool.{cases_lt}
use Rattle.std.proofs.lemmas.Bool.Decides.{nat_tests}
use Rattle.std.proofs.Math.Nat.{div-lt_iff_lt-mul, div-mul-le_self, lt_of_mul-lt-mul_right, mul-lt-mul_of_pos_right, mul_assoc}
use Rattle.irl_offer.specs.Buckets.{IsBucketCount, bucket_of}

-- the buckets' widths together
whole : (buckets : ℕ) → IsBucketCount buckets → 2 ^ 64 / buckets * buckets ≡ 2 ^ 64
whole buckets is = grind (arith, nat_tests)

some_bucket : (buckets : ℕ) → IsBucketCount buckets → 0 < buckets
some_bucket buckets is = grind (arith, nat_tests)

-- a bucket's first key, times the number of buckets
border_is : (buckets b : ℕ) → IsBucketCount buckets → b * (2 ^ 64 / buckets) * buckets ≡ b * 2 ^ 64
border_is buckets b is = mul_assoc b (2 ^ 64 / buckets) buckets ∙ ap (λ (n : ℕ). b * n) (whole buckets is)

pub border : (buckets b key : ℕ) → IsBucketCount buckets → (bucket_of buckets key < b) ↔ (key < b * (2 ^ 64 / buckets))
border buckets b key is =
    let top : (bucket_of buckets key < b) ↔ (key * buckets < b * 2 ^ 64) = div-lt_iff_lt-mul (omega arith) in (
      λ lt. lt_of_mul-lt-mul_right buckets (subst (λ (n : ℕ). key * buckets < n) (sym (border_is buckets b is)) (top.0 lt)),
      λ lt. top.1 (subst (λ (n : ℕ). key * buckets < n) (border_is buckets b is) (mul-lt-mul_of_pos_right lt (some_bucket buckets is))),
    )

-- the same from the border on
pub from_border : (buckets b key : ℕ) → IsBucketCount buckets → b ≤ bucket_of buckets key → b * (2 ^ 64 / buckets) ≤ key
from_border buckets b key is le = elim (cases_lt key (b * (2 ^ 64 / buckets))) [
  | inl lt ↦ let below = (border buckets b key is).1 lt in absurd (omega arith)
  | inr above ↦ above
]

pub buckets_rise : (buckets j k : ℕ) → bucket_of buckets j < bucket_of buckets k → j < k
buckets_rise buckets j k lt =
    let top : (bucket_of buckets j < bucket_of buckets k) ↔ (j * buckets < bucket_of buckets k * 2 ^ 64) = div-lt_iff_lt-mul (omega arith) in
    let le : bucket_of buckets k * 2 ^ 64 ≤ k * buckets = div-mul-le_self (k * buckets) (2 ^ 64) in
    lt_of_mul-lt-mul_right buckets (omega (arith, top.0 lt, le))
