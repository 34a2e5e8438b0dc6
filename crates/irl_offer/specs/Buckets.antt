-- The buckets of a DRUM: keys are spread over them by their top bits.
use Rattle.std.specs.Prelude.{ℕ, ◌*◌, ◌/◌, ◌^◌, nat_eq, Bool, ◌||◌, IsTrue}

-- a number of buckets: a power of two from 1 to 64
abbrev pub is_bucket_count : ℕ → Bool
is_bucket_count buckets =
    nat_eq buckets 1 || nat_eq buckets 2 || nat_eq buckets 4 || nat_eq buckets 8 || nat_eq buckets 16 || nat_eq buckets
    32 || nat_eq buckets 64

abbrev pub IsBucketCount : ℕ → Type 0
IsBucketCount buckets = IsTrue (is_bucket_count buckets)

-- the bucket of a key: the number that its top bits give, as many as tell that many buckets apart
abbrev pub bucket_of : ℕ → ℕ → ℕ
bucket_of buckets key = key * buckets / 2 ^ 64
