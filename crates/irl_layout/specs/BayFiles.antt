-- Which file each part of a bay is: the one table from which code and contracts take their numbers.
use Rattle.std.specs.Prelude.{◌≡◌, ◌⊎◌, ℕ, ◌+◌, ◌*◌, ◌<◌, ◌≤◌}
use Rattle.irl_layout.specs.declared.files.BayFile.{BayFile}
use Rattle.irl_layout.specs.declared.files.BayFile.TheVariants.{Manifest, Cache, Judged, Texts, Journal, Aux}

-- a part's file, of a bay whose first file is `base`. The generation is 0: a bay that dropped none of its first offers.
abbrev pub file_of : ℕ → ℕ → BayFile → ℕ
file_of base generation Manifest = base + 5 * generation
file_of base generation (Cache side) = base + 1 + side
file_of base generation Judged = base + 3 + 3 * generation
file_of base generation Texts = base + 4 + 3 * generation
file_of base generation (Journal side b) = base + 10 + 490 * side + 2 * b
file_of base generation (Aux side b) = base + 11 + 490 * side + 2 * b

-- a part that a bay of so many buckets has
abbrev pub IsPartOf : ℕ → BayFile → Type 0
IsPartOf buckets Manifest = Unit {0}
IsPartOf buckets (Cache side) = side ≤ 1
IsPartOf buckets Judged = Unit {0}
IsPartOf buckets Texts = Unit {0}
IsPartOf buckets (Journal side b) = (side ≤ 1) × (b < buckets)
IsPartOf buckets (Aux side b) = (side ≤ 1) × (b < buckets)

-- a file of a bay
abbrev pub IsFileOf : ℕ → ℕ → ℕ → Type 0
IsFileOf base buckets f = (part : BayFile) × IsPartOf buckets part × (f ≡ file_of base 0 part)

-- the two files of a bucket on a side
abbrev pub IsBucketFile : ℕ → ℕ → ℕ → ℕ → Type 0
IsBucketFile base side b f = (f ≡ file_of base 0 (Journal side b)) ⊎ (f ≡ file_of base 0 (Aux side b))

-- the files of all buckets on a side
abbrev pub IsSideFile : ℕ → ℕ → ℕ → ℕ → Type 0
IsSideFile base side buckets f = (b : ℕ) × (b < buckets) × IsBucketFile base side b f

-- the greatest first file of a bay
abbrev pub max_base : ℕ
max_base = 9000
