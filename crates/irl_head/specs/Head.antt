-- The head: the settings in 100 bytes.
use Rattle.std.specs.Prelude.{◌≡◌, ◌≢◌, ◌⊎◌, ℕ, ◌+◌, ◌*◌, ◌-◌, ◌<◌, ◌≤◌, List, [], ◌∷◌, ◌++◌, length, take, drop, slice_index}
use Rattle.std.specs.List.{flat_map}
use Rattle.byteorder.specs.Endian.{little_bytes, little_number}
use Rattle.irl_offer.specs.Buckets.{IsBucketCount}
use Rattle.irl_offer.specs.declared.offer.Rule.{Rule}
use Rattle.irl_offer.specs.declared.offer.Rule.TheVariants.{Keep, Replace, Add}
use Rattle.irl_offer.specs.declared.settings.Kind.{Kind}
use Rattle.irl_offer.specs.declared.settings.Kind.TheVariants.{Lines, Tuples, Crawl}
use Rattle.irl_offer.specs.declared.settings.Settings.{Settings}

abbrev pub kind_number : Kind → ℕ
kind_number Lines = 1
kind_number Tuples = 2
kind_number Crawl = 3

abbrev pub rule_number : Rule → ℕ
rule_number Keep = 0
rule_number Replace = 1
rule_number Add = 2

-- the settings as numbers, setting 1 first
abbrev pub setting_numbers : Settings → List ℕ
setting_numbers s =
    kind_number s.kind ∷ rule_number s.rule ∷ s.buckets ∷ s.array ∷ s.trigger ∷ s.block ∷ s.cap ∷ s.queues ∷ s.base
    ∷ s.most ∷ s.ranks ∷ []

-- `IRLSTORE`, and the version
abbrev pub head_name : List ℕ
head_name = 73 ∷ 82 ∷ 76 ∷ 83 ∷ 84 ∷ 79 ∷ 82 ∷ 69 ∷ []

abbrev pub head_version : ℕ
head_version = 1

-- the payload of the head's record
abbrev pub head_bytes : Settings → List ℕ
head_bytes settings = head_name ++ (little_bytes 4 head_version ++ flat_map (little_bytes 8) (setting_numbers settings))

-- ---- a payload that is none
-- setting n, from 1, of a payload
abbrev pub number_in : List ℕ → ℕ → ℕ
number_in payload n = little_number 8 (drop (12 + 8 * (n - 1)) payload)

-- a number that setting n may have, where the least budget is this
pub record IsInRange (base n number : ℕ) : Type 0 where
  pub kind : n ≡ 1 → (1 ≤ number) × (number ≤ 3)
  pub rule : n ≡ 2 → number ≤ 2
  pub buckets : n ≡ 3 → IsBucketCount number
  pub array : n ≡ 4 → (1 ≤ number) × (number ≤ 8192)
  pub trigger : n ≡ 5 → (1 ≤ number) × (number ≤ 1048576)
  pub block : n ≡ 6 → (1 ≤ number) × (number ≤ 65536)
  pub cap : n ≡ 7 → (1 ≤ number) × (number ≤ 1099511627776)
  pub queues : n ≡ 8 → (1 ≤ number) × (number ≤ 64)
  pub least : n ≡ 9 → (1 ≤ number) × (number ≤ 1000000)
  pub most : n ≡ 10 → (base ≤ number) × (number ≤ 1000000)
  pub ranks : n ≡ 11 → (1 ≤ number) × (number ≤ 1000000)

-- the first of the settings that isn't in its range
pub record IsBadSetting (payload : List ℕ) (n : ℕ) : Type 0 where
  pub within : (1 ≤ n) × (n ≤ 11)
  pub bad : IsInRange (number_in payload 9) n (number_in payload n) → ⊥
  pub before : (m : ℕ) → 1 ≤ m → m < n → IsInRange (number_in payload 9) m (number_in payload m)

-- the first byte of the name that differs
pub record IsBadName (payload : List ℕ) (i : ℕ) : Type 0 where
  pub within : i < 8
  pub before : take i payload ≡ take i head_name
  pub differs : slice_index payload i ≢ slice_index head_name i

-- The place in the head's file of what makes a payload none, the first of these: its length, which stands at 1; a byte
-- of the name; the version; a setting.
abbrev pub IsNoHeadAt : List ℕ → ℕ → Type 0
IsNoHeadAt payload at =
    ((length payload ≢ 100) × (at ≡ 1))
    ⊎ ((length payload ≡ 100) × (i : ℕ) × IsBadName payload i × (at ≡ 5 + i))
    ⊎ ((length payload ≡ 100) × (take 8 payload ≡ head_name) × (little_number 4 (drop 8 payload) ≢ head_version)
    × (at ≡ 13))
    ⊎ ((length payload ≡ 100) × (take 8 payload ≡ head_name) × (little_number 4 (drop 8 payload) ≡ head_version)
    × (n : ℕ) × IsBadSetting payload n × (at ≡ 17 + 8 * (n - 1)))
