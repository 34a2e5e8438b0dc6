-- What is asked of a store, against its settings and against what settings may be.
use Rattle.std.specs.Prelude.{◌≡◌, ◌≢◌, ℕ, ◌-◌, ◌<◌, ◌≤◌, List, [], ◌∷◌, slice_index, slice_get, Option, Some}
use Rattle.std.specs.Option.{option_map}
use Rattle.irl_offer.specs.declared.settings.Asked.{Asked}
use Rattle.irl_offer.specs.declared.settings.Settings.{Settings}
use Rattle.irl_head.specs.Head.{kind_number, rule_number, setting_numbers, IsInRange}

-- what is asked of each setting, setting 1 first
abbrev pub asked_numbers : Asked → List (Option ℕ)
asked_numbers asked =
    Some (kind_number asked.kind) ∷ option_map rule_number asked.rule ∷ asked.buckets ∷ asked.array ∷ asked.trigger
    ∷ asked.block ∷ asked.cap ∷ asked.queues ∷ asked.base ∷ asked.most ∷ asked.ranks ∷ []

-- setting n is the first that was asked for otherwise than it is kept
pub record IsOther (asked : Asked) (settings : Settings) (n kept wanted : ℕ) : Type 0 where
  pub within : (1 ≤ n) × (n ≤ 11)
  pub kept_is : slice_get (setting_numbers settings) (n - 1) ≡ Some kept
  pub asked_is : slice_get (asked_numbers asked) (n - 1) ≡ Some (Some wanted)
  pub differ : kept ≢ wanted
  pub before : (m a k : ℕ) → m < n - 1 → slice_get (asked_numbers asked) m ≡ Some (Some a)
      → slice_get (setting_numbers settings) m ≡ Some k → a ≡ k

-- what was asked is as it is kept
abbrev pub Agrees : Asked → Settings → Type 0
Agrees asked settings = (n a k : ℕ) → slice_get (asked_numbers asked) n ≡ Some (Some a)
    → slice_get (setting_numbers settings) n ≡ Some k → a ≡ k

-- setting n is the first that is out of its range
pub record IsBadAsked (settings : Settings) (n : ℕ) : Type 0 where
  pub within : (1 ≤ n) × (n ≤ 11)
  pub bad : IsInRange settings.base n (slice_index (setting_numbers settings) (n - 1)) → ⊥
  pub before : (m : ℕ) → 1 ≤ m → m < n → IsInRange settings.base m (slice_index (setting_numbers settings) (m - 1))
