-- What the pay-level domain of a host is, by the names that the host ends in.
use Rattle.std.specs.Prelude.{◌≡◌, ℕ, ◌≤◌, ◌⊎◌, List, [], ◌∷◌, ◌++◌, length, IsTrue}
use Rattle.irl_pld.specs.Names.{is_listed}
use Rattle.irl_pld.specs.Domains.{tails, is_address}

-- no dot stands in the bytes
abbrev pub HasNoDot : List ℕ → Type 0
HasNoDot bytes = tails bytes ≡ []

-- the labels are the host, or all that follows one of its dots
abbrev pub EndsIn : List ℕ → List ℕ → Type 0
EndsIn host labels = (host ≡ labels) ⊎ ((front : List ℕ) × (host ≡ front ++ 46 ∷ labels))

-- a listed name that the host ends in
pub record IsSuffix (text host suffix : List ℕ) : Type 0 where
  pub listed : IsTrue (is_listed text suffix)
  pub ends : EndsIn host suffix

-- the longest such name
pub record IsLongestSuffix (text host suffix : List ℕ) : Type 0 where
  pub is_suffix : IsSuffix text host suffix
  pub longest : (other : List ℕ) → IsSuffix text host other → length other ≤ length suffix

-- the host ends in the domain, which is one label more than the suffix
pub record IsOneMore (host suffix domain : List ℕ) : Type 0 where
  pub label : List ℕ
  pub single : HasNoDot label
  pub spelled : domain ≡ label ++ 46 ∷ suffix
  pub ends : EndsIn host domain

-- an address, a listed name or a single label
abbrev pub IsOwn : List ℕ → List ℕ → Type 0
IsOwn text host = IsTrue (is_address host) ⊎ IsTrue (is_listed text host) ⊎ HasNoDot host

-- the domain of a host without port and last dot
pub record IsDomain (text host domain : List ℕ) : Type 0 where
  pub own : IsOwn text host → domain ≡ host
  -- of any other host, the longest suffix and one label more
  pub longest : ¬ (IsOwn text host)
      → (suffix : List ℕ) → IsLongestSuffix text host suffix → IsOneMore host suffix domain
  -- with no suffix, the last two labels
  pub two_labels : ¬ (IsOwn text host) → ((suffix : List ℕ) → ¬ (IsSuffix text host suffix))
      → (last : List ℕ) × HasNoDot last × IsOneMore host last domain
