-- Degrees as a finite map, and what ties it to the adds.
use Rattle.std.specs.Prelude.{◌≡◌, ℕ, zero, suc, List, map, Option, None, Some, unwrap_or, Vec}
use Rattle.std.specs.Ordering.{nat_cmp}
use Rattle.std.specs.Cmp.Lexicographic.{slice_cmp}
use Rattle.std.specs.FinMap.{FinMap, get}
use Rattle.irl_star.specs.Budgets.{degree}

-- degrees by the texts of domains
abbrev pub DegreeMap : Type 0
DegreeMap = FinMap (slice_cmp nat_cmp) ℕ

-- the degree of a domain: 0 where the map doesn't have it
abbrev pub degree_in : DegreeMap → List ℕ → ℕ
degree_in degrees pld = unwrap_or (get degrees pld) 0

-- a degree as the map has it: no 0
abbrev pub kept : ℕ → Option ℕ
kept zero = None
kept (suc n) = Some (suc n)

-- the map has the degree of each domain among the adds, and no other domain
pub record Counts (degrees : DegreeMap) (adds : List (List ℕ)) : Type 0 where
  pub each : (pld : List ℕ) → get degrees pld ≡ kept (degree adds pld)

-- entries with vectors as keys, by their texts
abbrev pub texts_of : {A X : Type 0} → List (Vec ℕ A × X) → List (List ℕ × X)
texts_of entries = map (λ e. (e.0.items, e.1)) entries
