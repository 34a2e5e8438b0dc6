-- A map of counts by the texts of domains.
use Rattle.std.specs.Prelude.{ℕ, List, unwrap_or, Vec}
use Rattle.std.specs.Ordering.{nat_cmp}
use Rattle.std.specs.Cmp.Lexicographic.{slice_cmp}
use Rattle.std.specs.BTreeMap.{is_at}
use Rattle.std.specs.Map.{lookup}

-- the count of a domain, 0 where it has none
abbrev pub count_in : {A : Type 0} → List (Vec ℕ A × ℕ) → List ℕ → ℕ
count_in counts pld = unwrap_or (lookup (is_at (λ k. slice_cmp nat_cmp pld k.items)) counts) 0
