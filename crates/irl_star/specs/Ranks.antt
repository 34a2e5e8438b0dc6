-- The domains in the order of their ranks, and the map of ranks that budgets are read from.
use Rattle.std.specs.Prelude.{◌≡◌, ℕ, ◌<◌, ◌≤◌, List, map, slice_get, Option, None, Some, IsSome, Vec}
use Rattle.std.proofs.Common.{arith}
use Rattle.std.specs.Option.{option_map_or, option_map}
use Rattle.std.specs.declared.cmp.Ordering.{Ordering}
use Rattle.std.specs.declared.cmp.Reverse.{Reverse}
use Rattle.std.specs.Ordering.{nat_cmp, ordering_then}
use Rattle.std.specs.Cmp.Lexicographic.{slice_cmp}
use Rattle.std.specs.BTreeMap.{BTreeMap, get_by}
use Rattle.std.specs.List.Sorted.{IsPermutation, IsSorted, IsStrictlySortedBy}
use Rattle.std.specs.Map.{keys_of}
use Rattle.std.specs.Borrow.{Bor}
use Rattle.irl_star.specs.Budgets.{budget_at}
use Rattle.irl_star.specs.Degrees.{texts_of}

-- the text of a domain and its degree
abbrev pub Domain : Type 0
Domain = List ℕ × ℕ

abbrev pub domain_of : Reverse ℕ × Bor (List ℕ) → Domain
domain_of r = (r.1.now, r.0.0)

-- the order of ranks: the greatest degree first, and at one degree by text
abbrev pub rank_cmp : Domain → Domain → Ordering
rank_cmp a b = ordering_then (nat_cmp b.1 a.1) (slice_cmp nat_cmp a.0 b.0)

-- the entries of a map in the order of their ranks
pub record IsRanking {A : Type 0} (entries : List (Vec ℕ A × ℕ)) (ranked : List (Reverse ℕ × Bor (List ℕ))) : Type 0
  where
    pub keys : IsStrictlySortedBy (λ x y. slice_cmp nat_cmp x.items y.items) (keys_of entries)
    pub same : IsPermutation (texts_of entries) (map domain_of ranked)
    pub sorted : IsSorted rank_cmp (map domain_of ranked)

-- the rank that a map has of a domain
abbrev pub rank_in : {A : Type 0} → BTreeMap (Vec ℕ A) ℕ → List ℕ → Option ℕ
rank_in rank_of pld = get_by (λ k. slice_cmp nat_cmp pld k.items) rank_of

-- the map has the ranks below a bound, of domains in the order of their ranks
pub record AreRanks {A : Type 0} (ranked : List Domain) (ranks : ℕ) (rank_of : BTreeMap (Vec ℕ A) ℕ) : Type 0 where
  pub found : (pld : List ℕ) (i : ℕ) → rank_in rank_of pld ≡ Some i → (i < ranks)
      × (option_map (λ d. d.0) (slice_get ranked i) ≡ Some pld)
  pub all : (i : ℕ) (d : Domain) → slice_get ranked i ≡ Some d → i < ranks → IsSome (rank_in rank_of d.0)

pub budget-positive : (base most ranks : ℕ) (found : Option ℕ) → 1 ≤ base
    → 1 ≤ option_map_or (budget_at base most ranks) found base
budget-positive base most ranks None positive = positive
budget-positive base most ranks (Some rank) positive = omega arith
