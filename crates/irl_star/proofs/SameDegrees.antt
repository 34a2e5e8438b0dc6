-- Adds that give each domain the same degree.
use Rattle.std.proofs.Common.{◌≡◌, ◌∙◌, ℕ, ◌&&◌, ◌||◌, List, get_or, cond, sym, ap}
use Rattle.std.specs.Prelude.{nat_eq, nat_lt}
use Rattle.std.specs.Ordering.{nat_cmp, is_lt}
use Rattle.std.specs.Cmp.Lexicographic.{slice_cmp}
use Rattle.irl_offer.specs.declared.settings.Settings.{Settings}
use Rattle.irl_star.specs.Budgets.{degree, domains, ranks_before, rank, budget_at, budget}
use Rattle.irl_star.proofs.Sorting.{once, degree-domains, same_counts, same_tests}

module _ (xs ys : List (List ℕ)) (same : (pld : List ℕ) → degree xs pld ≡ degree ys pld) where
  same_before : (a b : List ℕ) → ranks_before xs a b ≡ ranks_before ys a b
  unfolding ranks_before
  same_before a b =
      ap (λ (n : ℕ). nat_lt n (degree xs a) || (nat_eq n (degree xs a) && is_lt (slice_cmp nat_cmp a b))) (same b)
      ∙ ap (λ (n : ℕ). nat_lt (degree ys b) n || (nat_eq (degree ys b) n && is_lt (slice_cmp nat_cmp a b))) (same a)

  same_rank : (pld : List ℕ) → rank xs pld ≡ rank ys pld
  unfolding rank
  same_rank pld =
      same_counts (λ (other : List ℕ). ranks_before xs other pld) (domains xs) (domains ys) (λ z.
      degree-domains xs z ∙ ap once (same z) ∙ sym (degree-domains ys z))
      ∙ same_tests (λ (other : List ℕ). ranks_before xs other pld) (λ (other : List ℕ). ranks_before ys other pld) (domains ys) (λ k d lt.
      same_before (get_or (domains ys) k d) pld)

pub same_budget : (settings : Settings) (xs ys : List (List ℕ)) → ((pld : List ℕ) → degree xs pld ≡ degree ys pld) → (pld : List ℕ) → budget settings xs pld ≡ budget settings ys pld
unfolding budget
same_budget settings xs ys same pld =
    ap (λ (n : ℕ). cond (nat_lt 0 n && nat_lt (rank xs pld) settings.ranks) (budget_at settings.base settings.most settings.ranks (rank xs pld)) settings.base) (same pld)
    ∙ ap (λ (r : ℕ). cond (nat_lt 0 (degree ys pld) && nat_lt r settings.ranks) (budget_at settings.base settings.most settings.ranks r) settings.base) (same_rank xs ys same pld)
