-- Budgets of domains by their in-degree (Lee, Leonard, Wang and Loguinov, "IRLbot: Scaling to 6 Billion Pages and
-- Beyond", WWW 2008, section 5). The adds are a list of the texts of domains, one for each domain that links to it.
use Rattle.std.specs.Prelude.{ℕ, ◌+◌, ◌-◌, ◌*◌, ◌/◌, nat_eq, nat_lt, Bool, ◌&&◌, ◌||◌, if◌then◌else◌, List, [], ◌∷◌, count_by, bytes_eq}
use Rattle.std.specs.Ordering.{nat_cmp, is_lt}
use Rattle.std.specs.Cmp.Lexicographic.{slice_cmp}
use Rattle.irl_offer.specs.declared.settings.Settings.{Settings}

-- how many of the adds are of this domain
unfoldable pub degree : List (List ℕ) → List ℕ → ℕ
degree adds pld = count_by (λ x. bytes_eq pld x) adds

-- the domains of the adds, each once
unfoldable pub domains : List (List ℕ) → List (List ℕ)
domains [] = []
domains (x ∷ xs) = if nat_eq (degree xs x) 0 then x ∷ domains xs else domains xs

-- one domain ranks before another: by degree, the greatest first, and at one degree by text
unfoldable pub ranks_before : List (List ℕ) → List ℕ → List ℕ → Bool
ranks_before adds a b =
    nat_lt (degree adds b) (degree adds a) || (nat_eq (degree adds b) (degree adds a) && is_lt (slice_cmp nat_cmp a b))

-- the rank of a domain, from 0: how many domains rank before it
unfoldable pub rank : List (List ℕ) → List ℕ → ℕ
rank adds pld = count_by (λ other. ranks_before adds other pld) (domains adds)

-- the budget at a rank, of so many ranks: from the most, at rank 0, down towards the base
abbrev pub budget_at : ℕ → ℕ → ℕ → ℕ → ℕ
budget_at base most ranks rank = base + (most - base) * (ranks - rank) / ranks

-- the budget of a domain: the base where it was never added or as many domains as there are ranks rank before it
unfoldable pub budget : Settings → List (List ℕ) → List ℕ → ℕ
budget settings adds pld =
    if nat_lt 0 (degree adds pld) && nat_lt (rank adds pld) settings.ranks
    then budget_at settings.base settings.most settings.ranks (rank adds pld)
    else settings.base
