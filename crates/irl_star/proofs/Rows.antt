-- The definitions on a worked row: b and c were added twice and a once, d never.
use Rattle.std.proofs.Common.{◌≡◌, ℕ, List, [], ◌∷◌, None, refl}
use Rattle.irl_offer.specs.Settings.{settings_of}
use Rattle.irl_offer.specs.declared.settings.Asked.{Asked}
use Rattle.irl_offer.specs.declared.settings.Kind.TheVariants.{Crawl}
use Rattle.irl_star.specs.Budgets.{degree, domains, ranks_before, rank, budget}

abbrev asked : Asked
asked = record {
  kind = Crawl;
  rule = None;
  buckets = None;
  array = None;
  trigger = None;
  block = None;
  cap = None;
  queues = None;
  base = None;
  most = None;
  ranks = None;
}

abbrev domain : ℕ → List ℕ
domain letter = letter ∷ 46 ∷ 116 ∷ []

abbrev adds : List (List ℕ)
adds = domain 99 ∷ domain 98 ∷ domain 97 ∷ domain 98 ∷ domain 99 ∷ []

budgets_row : ◌≡◌ {A = ℕ × (ℕ × (ℕ × ℕ))} (
  budget (settings_of asked) adds (domain 98),
  (budget (settings_of asked) adds (domain 99), (budget (settings_of asked) adds (domain 97), budget (settings_of asked) adds (domain 100))),
) (10000, (9999, (9998, 10)))
unfolding degree domains ranks_before rank budget
budgets_row = refl
