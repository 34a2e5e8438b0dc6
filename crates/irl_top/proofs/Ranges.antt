-- Settings lie in their ranges, or they don't.
use Rattle.std.proofs.Common.{◌⊎◌, inl, inr, ⊎_elim, ℕ, ◌≤◌, Bool, true, false, refl, arith}
use Rattle.std.specs.Prelude.{IsTrue}
use Rattle.std.proofs.lemmas.Bool.Decides.{leb_tells}
use Rattle.irl_offer.specs.Buckets.{is_bucket_count}
use Rattle.irl_offer.specs.Settings.{AreValid, AreValidSizes, AreValidBudgets}
use Rattle.irl_offer.specs.declared.settings.Settings.{Settings}

abbrev OrNot : Type 0 → Type 0
OrNot A = A ⊎ (A → ⊥)

le_or_not : (a b : ℕ) → OrNot (a ≤ b)
le_or_not a b = ⊎_elim (λ le. inl le.1) (λ lt. inr (λ le. omega (arith, le, lt.1))) (leb_tells a b)

both_or_not : {A B : Type 0} → OrNot A → OrNot B → OrNot (A × B)
both_or_not (inl a) (inl b) = inl (a, b)
both_or_not (inl a) (inr not) = inr (λ both. not both.1)
both_or_not (inr not) b = inr (λ both. not both.0)

same_or_not : {A B : Type 0} → (A → B) → (B → A) → OrNot A → OrNot B
same_or_not to from (inl a) = inl (to a)
same_or_not to from (inr not) = inr (λ b. not (from b))

within : (low n high : ℕ) → OrNot ((low ≤ n) × (n ≤ high))
within low n high = both_or_not (le_or_not low n) (le_or_not n high)

true_or_not : (test : Bool) → OrNot (IsTrue test)
true_or_not true = inl refl
true_or_not false = inr (λ is. cc)

sizes_or_not : (settings : Settings) → OrNot (AreValidSizes settings)
sizes_or_not settings = same_or_not
    (λ all. record { array = all.0; trigger = all.1.0; block = all.1.1.0; cap = all.1.1.1 })
    (λ are. (are.array, (are.trigger, (are.block, are.cap))))
    (both_or_not (within 1 settings.array 8192) (both_or_not (within 1 settings.trigger 1048576) (both_or_not (within 1 settings.block 65536) (within 1 settings.cap 1099511627776))))

budgets_or_not : (settings : Settings) → OrNot (AreValidBudgets settings)
budgets_or_not settings = same_or_not
    (λ all. record { queues = all.0; base = all.1.0; most = all.1.1.0; ranks = all.1.1.1 })
    (λ are. (are.queues, (are.base, (are.most, are.ranks))))
    (both_or_not (within 1 settings.queues 64) (both_or_not (within 1 settings.base 1000000) (both_or_not (within settings.base settings.most 1000000) (within 1 settings.ranks 1000000))))

pub valid_or_not : (settings : Settings) → AreValid settings ⊎ (AreValid settings → ⊥)
valid_or_not settings = same_or_not
    (λ all. record { buckets = all.0; sizes = all.1.0; budgets = all.1.1 })
    (λ are. (are.buckets, (are.sizes, are.budgets)))
    (both_or_not (true_or_not (is_bucket_count settings.buckets)) (both_or_not (sizes_or_not settings) (budgets_or_not settings)))
