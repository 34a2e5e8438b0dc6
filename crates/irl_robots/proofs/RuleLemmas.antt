-- The rule that the scan ends with is the best one.
use Rattle.std.proofs.Common.{◌≡◌, ◌⊎◌, ℕ, ◌<◌, Bool, true, false, ◌&&◌, not, ltb, cond, List, [], ◌∷◌, ◌++◌, Option, Some, None, IfSome, IfNone, Bor, refl, sym, subst, ◌∙◌, inl, inr, arith, rules}
use Rattle.std.specs.List.{Contains, fold}
use Rattle.std.specs.Option.{option_copied}
use Rattle.std.proofs.lemmas.List.{append_assoc, append-nil}
use Rattle.std.proofs.lemmas.List.Elements.{Contains-push, Contains-push_cases, Contains-append_left}
use Rattle.std.proofs.lemmas.Bool.{cases_Bool, lt-ltb, le-ltb, false≢true}
use Rattle.std.proofs.Math.Bool.{and-false}
use Rattle.std.proofs.lemmas.Bool.Decides.{nat_tests}
use Rattle.irl_robots.specs.declared.rule.PathRule.{PathRule}
use Rattle.irl_robots.specs.Matching.{matches, Matches}
use Rattle.irl_robots.specs.Rule.{WinsOver, wins_over, IsBest, NoneMatches, best_after, best_rule}
use Rattle.irl_robots.proofs.CutLemmas.{cut-from_match, match-from_cut}

-- ---- the order

wins-itself : (x : PathRule) → WinsOver x x → ⊥
wins-itself x (inl more) = omega (arith, more)
wins-itself x (inr (same, inl (allowed, denied))) = false≢true (sym denied ∙ allowed)
wins-itself x (inr (same, inr (alike, earlier))) = omega (arith, earlier)

wins-through : (x y z : PathRule) → WinsOver x y → WinsOver y z → WinsOver x z
wins-through x y z (inl a) (inl b) = inl (omega (arith, a, b))
wins-through x y z (inl a) (inr (same, b)) = inl (omega (arith, a, same))
wins-through x y z (inr (same, a)) (inl b) = inl (omega (arith, same, b))
wins-through x y z (inr (same, inl (xs, ys))) (inr (also, inl (allowed, denied))) = absurd (false≢true (sym ys ∙ allowed))
wins-through x y z (inr (same, inl (xs, ys))) (inr (also, inr (alike, b))) = inr (same ∙ also, inl (xs, sym alike ∙ ys))
wins-through x y z (inr (same, inr (alike, a))) (inr (also, inl (allowed, denied))) = inr (same ∙ also, inl (alike ∙ allowed, denied))
wins-through x y z (inr (same, inr (alike, a))) (inr (also, inr (too, b))) = inr (same ∙ also, inr (alike ∙ too, omega (arith, a, b)))

-- ---- the scan

-- what was found is the best of what was seen
abbrev pub IsBestOf : List PathRule → List ℕ → Option PathRule → Type 0
IsBestOf seen path None = NoneMatches seen path
IsBestOf seen path (Some best) = IsBest seen path best

-- a rule that doesn't match changes nothing
skips : (seen : List PathRule) (path : List ℕ) (found : Option PathRule) (x : PathRule) → (Matches x.pattern path → ⊥) → IsBestOf seen path found → IsBestOf (seen ++ x ∷ []) path found
skips seen path None x unmatched h = λ other there matching. elim (Contains-push_cases seen x other there) [
  | inl before ↦ h other before matching
  | inr is ↦ unmatched (subst (λ (y : PathRule). Matches y.pattern path) (sym is) matching)
]
skips seen path (Some best) x unmatched h = record {
  among = Contains-append_left seen (x ∷ []) best h.among;
  matching = h.matching;
  unbeaten = λ other there matching wins. elim (Contains-push_cases seen x other there) [
    | inl before ↦ h.unbeaten other before matching wins
    | inr is ↦ unmatched (subst (λ (y : PathRule). Matches y.pattern path) (sym is) matching)
  ];
}

-- nor does one that doesn't win
yields : (seen : List PathRule) (path : List ℕ) (best x : PathRule) → (WinsOver x best → ⊥) → IsBest seen path best → IsBest (seen ++ x ∷ []) path best
yields seen path best x behind h = record {
  among = Contains-append_left seen (x ∷ []) best h.among;
  matching = h.matching;
  unbeaten = λ other there matching wins. elim (Contains-push_cases seen x other there) [
    | inl before ↦ h.unbeaten other before matching wins
    | inr is ↦ behind (subst (λ (y : PathRule). WinsOver y best) (sym is) wins)
  ];
}

-- one that matches and that no earlier one wins over is the best
takes : (seen : List PathRule) (path : List ℕ) (x : PathRule) → Matches x.pattern path → ((other : PathRule) → Contains seen other → Matches other.pattern path → WinsOver other x → ⊥)
    → IsBest (seen ++ x ∷ []) path x
takes seen path x matched h = record {
  among = Contains-push seen x;
  matching = matched;
  unbeaten = λ other there matching wins. elim (Contains-push_cases seen x other there) [
    | inl before ↦ h other before matching wins
    | inr is ↦ wins-itself x (subst (λ (y : PathRule). WinsOver y x) (sym is) wins)
  ];
}

-- ---- the test for the order

-- of m and n octets, verdicts a and b, lines k and l
wins-from_test : (m n k l : ℕ) (a b : Bool) → cond (ltb n m) true (cond (ltb m n) false (cond (a && not b) true (cond (b && not a) false (ltb k l)))) ≡ true → (n < m)
    ⊎ ((m ≡ n) × (((a ≡ true) × (b ≡ false)) ⊎ ((a ≡ b) × (k < l))))
wins-from_test m n k l true true h = grind (arith, nat_tests)
wins-from_test m n k l true false h = grind (arith, nat_tests)
wins-from_test m n k l false true h = grind (arith, nat_tests)
wins-from_test m n k l false false h = grind (arith, nat_tests)

test-from_wins : (m n k l : ℕ) (a b : Bool) → (n < m) ⊎ ((m ≡ n) × (((a ≡ true) × (b ≡ false)) ⊎ ((a ≡ b) × (k < l))))
    → cond (ltb n m) true (cond (ltb m n) false (cond (a && not b) true (cond (b && not a) false (ltb k l)))) ≡ true
test-from_wins m n k l a b (inl more) = rw (lt-ltb n m more) refl
test-from_wins m n k l a b (inr (same, inl (allowed, denied))) = rw (allowed, denied, le-ltb n m (omega arith), le-ltb m n (omega arith)) refl
test-from_wins m n k l true true (inr (same, inr (alike, earlier))) = rw (le-ltb n m (omega arith), le-ltb m n (omega arith)) (lt-ltb k l earlier)
test-from_wins m n k l false false (inr (same, inr (alike, earlier))) = rw (le-ltb n m (omega arith), le-ltb m n (omega arith)) (lt-ltb k l earlier)
test-from_wins m n k l true false (inr (same, inr (alike, earlier))) = absurd (false≢true (sym alike))
test-from_wins m n k l false true (inr (same, inr (alike, earlier))) = absurd (false≢true alike)

-- one rule more
step : (seen : List PathRule) (path : List ℕ) (found : Option PathRule) (x : PathRule) → IsBestOf seen path found → IsBestOf (seen ++ x ∷ []) path (best_after path found x)
step seen path None x h = elim (cases_Bool (matches x.pattern path)) [
  | inl matched ↦
      let is : best_after path None x ≡ Some x = rw matched refl in
      subst (IsBestOf (seen ++ x ∷ []) path) (sym is)
      (takes seen path x (cut-from_match x.pattern path matched) (λ other there matching _. h other there matching))
  | inr unmatched ↦
      let is : best_after path None x ≡ None = rw unmatched refl in
      subst (IsBestOf (seen ++ x ∷ []) path) (sym is)
      (skips seen path None x (λ cut. false≢true (sym unmatched ∙ match-from_cut x.pattern path cut)) h)
]
step seen path (Some best) x h = elim (cases_Bool (matches x.pattern path)) [
  | inl matched ↦ elim (cases_Bool (wins_over x best)) [
    | inl wins ↦
        let is : best_after path (Some best) x ≡ Some x = rw (wins, matched) refl in
        let won = wins-from_test _ _ x.line best.line x.allow best.allow wins in
        subst (IsBestOf (seen ++ x ∷ []) path) (sym is)
        (takes seen path x (cut-from_match x.pattern path matched)
        (λ other there matching above. h.unbeaten other there matching (wins-through other x best above won)))
    | inr behind ↦
        let is : best_after path (Some best) x ≡ Some best = rw behind refl in
        subst (IsBestOf (seen ++ x ∷ []) path) (sym is)
        (yields seen path best x (λ won. false≢true (sym behind ∙ test-from_wins _ _ x.line best.line x.allow best.allow won)) h)
  ]
  | inr unmatched ↦
      let is : best_after path (Some best) x ≡ Some best = rw (unmatched, and-false (wins_over x best)) refl in
      subst (IsBestOf (seen ++ x ∷ []) path) (sym is)
      (skips seen path (Some best) x (λ cut. false≢true (sym unmatched ∙ match-from_cut x.pattern path cut)) h)
]

all_steps : (seen rest : List PathRule) (path : List ℕ) (found : Option PathRule) → IsBestOf seen path found → IsBestOf (seen ++ rest) path (fold (best_after path) found rest)
all_steps seen [] path found h = subst (λ (rules : List PathRule). IsBestOf rules path found) (sym (append-nil seen)) h
all_steps seen (x ∷ rest) path found h =
    subst (λ (rules : List PathRule). IsBestOf rules path (fold (best_after path) (best_after path found x) rest)) (append_assoc seen (x ∷ []) rest)
    (all_steps (seen ++ x ∷ []) rest path (best_after path found x) (step seen path found x h))

nothing_there : (path : List ℕ) → NoneMatches [] path
nothing_there path other there matching = omega (arith, there.1)

-- the scan ends with the best rule
pub best_rule-is : (rules : List PathRule) (path : List ℕ) → IsBestOf rules path (best_rule rules path)
best_rule-is rules path = all_steps [] rules path None (nothing_there path)

-- the same, of what is lent
pub lent-best : (rules : List PathRule) (path : List ℕ) (found : Option (Bor PathRule)) → option_copied found ≡ best_rule rules path → IfSome found (λ best. IsBest rules path best.now)
lent-best rules path None is = tt
lent-best rules path (Some best) is = subst (IsBestOf rules path) (sym is) (best_rule-is rules path)

pub lent-none : (rules : List PathRule) (path : List ℕ) (found : Option (Bor PathRule)) → option_copied found ≡ best_rule rules path → IfNone found (NoneMatches rules path)
lent-none rules path None is = subst (IsBestOf rules path) (sym is) (best_rule-is rules path)
lent-none rules path (Some best) is = tt
