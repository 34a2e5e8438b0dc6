-- The laws of `cut`.
use Rattle.std.proofs.Common.{◌≡◌, ◌≢◌, ℕ, ◌+◌, ◌<◌, ◌≤◌, Bool, true, false, cond, ◌==◌, List, [], ◌∷◌, ◌++◌, length, get_or, take, drop, Some, None, All, sym, refl, ap, ◌∙◌, subst, arith, take-append-drop}
use Rattle.std.specs.Prelude.{Option}
use Rattle.std.proofs.lemmas.Bool.{cond-false, ne_eqb, eqb-true}
use Rattle.std.proofs.lemmas.List.{drop_more, get_or-take, length-take-le}
use Rattle.std.proofs.lemmas.List.Elements.{All-head, All-tail, All-from_get_or}
use Rattle.irl_tuple.specs.Tuples.{cut}

-- the byte is no space
abbrev pub IsNoSpace : ℕ → Type 0
IsNoSpace b = b ≢ 32

pub cut-at : (xs ys : List ℕ) → All IsNoSpace xs → cut (xs ++ 32 ∷ ys) ≡ (xs, Some ys)
unfolding cut
cut-at [] ys none = refl
cut-at (x ∷ xs) ys none =
    cond-false _ _ _ (ne_eqb x 32 (All-head IsNoSpace x xs none)) ∙ ap (λ r. (x ∷ r.0, r.1)) (cut-at xs ys (All-tail IsNoSpace x xs none))

pub cut-none : (xs : List ℕ) → All IsNoSpace xs → cut xs ≡ (xs, None)
unfolding cut
cut-none [] none = refl
cut-none (x ∷ xs) none =
    cond-false _ _ _ (ne_eqb x 32 (All-head IsNoSpace x xs none)) ∙ ap (λ r. (x ∷ r.0, r.1)) (cut-none xs (All-tail IsNoSpace x xs none))

around : (xs : List ℕ) (i : ℕ) → i < length xs → get_or xs i 0 ≡ 32 → xs ≡ take i xs ++ 32 ∷ drop (i + 1) xs
around xs i inside here = sym (take-append-drop i xs) ∙ ap (λ l. take i xs ++ l) (drop_more xs i 0 inside ∙ ap (λ b. b ∷ drop (i + 1) xs) here)

front_is : (xs : List ℕ) (i : ℕ) → i ≤ length xs → ((k : ℕ) → k < i → get_or xs k 0 ≢ 32) → All IsNoSpace (take i xs)
front_is xs i within reads =
    All-from_get_or IsNoSpace (take i xs) 0 (λ k inside. let below : k < i = omega (arith, length-take-le i xs within) in subst IsNoSpace (sym (get_or-take i xs k 0 below)) (reads k below))

-- at the place of the first space
pub cut-first : (xs : List ℕ) (i : ℕ) → i < length xs → get_or xs i 0 ≡ 32 → ((k : ℕ) → k < i → get_or xs k 0 ≢ 32) → cut xs ≡ (take i xs, Some (drop (i + 1) xs))
cut-first xs i inside here before = ap cut (around xs i inside here) ∙ cut-at _ _ (front_is xs i (omega arith) before)

-- what was cut, in one
abbrev pub joined : List ℕ × Option (List ℕ) → List ℕ
joined (front, None) = front
joined (front, Some rest) = front ++ 32 ∷ rest

joined_more : (b : ℕ) (p : List ℕ × Option (List ℕ)) → joined (b ∷ p.0, p.1) ≡ b ∷ joined p
joined_more b (front, None) = refl
joined_more b (front, Some rest) = refl

joined_by : (b : ℕ) (bytes : List ℕ) (test : Bool) → (test ≡ true → b ≡ 32) → joined (cut bytes) ≡ bytes
    → joined (cond {A = List ℕ × Option (List ℕ)} test ([], Some bytes) (b ∷ (cut bytes).0, (cut bytes).1)) ≡ b ∷ bytes
joined_by b bytes true space later = ap (λ c. c ∷ bytes) (sym (space refl))
joined_by b bytes false space later = joined_more b (cut bytes) ∙ ap (λ l. b ∷ l) later

pub joined-cut : (bytes : List ℕ) → joined (cut bytes) ≡ bytes
unfolding cut
joined-cut [] = refl
joined-cut (b ∷ bytes) = joined_by b bytes (b == 32) (eqb-true b 32) (joined-cut bytes)
