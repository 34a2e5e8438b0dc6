-- The pages of a site, one after another.
use Rattle.std.proofs.Common.{◌≡◌, ◌∙◌, ℕ, zero, suc, ◌+◌, List, [], ◌∷◌, ◌++◌, refl, sym, ap, arith}
use Rattle.std.specs.List.{flat_map, range_with_len}
use Rattle.std.proofs.lemmas.List.{flat_map_more}

range_by : (a n k : ℕ) → k ≡ n + 1 → range_with_len a k ≡ range_with_len a n ++ (a + n) ∷ []
range_by a zero zero is = absurd (omega arith)
range_by a zero (suc zero) is = ap (λ b. b ∷ []) (let e : a ≡ a + 0 = omega arith in e)
range_by a zero (suc (suc k)) is = absurd (omega arith)
range_by a (suc n) zero is = absurd (omega arith)
range_by a (suc n) (suc k) is =
    let same : a + 1 + n ≡ a + suc n = omega arith in
    ap (λ l. a ∷ l) (range_by (a + 1) n k (omega arith) ∙ ap (λ b. range_with_len (a + 1) n ++ b ∷ []) same)

-- one page more
pub pages_more : (page : ℕ → List ℕ) (front : List ℕ) (n : ℕ) → (front ++ flat_map page (range_with_len 0 n)) ++ page n ≡ front ++ flat_map page (range_with_len 0 (n + 1))
pages_more page front n =
    let same : 0 + n ≡ n = omega arith in
    flat_map_more page front (range_with_len 0 n) n
    ∙ ap (λ b. front ++ flat_map page (range_with_len 0 n ++ b ∷ [])) (sym same)
    ∙ ap (λ l. front ++ flat_map page l) (sym (range_by 0 n (n + 1) refl))

-- one number more
pub range_more : (n : ℕ) → range_with_len 0 (n + 1) ≡ range_with_len 0 n ++ n ∷ []
range_more n =
    let same : 0 + n ≡ n = omega arith in
    range_by 0 n (n + 1) refl ∙ ap (λ b. range_with_len 0 n ++ b ∷ []) same
