-- Degrees after one more add, and as the map has them.
use Rattle.std.proofs.Common.{◌≡◌, ◌∙◌, ℕ, zero, suc, ◌+◌, add-one, Bool, true, false, List, [], ◌∷◌, ◌++◌, Some, cond, refl, sym, ap, arith}
use Rattle.std.specs.Prelude.{bytes_eq, unwrap_or}
use Rattle.std.specs.Ordering.{nat_cmp}
use Rattle.std.specs.Cmp.Lexicographic.{slice_cmp}
use Rattle.std.specs.FinMap.{get, insert, empty, get-empty, get-insert}
use Rattle.std.proofs.lemmas.List.Sums.{sum_by_push}
use Rattle.std.proofs.lemmas.Map.Text.{is_eq-slice_cmp}
use Rattle.std.proofs.lemmas.Slice.Eq.{bytes_eq-Decides}
use Rattle.std.proofs.lemmas.Cmp.{nat_list_cmp_total}
use Rattle.irl_star.specs.Budgets.{degree}
use Rattle.irl_star.specs.Degrees.{DegreeMap, degree_in, kept, Counts}

pub unwrap_or-kept : (n : ℕ) → unwrap_or (kept n) 0 ≡ n
unwrap_or-kept zero = refl
unwrap_or-kept (suc n) = refl

kept-more : (n : ℕ) → kept (n + 1) ≡ Some (n + 1)
kept-more n = ap kept (add-one n) ∙ ap Some (sym (add-one n))

pub counts_none : Counts empty []
unfolding degree
counts_none = record { each = λ pld. get-empty {X = ℕ} (slice_cmp nat_cmp) pld }

degree-push : (adds : List (List ℕ)) (x pld : List ℕ) → degree (adds ++ x ∷ []) pld ≡ degree adds pld + cond (bytes_eq pld x) 1 0
unfolding degree
degree-push adds x pld = sum_by_push (λ y. cond (bytes_eq pld y) 1 0) adds x

module _ (degrees : DegreeMap) (adds : List (List ℕ)) (x : List ℕ) (counts : Counts degrees adds) where
  pub degree_in-counts : (pld : List ℕ) → degree_in degrees pld ≡ degree adds pld
  degree_in-counts pld = ap (λ o. unwrap_or o 0) (counts.each pld) ∙ unwrap_or-kept (degree adds pld)

  at_one : (pld : List ℕ) (b : Bool) → bytes_eq pld x ≡ b → cond b (Some (degree_in degrees x + 1)) (get degrees pld) ≡ kept (degree adds pld + cond b 1 0)
  at_one pld true e =
      let same : pld ≡ x = (bytes_eq-Decides pld x).0 e in
      ap (λ n. Some (n + 1)) (degree_in-counts x ∙ ap (degree adds) (sym same)) ∙ sym (kept-more (degree adds pld))
  at_one pld false e = counts.each pld ∙ ap kept (omega arith)

  pub counts_more : Counts (insert degrees x (degree_in degrees x + 1)) (adds ++ x ∷ [])
  counts_more = record {
    each = λ pld.
        get-insert nat_list_cmp_total degrees x (degree_in degrees x + 1) pld
        ∙ ap (λ b. cond b (Some (degree_in degrees x + 1)) (get degrees pld)) (is_eq-slice_cmp pld x)
        ∙ at_one pld (bytes_eq pld x) refl
        ∙ ap kept (sym (degree-push adds x pld));
  }
