-- Each number stands once, or nowhere.
use Rattle.std.proofs.Common.{◌≡◌, ◌∙◌, ℕ, ◌+◌, ◌-◌, ◌<◌, ◌≤◌, zero, suc, List, [], ◌∷◌, map, length, ap, arith, refl, true, false, subst}
use Rattle.std.proofs.lemmas.Bool.{eq-eqb, ne_eqb}
use Rattle.irl_offer.specs.declared.outcome.Outcome.{Outcome}
use Rattle.irl_base.specs.Lists.{list_at}
use Rattle.irl_fate.specs.declared.fate.Fate.{Fate}
use Rattle.irl_fate.specs.declared.fate.Fate.TheVariants.{Fresh, Queue, Last, Front, Done}
use Rattle.irl_fate.specs.Standing.{count_all, is_placed}
use Rattle.irl_fate.specs.Kept.{count, one_if, is_front, is_listed, is_done, FitsFate, Agree}

all_none : (n : ℕ) (lists : List (List ℕ)) → ((k : ℕ) → count n (list_at lists k) ≡ 0) → count_all n lists ≡ 0
all_none n [] h = refl
all_none n (list ∷ lists) h =
    let here : count n list ≡ 0 = h 0 in
    omega (arith, all_none n lists (λ k. h (suc k)))

all_one : (n : ℕ) (lists : List (List ℕ)) (j : ℕ) → j < length lists → count n (list_at lists j) ≡ 1 → ((k : ℕ) → (k ≡ j → ⊥) → count n (list_at lists k) ≡ 0) → count_all n lists ≡ 1
all_one n [] j lt one none = absurd (omega arith)
all_one n (list ∷ lists) zero lt one none =
    let here : count n list ≡ 1 = one in
    omega (arith, all_none n lists (λ k. none (suc k) (λ e. omega arith)))
all_one n (list ∷ lists) (suc j) lt one none =
    let here : count n list ≡ 0 = none 0 (λ e. omega arith) in
    omega (arith, all_one n lists j (omega arith) one (λ k other. none (suc k) (λ e. other (omega arith))))

module _ {f : ℕ → Fate} {front : List ℕ} {lists : List (List ℕ)} {done : List (ℕ × Outcome)} (a : Agree f front lists done) (n : ℕ) where
  in_lists : (v : Fate) → f n ≡ v → (k : ℕ) → count n (list_at lists k) ≡ one_if (is_listed k v)
  in_lists v e k = a.lists_are k n ∙ ap (λ (w : Fate). one_if (is_listed k w)) e

  listed_once : (v : Fate) → f n ≡ v → (j : ℕ) → j < 65 → is_listed j v ≡ true → ((k : ℕ) → (k ≡ j → ⊥) → is_listed k v ≡ false) → count_all n lists ≡ 1
  listed_once v e j lt here others =
      all_one n lists j (omega (arith, a.many)) (in_lists v e j ∙ ap one_if here) (λ k other. in_lists v e k ∙ ap one_if (others k other))

  listed_none : (v : Fate) → f n ≡ v → ((k : ℕ) → is_listed k v ≡ false) → count_all n lists ≡ 0
  listed_none v e none = all_none n lists (λ k. in_lists v e k ∙ ap one_if (none k))

  sum_of : (v : Fate) → f n ≡ v → count n front + count_all n lists + count n (map (λ d. d.0) done) ≡ one_if (is_placed v)
  sum_of Fresh e =
      let x : count n front ≡ 0 = a.front_is n ∙ ap (λ (w : Fate). one_if (is_front w)) e in
      let z : count n (map (λ d. d.0) done) ≡ 0 = a.done_once n ∙ ap (λ (w : Fate). one_if (is_done w)) e in
      let y : count_all n lists ≡ 0 = listed_none Fresh e (λ k. refl) in
      omega arith
  sum_of (Queue i) e =
      let x : count n front ≡ 0 = a.front_is n ∙ ap (λ (w : Fate). one_if (is_front w)) e in
      let z : count n (map (λ d. d.0) done) ≡ 0 = a.done_once n ∙ ap (λ (w : Fate). one_if (is_done w)) e in
      let fits : (1 ≤ i) × (i ≤ 64) = subst FitsFate e (a.fits n) in
      let least : 1 ≤ i = fits.0 in
      let most : i ≤ 64 = fits.1 in
      let y : count_all n lists ≡ 1 = listed_once (Queue i) e (i - 1) (omega arith) (eq-eqb (i - 1 + 1) i (omega arith)) (λ k other. ne_eqb (k + 1) i (λ h. other (omega arith))) in
      omega arith
  sum_of Last e =
      let x : count n front ≡ 0 = a.front_is n ∙ ap (λ (w : Fate). one_if (is_front w)) e in
      let z : count n (map (λ d. d.0) done) ≡ 0 = a.done_once n ∙ ap (λ (w : Fate). one_if (is_done w)) e in
      let y : count_all n lists ≡ 1 = listed_once Last e 64 (omega arith) refl (λ k other. ne_eqb k 64 other) in
      omega arith
  sum_of Front e =
      let x : count n front ≡ 1 = a.front_is n ∙ ap (λ (w : Fate). one_if (is_front w)) e in
      let z : count n (map (λ d. d.0) done) ≡ 0 = a.done_once n ∙ ap (λ (w : Fate). one_if (is_done w)) e in
      let y : count_all n lists ≡ 0 = listed_none Front e (λ k. refl) in
      omega arith
  sum_of (Done o) e =
      let x : count n front ≡ 0 = a.front_is n ∙ ap (λ (w : Fate). one_if (is_front w)) e in
      let z : count n (map (λ d. d.0) done) ≡ 1 = a.done_once n ∙ ap (λ (w : Fate). one_if (is_done w)) e in
      let y : count_all n lists ≡ 0 = listed_none (Done o) e (λ k. refl) in
      omega arith

  pub stands_as : count n front + count_all n lists + count n (map (λ d. d.0) done) ≡ one_if (is_placed (f n))
  stands_as = sum_of (f n) refl
