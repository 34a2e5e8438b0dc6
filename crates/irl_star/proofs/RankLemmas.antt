-- The rank of a domain is its place among the domains in the order of their ranks.
use Rattle.std.proofs.Common.{◌≡◌, ◌∙◌, ℕ, zero, suc, ◌+◌, ◌<◌, ◌≤◌, Bool, true, false, ◌&&◌, ◌||◌, List, [], ◌∷◌, map, length, get_or, Option, Some, None, cond, inl, inr, refl, sym, ap, subst, arith, is_some, zero-add}
use Rattle.std.specs.Prelude.{bytes_eq, count_by, nat_eq, nat_lt, slice_get, Vec, IsSome}
use Rattle.std.specs.Option.{option_map, option_map_or}
use Rattle.std.specs.BTreeMap.{BTreeMap}
use Rattle.std.specs.List.{AllByRecursion, All, Contains, IsDistinct}
use Rattle.std.specs.List.Sorted.{IsPermutation, IsSorted, IsStrictlySortedBy}
use Rattle.std.specs.Map.{keys_of, lookup}
use Rattle.std.specs.declared.cmp.Ordering.{Ordering}
use Rattle.std.specs.declared.cmp.Ordering.TheVariants.{Less, Equal, Greater}
use Rattle.std.specs.Ordering.{nat_cmp, is_eq, is_lt, ordering_then, ordering_reverse}
use Rattle.std.specs.Cmp.{IsTotalOrder}
use Rattle.std.specs.Cmp.Lexicographic.{slice_cmp}
use Rattle.std.proofs.lemmas.Bool.{false≢true, lt-ltb, le-ltb, cases_lt}
use Rattle.std.proofs.lemmas.Cmp.{nat_cmp_total, nat_list_cmp_total, nat_list_eq_equiv, on_total, then_total, back_total}
use Rattle.std.proofs.lemmas.List.Sorted.{IsPermutation-map, All-permutation, Contains-permutation, sum_by-IsPermutation, sorted_far, ranks_by}
use Rattle.std.proofs.lemmas.List.{get_or-map, length-map}
use Rattle.std.proofs.lemmas.Map.Entries.{lookup_from_place, place_from_lookup}
use Rattle.std.proofs.lemmas.Map.Keys.{sorted_head, sorted_tail, IsDistinct-head, IsDistinct-tail, IsDistinct-IsPermutation, apart_from_distinct}
use Rattle.std.proofs.lemmas.Map.Text.{is_eq-slice_cmp}
use Rattle.std.proofs.lemmas.Option.{slice_get-get_or, get_or_from_slice_get, slice_get_within}
use Rattle.std.proofs.lemmas.Slice.Eq.{bytes_eq-Decides}
use Rattle.irl_offer.specs.declared.settings.Settings.{Settings}
use Rattle.irl_star.specs.Budgets.{degree, domains, ranks_before, rank, budget_at, budget}
use Rattle.irl_star.specs.Degrees.{kept, texts_of}
use Rattle.irl_star.specs.Ranks.{Domain, rank_cmp, rank_in, AreRanks}
use Rattle.irl_star.proofs.Sorting.{bit, once, degree-cons, degree-nil, degree-domains, same_counts, count_front, count_by-map, same_tests, none_left}
use Rattle.irl_base.proofs.TextMaps.{value_at, vec_cmp}

-- ---- the entries of a tree by their texts

pub at_text : {A X : Type 0} (es : List (Vec ℕ A × X)) (z : List ℕ) → value_at es z ≡ lookup (bytes_eq z) (texts_of es)
at_text [] z = refl
at_text (e ∷ es) z =
    ap (λ b. cond b (Some e.1) (value_at es z)) (is_eq-slice_cmp z e.0.items)
    ∙ ap (λ o. cond (bytes_eq z e.0.items) (Some e.1) o) (at_text es z)

apart : {A X : Type 0} (k : Vec ℕ A) (es : List (Vec ℕ A × X)) → AllByRecursion (λ y. vec_cmp k y ≡ Less) (keys_of es) → AllByRecursion (λ y. bytes_eq k.items y ≡ false) (keys_of (texts_of es))
apart k [] h = tt
apart k (e ∷ es) h = (sym (is_eq-slice_cmp k.items e.0.items) ∙ ap is_eq h.0, apart k es h.1)

pub distinct_texts : {A X : Type 0} (es : List (Vec ℕ A × X)) → IsStrictlySortedBy vec_cmp (keys_of es) → IsDistinct bytes_eq (keys_of (texts_of es))
unfolding IsDistinct
distinct_texts [] h = tt
distinct_texts (e ∷ es) h =
    (apart e.0 es (sorted_head vec_cmp e.0 (keys_of es) h), distinct_texts es (sorted_tail vec_cmp e.0 (keys_of es) h))

-- ---- the order of ranks

rank_total : IsTotalOrder rank_cmp
rank_total = then_total (on_total (λ (d : Domain). d.1) (back_total nat_cmp_total)) (on_total (λ (d : Domain). d.0) nat_list_cmp_total)

equal_then : (a b : Ordering) → ordering_then a b ≡ Equal → b ≡ Equal
equal_then Less b e = cc
equal_then Equal b e = e
equal_then Greater b e = cc

same_ranks : (a b : Domain) → rank_cmp a b ≡ Equal → bytes_eq a.0 b.0 ≡ true
same_ranks a b e =
    sym (is_eq-slice_cmp a.0 b.0) ∙ ap is_eq (equal_then (nat_cmp b.1 a.1) (slice_cmp nat_cmp a.0 b.0) e)

below_by : (o p : Ordering) → p ≡ ordering_reverse o → is_lt o ≡ false → (p ≡ Equal → false ≡ true) → is_lt p ≡ true
below_by Less p e f g = absurd (false≢true (sym f))
below_by Equal p e f g = absurd (false≢true (g e))
below_by Greater p e f g = ap is_lt e

-- two domains in the order of ranks: the first ranks before the second
below : (a b : Domain) → is_lt (rank_cmp b a) ≡ false → bytes_eq a.0 b.0 ≡ false → is_lt (rank_cmp a b) ≡ true
below a b e f =
    below_by (rank_cmp b a) (rank_cmp a b) (rank_total.antisymm a b) e (λ g. sym f ∙ same_ranks a b g)

-- as many stand before one of them in the order of ranks as its place says
pub place : (ps : List Domain) (i : ℕ) (x : Domain) → IsSorted rank_cmp ps → IsDistinct bytes_eq (keys_of ps) → i < length ps → get_or ps i x ≡ x → count_by (λ y. is_lt (rank_cmp y x)) ps ≡ i
place ps i x sorted distinct within at =
    count_front (λ y. is_lt (rank_cmp y x)) ps i x (omega arith)
    (λ k lt.
    let far : is_lt (rank_cmp (get_or ps i x) (get_or ps k x)) ≡ false = sorted_far (λ a b. is_lt (rank_cmp a b)) (ranks_by rank_total (λ (d : Domain). d)) ps sorted k i x (omega arith) within in
    let other : bytes_eq (get_or (keys_of ps) k x.0) (get_or (keys_of ps) i x.0) ≡ false =
    apart_from_distinct bytes_eq (keys_of ps) k i x.0 distinct lt (let w : i < length (keys_of ps) = omega (arith, length-map ps (λ (d : Domain). d.0)) in w) in
    let here : bytes_eq (get_or ps k x).0 x.0 ≡ false =
    ap (λ t. bytes_eq t x.0) (sym (get_or-map (λ (d : Domain). d.0) ps k x x.0 (omega arith)))
    ∙ ap (λ t. bytes_eq (get_or (keys_of ps) k x.0) t) (sym (get_or-map (λ (d : Domain). d.0) ps i x x.0 within ∙ ap (λ (d : Domain). d.0) at)) ∙ other in
    below (get_or ps k x) x (ap (λ t. is_lt (rank_cmp t (get_or ps k x))) (sym at) ∙ far) here)
    (λ k le lt.
    ap (λ t. is_lt (rank_cmp (get_or ps k x) t)) (sym at)
    ∙ sorted_far (λ a b. is_lt (rank_cmp a b)) (ranks_by rank_total (λ (d : Domain). d)) ps sorted i k x le lt)

by_tests : (p q : Bool) (o : Ordering) → (p || (q && is_lt o)) ≡ is_lt (ordering_then (cond p Less (cond q Equal Greater)) o)
by_tests true q o = refl
by_tests false true o = refl
by_tests false false o = refl

ranks_before-is : (adds : List (List ℕ)) (a b : Domain) → degree adds a.0 ≡ a.1 → degree adds b.0 ≡ b.1 → ranks_before adds a.0 b.0 ≡ is_lt (rank_cmp a b)
unfolding ranks_before
ranks_before-is adds a b e f =
    ap (λ n. nat_lt (degree adds b.0) n || (nat_eq (degree adds b.0) n && is_lt (slice_cmp nat_cmp a.0 b.0))) e
    ∙ ap (λ n. nat_lt n a.1 || (nat_eq n a.1 && is_lt (slice_cmp nat_cmp a.0 b.0))) f
    ∙ by_tests (nat_lt b.1 a.1) (nat_eq b.1 a.1) (slice_cmp nat_cmp a.0 b.0)

-- ---- what the degrees say of the domains

abbrev pub AreDegrees : List Domain → List (List ℕ) → Type 0
AreDegrees ds adds = (z : List ℕ) → lookup (bytes_eq z) ds ≡ kept (degree adds z)

pub from_kept : (n m : ℕ) → kept n ≡ Some m → (n ≡ m) × (0 < n)
from_kept zero m e = absurd (let f : None ≡ Some m = e in cc)
from_kept (suc n) m e = (let f : Some (suc n) ≡ Some m = e in cc, omega arith)

at_degree : (ds : List Domain) (z : List ℕ) (d : Domain) (b : Bool) → bytes_eq z d.0 ≡ b → IsDistinct bytes_eq (keys_of (d ∷ ds)) → degree (keys_of ds) z ≡ cond (is_some (lookup (bytes_eq z) ds)) 1 0
    → bit b + degree (keys_of ds) z ≡ cond (is_some (cond b (Some d.1) (lookup (bytes_eq z) ds))) 1 0
at_degree ds z d true e distinct later =
    let apart : AllByRecursion (λ y. bytes_eq d.0 y ≡ false) (keys_of ds) = IsDistinct-head bytes_eq d.0 (keys_of ds) distinct in
    let P : List ℕ → Type 0 = λ t. degree (keys_of ds) t ≡ 0 in
    ap (λ n. 1 + n) (subst P (sym ((bytes_eq-Decides z d.0).0 e)) (none_left d.0 (keys_of ds) apart))
at_degree ds z d false e distinct later = zero-add _ ∙ later

degree-keys : (ds : List Domain) (z : List ℕ) → IsDistinct bytes_eq (keys_of ds) → degree (keys_of ds) z ≡ cond (is_some (lookup (bytes_eq z) ds)) 1 0
degree-keys [] z distinct = degree-nil z
degree-keys (d ∷ ds) z distinct =
    degree-cons d.0 (keys_of ds) z
    ∙ at_degree ds z d (bytes_eq z d.0) refl distinct (degree-keys ds z (IsDistinct-tail bytes_eq d.0 (keys_of ds) distinct))

once-kept : (n : ℕ) → cond (is_some (kept n)) 1 0 ≡ once n
once-kept zero = refl
once-kept (suc n) = refl

module _ (ds ps : List Domain) (adds : List (List ℕ)) (distinct : IsDistinct bytes_eq (keys_of ds)) (degrees : AreDegrees ds adds) (same : IsPermutation ds ps) (sorted : IsSorted rank_cmp ps) where
  flips : (x y : List ℕ) → bytes_eq x y ≡ bytes_eq y x
  flips x y = nat_list_eq_equiv.symm x y

  distinct_too : IsDistinct bytes_eq (keys_of ps)
  distinct_too = IsDistinct-IsPermutation bytes_eq flips (keys_of ds) (keys_of ps) (IsPermutation-map (λ (d : Domain). d.0) ds ps same) distinct

  has_degrees : All (λ (d : Domain). kept (degree adds d.0) ≡ Some d.1) ds
  has_degrees = λ k d lt.
      let x = get_or ds k d in
      sym (degrees x.0) ∙ lookup_from_place nat_list_eq_equiv ds k x.0 x.1 distinct (slice_get-get_or ds k d lt)

  pub have_degrees : All (λ (d : Domain). kept (degree adds d.0) ≡ Some d.1) ps
  have_degrees = All-permutation (λ (d : Domain). kept (degree adds d.0) ≡ Some d.1) ds ps same has_degrees

  -- a domain that was added stands among them, with its degree
  pub stands : (pld : List ℕ) (n : ℕ) → kept (degree adds pld) ≡ Some n → Contains ps (pld, n)
  stands pld n e =
      let at = place_from_lookup (bytes_eq pld) ds n (degrees pld ∙ e) in
      let k = at.1 in
      let is : slice_get ds at.0 ≡ Some (pld, n) = at.2 ∙ ap (λ t. Some (t, n)) (sym ((bytes_eq-Decides pld k).0 at.3)) in
      Contains-permutation ds ps (pld, n) same (at.0, slice_get_within ds at.0 (pld, n) is, get_or_from_slice_get ds at.0 (pld, n) (pld, n) is)

  -- the rank of the domain at a place is that place
  pub rank_at : (i : ℕ) (x : Domain) → i < length ps → get_or ps i x ≡ x → rank adds x.0 ≡ i
  unfolding rank
  rank_at i x within at =
      let p : List ℕ → Bool = λ other. ranks_before adds other x.0 in
      let x_degree : degree adds x.0 ≡ x.1 = (from_kept _ _ (let P : Domain → Type 0 = λ d. kept (degree adds d.0) ≡ Some d.1 in subst P at (have_degrees i x within))).0 in
      same_counts p (domains adds) (keys_of ds) (λ z.
      degree-domains adds z ∙ sym (once-kept (degree adds z)) ∙ ap (λ o. cond (is_some o) 1 0) (sym (degrees z)) ∙ sym (degree-keys ds z distinct))
      ∙ count_by-map p (λ (d : Domain). d.0) ds
      ∙ sym (sum_by-IsPermutation (λ (d : Domain). bit (p d.0)) ds ps same)
      ∙ same_tests (λ (d : Domain). p d.0) (λ y. is_lt (rank_cmp y x)) ps (λ k d lt.
      ranks_before-is adds (get_or ps k d) x (from_kept _ _ (have_degrees k d lt)).0 x_degree)
      ∙ place ps i x sorted distinct_too within at

  -- ---- the budgets by the ranks

  module _ (settings : Settings) where
    budget_ranked : (pld : List ℕ) (i : ℕ) → 0 < degree adds pld → rank adds pld ≡ i → i < settings.ranks → budget settings adds pld ≡ budget_at settings.base settings.most settings.ranks i
    unfolding budget
    budget_ranked pld i some at within =
        ap (λ b. cond (b && nat_lt (rank adds pld) settings.ranks) (budget_at settings.base settings.most settings.ranks (rank adds pld)) settings.base) (lt-ltb 0 (degree adds pld) some)
        ∙ ap (λ n. cond (nat_lt n settings.ranks) (budget_at settings.base settings.most settings.ranks n) settings.base) at
        ∙ ap (λ b. cond b (budget_at settings.base settings.most settings.ranks i) settings.base) (lt-ltb i settings.ranks within)

    budget_behind : (pld : List ℕ) (i : ℕ) → 0 < degree adds pld → rank adds pld ≡ i → settings.ranks ≤ i → budget settings adds pld ≡ settings.base
    unfolding budget
    budget_behind pld i some at behind =
        ap (λ b. cond (b && nat_lt (rank adds pld) settings.ranks) (budget_at settings.base settings.most settings.ranks (rank adds pld)) settings.base) (lt-ltb 0 (degree adds pld) some)
        ∙ ap (λ n. cond (nat_lt n settings.ranks) (budget_at settings.base settings.most settings.ranks n) settings.base) at
        ∙ ap (λ b. cond b (budget_at settings.base settings.most settings.ranks i) settings.base) (le-ltb i settings.ranks behind)

    budget_unknown : (pld : List ℕ) → degree adds pld ≡ 0 → budget settings adds pld ≡ settings.base
    unfolding budget
    budget_unknown pld none =
        ap (λ n. cond (nat_lt 0 n && nat_lt (rank adds pld) settings.ranks) (budget_at settings.base settings.most settings.ranks (rank adds pld)) settings.base) none

    at_place : (pld : List ℕ) (i : ℕ) (o : Option Domain) → slice_get ps i ≡ o → i < settings.ranks → option_map (λ (d : Domain). d.0) o ≡ Some pld
        → budget settings adds pld ≡ budget_at settings.base settings.most settings.ranks i
    at_place pld i None at within e = cc
    at_place pld i (Some d) at within e =
        let same_pld : d.0 ≡ pld = cc in
        let lt : i < length ps = slice_get_within ps i d at in
        let here : get_or ps i d ≡ d = get_or_from_slice_get ps i d d at in
        let P : Domain → Type 0 = λ x. kept (degree adds x.0) ≡ Some x.1 in
        let some : 0 < degree adds d.0 = (from_kept _ _ (subst P here (have_degrees i d lt))).1 in
        let Q : List ℕ → Type 0 = λ t. budget settings adds t ≡ budget_at settings.base settings.most settings.ranks i in
        subst Q same_pld (budget_ranked d.0 i some (rank_at i d lt here) within)

    module _ {A : Type 0} (rank_of : BTreeMap (Vec ℕ A) ℕ) (ranks : AreRanks ps settings.ranks rank_of) (pld : List ℕ) where
      without_rank : (n : ℕ) → degree adds pld ≡ n → rank_in rank_of pld ≡ None → budget settings adds pld ≡ settings.base
      without_rank zero e none = budget_unknown pld e
      without_rank (suc n) e none =
          let x : Domain = (pld, suc n) in
          let at = stands pld (suc n) (ap kept e) in
          let j = at.0 in
          let is : slice_get ps j ≡ Some x = slice_get-get_or ps j x at.1 ∙ ap Some at.2 in
          let some : 0 < degree adds pld = omega arith in
          let place : rank adds pld ≡ j = rank_at j x at.1 at.2 in
          elim (cases_lt j settings.ranks) [
            | inl lt ↦ absurd (false≢true (ap is_some (sym none) ∙ ranks.all j x is lt))
            | inr le ↦ budget_behind pld j some place le
          ]

      by_rank : (o : Option ℕ) → rank_in rank_of pld ≡ o → option_map_or (budget_at settings.base settings.most settings.ranks) o settings.base ≡ budget settings adds pld
      by_rank None e = sym (without_rank (degree adds pld) refl e)
      by_rank (Some i) e =
          let found = ranks.found pld i e in
          sym (at_place pld i (slice_get ps i) refl found.0 found.1)

      -- the budget by the rank that the map has is the domain's
      pub budget_is : option_map_or (budget_at settings.base settings.most settings.ranks) (rank_in rank_of pld) settings.base ≡ budget settings adds pld
      budget_is = by_rank (rank_in rank_of pld) refl

-- ---- the map of ranks

module _ {A : Type 0} (ps : List Domain) (n : ℕ) (old new : BTreeMap (Vec ℕ A) ℕ) (d : Domain) (text : List ℕ) (at : slice_get ps n ≡ Some d) (is : d.0 ≡ text) (set : (q : List ℕ)
    → rank_in new q ≡ cond (bytes_eq q text) (Some n) (rank_in old q)) (ranks : AreRanks ps n old) where
  found_by : (q : List ℕ) (i : ℕ) (b : Bool) → bytes_eq q text ≡ b → cond b (Some n) (rank_in old q) ≡ Some i → (i < n + 1) × (option_map (λ (d : Domain). d.0) (slice_get ps i) ≡ Some q)
  found_by q i true e f =
      let here : n ≡ i = cc in
      let same : q ≡ text = (bytes_eq-Decides q text).0 e in
      (omega arith, ap (λ k. option_map (λ (d : Domain). d.0) (slice_get ps k)) (sym here) ∙ ap (option_map (λ (d : Domain). d.0)) at ∙ ap Some (is ∙ sym same))
  found_by q i false e f =
      let before = ranks.found q i f in
      (let lt : i < n = before.0 in omega arith, before.1)

  all_by : (i : ℕ) (x : Domain) (b : Bool) → slice_get ps i ≡ Some x → i < n + 1 → bytes_eq x.0 text ≡ b → IsSome (cond b (Some n) (rank_in old x.0))
  all_by i x true e lt f = refl
  all_by i x false e lt f = elim (cases_lt i n) [
    | inl below ↦ ranks.all i x e below
    | inr le ↦ absurd (false≢true (
        let here : i ≡ n = omega arith in
        let both : slice_get ps n ≡ Some x = ap (slice_get ps) (sym here) ∙ e in
        let same : x ≡ d = cc in
        sym f ∙ (bytes_eq-Decides x.0 text).1 (ap (λ (y : Domain). y.0) same ∙ is)))
  ]

  -- one more rank
  pub ranks_more : AreRanks ps (n + 1) new
  ranks_more = record {
    found = λ q i e. found_by q i (bytes_eq q text) refl (sym (set q) ∙ e);
    all = λ i x e lt. let P : Option ℕ → Type 0 = λ o. IsSome o in subst P (sym (set x.0)) (all_by i x (bytes_eq x.0 text) e lt refl);
  }

-- as many ranks as there are domains, or as are asked for
pub ranks_enough : {A : Type 0} (ps : List Domain) (n most : ℕ) (rank_of : BTreeMap (Vec ℕ A) ℕ) → n ≤ most → ((i : ℕ) → i < length ps → i < most → i < n) → AreRanks ps n rank_of
    → AreRanks ps most rank_of
ranks_enough ps n most rank_of le enough ranks = record {
  found = λ q i e. let before = ranks.found q i e in (let lt : i < n = before.0 in omega arith, before.1);
  all = λ i x e lt. ranks.all i x e (enough i (slice_get_within ps i x e) lt);
}

-- a list in the order of its elements' domains
sorted_by : {X : Type 0} (f : X → Domain) (e : X) (xs : List X) → IsSorted (λ x y. rank_cmp (f x) (f y)) xs → IsSorted rank_cmp (map f xs)
sorted_by f e xs sorted = λ k d low lt.
    let within : k + 1 < length xs = omega (arith, length-map xs f) in
    ap (λ t. is_lt (rank_cmp t (get_or (map f xs) k d))) (get_or-map f xs (k + 1) e d within)
    ∙ ap (λ t. is_lt (rank_cmp (f (get_or xs (k + 1) e)) t)) (get_or-map f xs k e d (omega arith))
    ∙ sorted k e low within

pub sorted-map : {X : Type 0} (f : X → Domain) (xs : List X) → IsSorted (λ x y. rank_cmp (f x) (f y)) xs → IsSorted rank_cmp (map f xs)
sorted-map f [] sorted = λ k d low lt. absurd (omega arith)
sorted-map f (x ∷ xs) sorted = sorted_by f x (x ∷ xs) sorted
