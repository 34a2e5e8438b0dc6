-- Keys that rise, cut where a bucket begins.
use Rattle.std.proofs.Common.{◌≡◌, ◌∙◌, ℕ, zero, suc, ◌+◌, ◌-◌, ◌*◌, ◌/◌, ◌^◌, ◌<◌, ◌≤◌, List, [], ◌∷◌, ◌++◌, map, length, take, drop, take_all, length-drop, Bool, true, Option, None, Some, ⊎_elim, refl, sym, ap, subst, arith}
use Rattle.std.specs.Prelude.{T, nat_eq, ltb}
use Rattle.std.specs.List.{AllByRecursion}
use Rattle.std.specs.Ordering.{nat_cmp, is_lt}
use Rattle.std.specs.FinMap.{is_sorted}
use Rattle.std.specs.FinMap.Entries.{below_all}
use Rattle.std.proofs.lemmas.Bool.{cases_lt, lt-ltb, ltb-true}
use Rattle.std.proofs.lemmas.Bool.Decides.{nat_tests}
use Rattle.std.proofs.lemmas.List.{map-append}
use Rattle.irl_offer.specs.Buckets.{IsBucketCount, bucket_of}
use Rattle.irl_offer.specs.Tuple.{Tuple}
use Rattle.irl_offer.specs.declared.offer.Rule.{Rule}
use Rattle.irl_offer.specs.declared.receipt.Pair.{Pair}
use Rattle.irl_model.specs.Judging.{after}
use Rattle.irl_model.specs.Pairs.{ArePairsOf, IsRising, keys_of, pair_of}
use Rattle.irl_model.proofs.Adding.{pass_after}
use Rattle.irl_model.proofs.BucketOrder.{border, buckets_rise}
use Rattle.irl_model.proofs.Parts.{each_too}
use Rattle.irl_model.proofs.RisingKeys.{both, first, from_T, lt_from, pairs_are, second, to_T}
use Rattle.irl_cache.specs.SortedRun.{RisesFrom, last_from}
use Rattle.irl_bay.specs.Sides.{LieFrom}

-- ---- of each
pub all_both : {X : Type 0} (P : X → Type 0) (xs ys : List X) → AllByRecursion P xs → AllByRecursion P ys → AllByRecursion P (xs ++ ys)
all_both P [] ys one two = two
all_both P (x ∷ xs) ys one two = (one.0, all_both P xs ys one.1 two)

pub all_front : {X : Type 0} (P : X → Type 0) (xs ys : List X) → AllByRecursion P (xs ++ ys) → AllByRecursion P xs
all_front P [] ys all = tt
all_front P (x ∷ xs) ys all = (all.0, all_front P xs ys all.1)

pub all_back : {X : Type 0} (P : X → Type 0) (xs ys : List X) → AllByRecursion P (xs ++ ys) → AllByRecursion P ys
all_back P [] ys all = all
all_back P (x ∷ xs) ys all = all_back P xs ys all.1

pub all_two : {X : Type 0} (P Q R : X → Type 0) → ((x : X) → P x → Q x → R x) → (xs : List X) → AllByRecursion P xs → AllByRecursion Q xs → AllByRecursion R xs
all_two P Q R f [] one two = tt
all_two P Q R f (x ∷ xs) one two = (f x one.0 two.0, all_two P Q R f xs one.1 two.1)

-- ---- what rises, by its first key
below_later : (x : ℕ) (es : List (ℕ × ℕ)) → T (below_all nat_cmp x es) → AllByRecursion (λ (e : ℕ × ℕ). x < e.0) es
below_later x [] h = tt
below_later x (e ∷ es) h = (lt_from x e.0 (first _ _ h), below_later x es (second _ _ h))

pairs_each : (P : ℕ → Type 0) (pairs : List Pair) → AllByRecursion (λ (e : ℕ × ℕ). P e.0) (map pair_of pairs) → AllByRecursion (λ (p : Pair). P p.key) pairs
pairs_each P [] h = tt
pairs_each P (p ∷ pairs) h = (h.0, pairs_each P pairs h.1)

each_pair : (P : ℕ → Type 0) (pairs : List Pair) → AllByRecursion (λ (p : Pair). P p.key) pairs → AllByRecursion (λ (e : ℕ × ℕ). P e.0) (map pair_of pairs)
each_pair P [] h = tt
each_pair P (p ∷ pairs) h = (h.0, each_pair P pairs h.1)

-- each later key is above the first
pub above_first : (p : Pair) (pairs : List Pair) → IsRising (p ∷ pairs) → AllByRecursion (λ (q : Pair). p.key < q.key) pairs
above_first p pairs rises = pairs_each (λ (k : ℕ). p.key < k) pairs (below_later p.key (map pair_of pairs) (first _ _ (to_T _ rises)))

rising_later : (p : Pair) (pairs : List Pair) → IsRising (p ∷ pairs) → IsRising pairs
rising_later p pairs rises = from_T _ (second _ _ (to_T _ rises))

-- the same as a chain of last keys
rises_after : (p : Pair) (pairs : List Pair) → IsRising (p ∷ pairs) → RisesFrom (Some p.key) pairs
rises_after p [] rises = tt
rises_after p (q ∷ pairs) rises = ((above_first p (q ∷ pairs) rises).0, rises_after q pairs (rising_later p (q ∷ pairs) rises))

rises_all : (pairs : List Pair) → IsRising pairs → RisesFrom None pairs
rises_all [] rises = tt
rises_all (p ∷ pairs) rises = (tt, rises_after p pairs rises)

rises_back : (last : Option ℕ) (xs ys : List Pair) → RisesFrom last (xs ++ ys) → RisesFrom (last_from last xs) ys
rises_back last [] ys rises = rises
rises_back last (x ∷ xs) ys rises = rises_back (Some x.key) xs ys rises.1

pub rises_from_last : (xs ys : List Pair) → IsRising (xs ++ ys) → RisesFrom (last_from None xs) ys
rises_from_last xs ys rises = rises_back None xs ys (rises_all (xs ++ ys) rises)

-- two lists that rise, where a bucket begins between them
module _ (buckets b : ℕ) where
  below_each : (x : ℕ) (ys : List Pair) → bucket_of buckets x < b → AllByRecursion (λ (p : Pair). bucket_of buckets p.key ≡ b) ys → T (below_all nat_cmp x (map pair_of ys))
  below_each x [] lt here = tt
  below_each x (y ∷ ys) lt here =
      let under : x < y.key = buckets_rise buckets x y.key (omega (arith, lt, here.0)) in
      both _ _ (is_below x y.key under) (below_each x ys lt here.1)
    where
      is_below : (m n : ℕ) → m < n → T (is_lt (nat_cmp m n))
      is_below m n lt = grind (arith, nat_tests)

  below_joined : (x : ℕ) (es fs : List (ℕ × ℕ)) → T (below_all nat_cmp x es) → T (below_all nat_cmp x fs) → T (below_all nat_cmp x (es ++ fs))
  below_joined x [] fs one two = two
  below_joined x (e ∷ es) fs one two = both _ _ (first _ _ one) (below_joined x es fs (second _ _ one) two)

  sorted_both : (xs ys : List Pair) → T (is_sorted nat_cmp (map pair_of xs)) → T (is_sorted nat_cmp (map pair_of ys)) → AllByRecursion (λ (p : Pair). bucket_of buckets p.key < b) xs
      → AllByRecursion (λ (p : Pair). bucket_of buckets p.key ≡ b) ys
      → T (is_sorted nat_cmp (map pair_of xs ++ map pair_of ys))
  sorted_both [] ys one two below here = two
  sorted_both (x ∷ xs) ys one two below here =
      both _ _ (below_joined x.key (map pair_of xs) (map pair_of ys) (first _ _ one) (below_each x.key ys below.0 here)) (sorted_both xs ys (second _ _ one) two below.1 here)

  pub rising_both : (xs ys : List Pair) → IsRising xs → IsRising ys → AllByRecursion (λ (p : Pair). bucket_of buckets p.key < b) xs → AllByRecursion (λ (p : Pair). bucket_of buckets p.key ≡ b) ys
      → IsRising (xs ++ ys)
  rising_both xs ys one two below here = from_T _ (subst (λ (es : List (ℕ × ℕ)). T (is_sorted nat_cmp es)) (sym (map-append pair_of xs ys)) (sorted_both xs ys (to_T _ one) (to_T _ two) below here))

-- ---- the border of a bucket
abbrev pub border_of : ℕ → ℕ → ℕ
border_of buckets b = b * (2 ^ 64 / buckets)

pub below_border : (buckets b key : ℕ) → IsBucketCount buckets → bucket_of buckets key < b → key < border_of buckets b
below_border buckets b key count lt = (border buckets b key count).0 lt

pub from_border : (buckets b key : ℕ) → IsBucketCount buckets → bucket_of buckets key ≡ b → border_of buckets b ≤ key
from_border buckets b key count here = ⊎_elim (λ lt. absurd (omega (arith, (border buckets b key count).1 lt, here))) (λ le. le) (cases_lt key (border_of buckets b))

-- a greater key is of no lower bucket
pub bucket_after : (buckets j k : ℕ) → j < k → bucket_of buckets j ≤ bucket_of buckets k
bucket_after buckets j k lt = ⊎_elim (λ less. absurd (omega (arith, buckets_rise buckets k j less))) (λ le. le) (cases_lt (bucket_of buckets k) (bucket_of buckets j))

-- ---- keys that a set has after offers
abbrev is_under : ℕ → ℕ → ℕ → Bool
is_under buckets b key = ltb (bucket_of buckets key) b

abbrev pub is_here : ℕ → ℕ → ℕ → Bool
is_here buckets b key = nat_eq (bucket_of buckets key) b

under : (buckets b key : ℕ) → bucket_of buckets key < b → is_under buckets b key ≡ true
under buckets b key lt = lt-ltb (bucket_of buckets key) b lt

from_under : (buckets b key : ℕ) → is_under buckets b key ≡ true → bucket_of buckets key < b
from_under buckets b key is = ltb-true (bucket_of buckets key) b is

pub here_is : (buckets b key : ℕ) → bucket_of buckets key ≡ b → is_here buckets b key ≡ true
here_is buckets b key e = test (bucket_of buckets key) b e
  where
    test : (m n : ℕ) → m ≡ n → nat_eq m n ≡ true
    test m n e = grind (arith, nat_tests)

pub from_here : (buckets b key : ℕ) → is_here buckets b key ≡ true → bucket_of buckets key ≡ b
from_here buckets b key e = test (bucket_of buckets key) b e
  where
    test : (m n : ℕ) → nat_eq m n ≡ true → m ≡ n
    test m n e = grind (arith, nat_tests)

-- where those that were fed and offered are below a bucket, so are those that are put
pub put_below : (buckets b : ℕ) (rule : Rule) (fed put : List Pair) (offers : List Tuple) → IsRising fed → ArePairsOf (after rule (keys_of fed) offers) put
    → AllByRecursion (λ (p : Pair). bucket_of buckets p.key < b) fed → AllByRecursion (λ (o : Tuple). bucket_of buckets o.key < b) offers
    → AllByRecursion (λ (p : Pair). bucket_of buckets p.key < b) put
put_below buckets b rule fed put offers rises are fed_below offers_below =
    let test = is_under buckets b in
    let pairs : AllByRecursion (λ (e : ℕ × ℕ). test e.0 ≡ true) (map pair_of fed) = each_pair (λ (k : ℕ). test k ≡ true) fed (each_too (λ (p : Pair). under buckets b p.key) fed fed_below) in
    let keys = subst (AllByRecursion (λ (e : ℕ × ℕ). test e.0 ≡ true)) (pairs_are fed rises) pairs in
    let all = pass_after test rule (keys_of fed) offers keys (each_too (λ (o : Tuple). under buckets b o.key) offers offers_below) in
    let there = subst (AllByRecursion (λ (e : ℕ × ℕ). test e.0 ≡ true)) (sym are) all in
    each_too (λ (p : Pair). from_under buckets b p.key) put (pairs_each (λ (k : ℕ). test k ≡ true) put there)

-- ---- what isn't fed
lie_tail : (P : Pair → Type 0) (piece rest more : List Pair) → AllByRecursion P ((piece ++ rest) ++ more) → AllByRecursion P (rest ++ more)
lie_tail P [] rest more all = all
lie_tail P (p ∷ piece) rest more all = lie_tail P piece rest more all.1

joined : (fed piece rest more : List Pair) → (fed ++ piece) ++ (rest ++ more) ≡ fed ++ ((piece ++ rest) ++ more)
joined [] piece rest more = append3 piece rest more
  where
    append3 : (xs ys zs : List Pair) → xs ++ (ys ++ zs) ≡ (xs ++ ys) ++ zs
    append3 [] ys zs = refl
    append3 (x ∷ xs) ys zs = ap (λ (l : List Pair). x ∷ l) (append3 xs ys zs)
joined (f ∷ fed) piece rest more = ap (λ (l : List Pair). f ∷ l) (joined fed piece rest more)

-- once a piece of it is fed, the rest lies as before
pub lie_on : (buckets b n : ℕ) (fed piece rest : List Pair) → LieFrom buckets b n fed (piece ++ rest) → LieFrom buckets b n (fed ++ piece) rest
lie_on buckets b n fed piece rest lie = λ more few rises.
    let same = joined fed piece rest more in
    lie_tail (λ (p : Pair). b ≤ bucket_of buckets p.key) piece rest more
    (lie more (subst (λ (l : List Pair). length l ≤ n) same few) (subst (λ (l : List Pair). IsRising l) same rises))

-- what wasn't fed of a block lies from the bucket on
pub lie_now : (buckets b n : ℕ) (fed rest : List Pair) → LieFrom buckets b n fed rest → length (fed ++ rest) ≤ n → IsRising (fed ++ rest)
    → AllByRecursion (λ (p : Pair). b ≤ bucket_of buckets p.key) rest
lie_now buckets b n fed rest lie few rises =
    let same : fed ++ rest ≡ fed ++ (rest ++ []) = ap (λ (l : List Pair). fed ++ l) (sym (nothing_behind rest)) in
    subst (AllByRecursion (λ (p : Pair). b ≤ bucket_of buckets p.key)) (nothing_behind rest)
    (lie [] (subst (λ (l : List Pair). length l ≤ n) same few) (subst (λ (l : List Pair). IsRising l) same rises))
  where
    nothing_behind : (l : List Pair) → l ++ [] ≡ l
    nothing_behind [] = refl
    nothing_behind (x ∷ l) = ap (λ (t : List Pair). x ∷ t) (nothing_behind l)

-- ---- pieces of a list
pub drop_then : {A : Type 0} (i n : ℕ) (l : List A) → drop (i + n) l ≡ drop n (drop i l)
drop_then zero n l = ap (λ (k : ℕ). drop k l) (let e : 0 + n ≡ n = omega arith in e)
drop_then (suc i) n [] = drop_none (suc i + n) ∙ sym (drop_none n)
  where
    drop_none : {A : Type 0} (k : ℕ) → drop {A = A} k [] ≡ []
    drop_none zero = refl
    drop_none (suc k) = refl
drop_then (suc i) n (x ∷ l) =
    let e : suc i + n ≡ suc (i + n) = omega arith in
    ap (λ (k : ℕ). drop k (x ∷ l)) e ∙ drop_then i n l

pub slice_tail : {A : Type 0} (n : ℕ) (l : List A) → take (length l - n) (drop n l) ≡ drop n l
slice_tail n l = take_all (length l - n) (drop n l) (omega (arith, length-drop n l))
