-- Keys that rise, pair by pair.
use Rattle.std.proofs.Common.{◌≡◌, ℕ, ◌<◌, List, [], ◌∷◌, ◌++◌, map, Some, None, Option, Bool, true, false, refl, sym, subst, arith}
use Rattle.std.specs.Prelude.{T, ◌&&◌, IsTrue}
use Rattle.std.specs.declared.cmp.Ordering.{Ordering}
use Rattle.std.specs.declared.cmp.Ordering.TheVariants.{Less, Equal, Greater}
use Rattle.std.specs.Ordering.{nat_cmp, is_lt}
use Rattle.std.specs.FinMap.{is_sorted}
use Rattle.std.specs.FinMap.Entries.{below_all}
use Rattle.std.proofs.lemmas.Cmp.{ranked}
use Rattle.std.proofs.lemmas.Bool.Decides.{nat_tests}
use Rattle.irl_offer.specs.declared.receipt.Pair.{Pair}
use Rattle.irl_model.specs.Pairs.{IsRising, pair_of}
use Rattle.irl_cache.specs.SortedRun.{RisesFrom, last_from}

lt_from : (x y : ℕ) → T (is_lt (nat_cmp x y)) → x < y
lt_from x y h =
    elim (nat_cmp x y) as (λ (r : Ordering). r ≡ nat_cmp x y → T (is_lt r) → x < y) [
      | Less ↦ λ e h. ranked x y Less e
      | Equal ↦ λ e h. absurd h
      | Greater ↦ λ e h. absurd h
    ] refl h

lesser : (x y : ℕ) → x < y → nat_cmp x y ≡ Less
lesser x y h = grind (arith, nat_tests)

lt_to : (x y : ℕ) → x < y → T (is_lt (nat_cmp x y))
lt_to x y h = subst (λ (r : Ordering). T (is_lt r)) (sym (lesser x y h)) tt

to_T : (b : Bool) → IsTrue b → T b
to_T b e = subst T (sym e) tt

from_T : (b : Bool) → T b → IsTrue b
from_T true h = refl
from_T false h = absurd h

first : (a b : Bool) → T (a && b) → T a
first true b p = tt
first false b p = p

second : (a b : Bool) → T (a && b) → T b
second true b p = p
second false b p = absurd p

both : (a b : Bool) → T a → T b → T (a && b)
both true b p q = q
both false b p q = p

-- what is below a lower key's all
below_less : (x y : ℕ) (es : List (ℕ × ℕ)) → x < y → T (below_all nat_cmp y es) → T (below_all nat_cmp x es)
below_less x y [] lt h = tt
below_less x y (e ∷ es) lt h =
    let next : y < e.0 = lt_from y e.0 (first _ _ h) in
    both _ _ (lt_to x e.0 (omega (arith, lt, next))) (below_less x y es lt (second _ _ h))

sorted_from : (key : ℕ) (pairs : List Pair) → RisesFrom (Some key) pairs → T (below_all nat_cmp key (map pair_of pairs)) × T (is_sorted nat_cmp (map pair_of pairs))
sorted_from key [] h = (tt, tt)
sorted_from key (p ∷ pairs) h =
    let more = sorted_from p.key pairs h.1 in
    (both _ _ (lt_to key p.key h.0) (below_less key p.key (map pair_of pairs) h.0 more.0), both _ _ more.0 more.1)

from_sorted : (key : ℕ) (pairs : List Pair) → T (below_all nat_cmp key (map pair_of pairs)) → T (is_sorted nat_cmp (map pair_of pairs)) → RisesFrom (Some key) pairs
from_sorted key [] below sorted = tt
from_sorted key (p ∷ pairs) below sorted = (lt_from key p.key (first _ _ below), from_sorted p.key pairs (first _ _ sorted) (second _ _ sorted))

-- ---- the two ways to say that keys rise
pub is_rising : (pairs : List Pair) → RisesFrom None pairs → IsRising pairs
is_rising [] h = refl
is_rising (p ∷ pairs) h =
    let more = sorted_from p.key pairs h.1 in
    from_T _ (both _ _ more.0 more.1)

pub rises_from : (pairs : List Pair) → IsRising pairs → RisesFrom None pairs
rises_from [] h = tt
rises_from (p ∷ pairs) h =
    let sorted = to_T _ h in
    (tt, from_sorted p.key pairs (first _ _ sorted) (second _ _ sorted))

-- ---- two lists, one behind the other
pub last_both : (last : Option ℕ) (xs ys : List Pair) → last_from last (xs ++ ys) ≡ last_from (last_from last xs) ys
last_both last [] ys = refl
last_both last (x ∷ xs) ys = last_both (Some x.key) xs ys

pub rise_both : (last : Option ℕ) (xs ys : List Pair) → RisesFrom last xs → RisesFrom (last_from last xs) ys → RisesFrom last (xs ++ ys)
rise_both last [] ys h k = k
rise_both last (x ∷ xs) ys h k = (h.0, rise_both (Some x.key) xs ys h.1 k)

pub rise_front : (last : Option ℕ) (xs ys : List Pair) → RisesFrom last (xs ++ ys) → RisesFrom last xs
rise_front last [] ys h = tt
rise_front last (x ∷ xs) ys h = (h.0, rise_front (Some x.key) xs ys h.1)

pub rise_behind : (last : Option ℕ) (xs ys : List Pair) → RisesFrom last (xs ++ ys) → RisesFrom (last_from last xs) ys
rise_behind last [] ys h = h
rise_behind last (x ∷ xs) ys h = rise_behind (Some x.key) xs ys h.1

-- ---- for callers
-- what rises behind pairs that rise
pub joined_rise : (xs ys : List Pair) → IsRising xs → RisesFrom (last_from None xs) ys → IsRising (xs ++ ys)
joined_rise xs ys h k = is_rising (xs ++ ys) (rise_both None xs ys (rises_from xs h) k)

pub rising_front : (xs ys : List Pair) → IsRising (xs ++ ys) → IsRising xs
rising_front xs ys h = is_rising xs (rise_front None xs ys (rises_from (xs ++ ys) h))

pub rising_behind : (xs ys : List Pair) → IsRising (xs ++ ys) → RisesFrom (last_from None xs) ys
rising_behind xs ys h = rise_behind None xs ys (rises_from (xs ++ ys) h)
