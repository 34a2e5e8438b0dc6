-- Sets as their entries, whose keys rise.
use Rattle.std.proofs.Common.{◌≡◌, ◌∙◌, ℕ, ◌<◌, List, [], ◌∷◌, ◌++◌, map, Some, Bool, true, false, cond, refl, sym, ap, subst, arith}
use Rattle.std.specs.Prelude.{T, ◌&&◌, IsTrue, nat_eq}
use Rattle.std.specs.declared.cmp.Ordering.{Ordering}
use Rattle.std.specs.declared.cmp.Ordering.TheVariants.{Less, Equal, Greater}
use Rattle.std.specs.Ordering.{nat_cmp, eq_by_cmp, is_lt}
use Rattle.std.specs.Cmp.{nat_cmp_total}
use Rattle.std.specs.FinMap.{get, insert, find, entries, entries_sorted, entries-from_sorted, from_sorted, get-from_sorted, get-entries, get-from_entries, get-insert, same_map, nat_cmp-IsAntisymmetric, is_sorted}
use Rattle.std.proofs.lemmas.Cmp.{ranked}
use Rattle.std.proofs.lemmas.Bool.Decides.{nat_tests}
use Rattle.std.specs.FinMap.Entries.{below_all}
use Rattle.std.proofs.lemmas.List.{map-append}
use Rattle.irl_offer.specs.declared.receipt.Pair.{Pair}
use Rattle.irl_model.specs.Judging.{KeyMap}
use Rattle.irl_model.specs.Pairs.{ArePairsOf, IsRising, keys_of, pair_of}

-- ---- comparisons
eq_cmp : (q k : ℕ) → eq_by_cmp nat_cmp q k ≡ nat_eq q k
eq_cmp q k = grind (arith, nat_tests)

pub lt_from : (x y : ℕ) → T (is_lt (nat_cmp x y)) → x < y
lt_from x y h =
    elim (nat_cmp x y) as (λ (r : Ordering). r ≡ nat_cmp x y → T (is_lt r) → x < y) [
      | Less ↦ λ e h. ranked x y Less e
      | Equal ↦ λ e h. absurd h
      | Greater ↦ λ e h. absurd h
    ] refl h

pub to_T : (b : Bool) → IsTrue b → T b
to_T b e = subst T (sym e) tt

pub from_T : (b : Bool) → T b → IsTrue b
from_T true h = refl
from_T false h = absurd h

pub first : (a b : Bool) → T (a && b) → T a
first true b p = tt
first false b p = p

pub second : (a b : Bool) → T (a && b) → T b
second true b p = p
second false b p = absurd p

pub both : (a b : Bool) → T a → T b → T (a && b)
both true b p q = q
both false b p q = p

-- ---- what a set has at a key, in the order of numbers
pub get_set : (keys : KeyMap) (k v q : ℕ) → get (insert keys k v) q ≡ cond (nat_eq q k) (Some v) (get keys q)
get_set keys k v q = get-insert nat_cmp_total keys k v q ∙ ap (λ b. cond b (Some v) (get keys q)) (eq_cmp q k)

pub same_keys : (a b : KeyMap) → ((q : ℕ) → get a q ≡ get b q) → a ≡ b
same_keys a b h = same_map nat_cmp_total nat_cmp-IsAntisymmetric a b h

-- a set whose values the entries give, keys rising, has these entries
pub entries_are : (keys : KeyMap) (es : List (ℕ × ℕ)) → T (is_sorted nat_cmp es) → ((q : ℕ) → get keys q ≡ find nat_cmp q es) → es ≡ entries keys
entries_are keys es sorted h =
    sym (ap entries (same_keys keys (from_sorted es) (λ q. h q ∙ sym (get-from_sorted nat_cmp es q sorted))) ∙ entries-from_sorted nat_cmp es sorted)

-- ---- pairs whose keys rise are a set
pub pairs_are : (pairs : List Pair) → IsRising pairs → ArePairsOf (keys_of pairs) pairs
pairs_are pairs h = entries_are (keys_of pairs) (map pair_of pairs) (to_T _ h) (λ q. get-from_entries nat_cmp_total (map pair_of pairs) q)

pub pairs_rise : (keys : KeyMap) (pairs : List Pair) → ArePairsOf keys pairs → IsRising pairs
pairs_rise keys pairs h = from_T _ (subst (λ (es : List (ℕ × ℕ)). T (is_sorted nat_cmp es)) (sym h) (entries_sorted keys))

pub keys_are : (keys : KeyMap) (pairs : List Pair) → ArePairsOf keys pairs → keys_of pairs ≡ keys
keys_are keys pairs h = same_keys (keys_of pairs) keys (λ q. get-from_entries nat_cmp_total (map pair_of pairs) q ∙ ap (find nat_cmp q) h ∙ sym (get-entries keys q))

-- ---- the front and the back of what rises
below_front : (x : ℕ) (es fs : List (ℕ × ℕ)) → T (below_all nat_cmp x (es ++ fs)) → T (below_all nat_cmp x es)
below_front x [] fs h = tt
below_front x (e ∷ es) fs h = both _ _ (first _ _ h) (below_front x es fs (second _ _ h))

pub sorted_front : (es fs : List (ℕ × ℕ)) → T (is_sorted nat_cmp (es ++ fs)) → T (is_sorted nat_cmp es)
sorted_front [] fs h = tt
sorted_front (e ∷ es) fs h = both _ _ (below_front e.0 es fs (first _ _ h)) (sorted_front es fs (second _ _ h))

sorted_back : (es fs : List (ℕ × ℕ)) → T (is_sorted nat_cmp (es ++ fs)) → T (is_sorted nat_cmp fs)
sorted_back [] fs h = h
sorted_back (e ∷ es) fs h = sorted_back es fs (second _ _ h)

pub rising_front : (xs ys : List Pair) → IsRising (xs ++ ys) → IsRising xs
rising_front xs ys h = from_T _ (sorted_front (map pair_of xs) (map pair_of ys) (to_T _ (rw (map-append pair_of xs ys) at h)))

pub rising_back : (xs ys : List Pair) → IsRising (xs ++ ys) → IsRising ys
rising_back xs ys h = from_T _ (sorted_back (map pair_of xs) (map pair_of ys) (to_T _ (rw (map-append pair_of xs ys) at h)))
