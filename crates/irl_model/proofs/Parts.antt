-- A set that is cut in two at a key.
use Rattle.std.proofs.Common.{◌≡◌, ◌∙◌, ℕ, ◌<◌, ◌≤◌, List, [], ◌∷◌, ◌++◌, map, None, Bool, true, false, not, refl, sym, ap, subst, arith, inl, inr}
use Rattle.std.specs.Prelude.{T, ltb}
use Rattle.std.specs.List.{AllByRecursion}
use Rattle.std.specs.declared.cmp.Ordering.{Ordering}
use Rattle.std.specs.declared.cmp.Ordering.TheVariants.{Less, Greater}
use Rattle.std.specs.Ordering.{nat_cmp, is_lt}
use Rattle.std.specs.FinMap.{get, find, entries, entries_sorted, get-entries, is_sorted}
use Rattle.std.specs.FinMap.Entries.{below_all}
use Rattle.std.proofs.lemmas.Bool.{cases_lt, lt-ltb, le-ltb, ltb-true, ltb-false, not-true}
use Rattle.std.proofs.lemmas.Bool.Decides.{nat_tests}
use Rattle.std.proofs.lemmas.List.{map-append}
use Rattle.irl_offer.specs.declared.offer.Rule.{Rule}
use Rattle.irl_offer.specs.declared.receipt.Pair.{Pair}
use Rattle.irl_offer.specs.Tuple.{Tuple}
use Rattle.irl_model.specs.Judging.{AreParts, KeyMap, after, judgements}
use Rattle.irl_model.specs.Pairs.{IsRising, keys_of, pair_of}
use Rattle.irl_model.proofs.Adding.{pass_after}
use Rattle.irl_model.proofs.Agreeing.{Agree, both_after, one_after, same_judged}
use Rattle.irl_model.proofs.JudgingLaws.{after-append, judged_on, judged_on-append, judgements-judged_on}
use Rattle.irl_model.proofs.RisingKeys.{both, entries_are, first, pairs_are, rising_back, rising_front, second}

-- P of each gives Q of each
pub each_too : {X : Type 0} {P Q : X → Type 0} → ((x : X) → P x → Q x) → (xs : List X) → AllByRecursion P xs → AllByRecursion Q xs
each_too f [] h = tt
each_too f (x ∷ xs) h = (f x h.0, each_too f xs h.1)

less : (k x : ℕ) → k < x → nat_cmp k x ≡ Less
less k x h = grind (arith, nat_tests)

greater : (k x : ℕ) → x < k → nat_cmp k x ≡ Greater
greater k x h = grind (arith, nat_tests)

-- ---- lists of entries, the first below a key and the second from it on
module _ (cut : ℕ) where
  abbrev AreBelow : List (ℕ × ℕ) → Type 0
  AreBelow es = AllByRecursion (λ (e : ℕ × ℕ). e.0 < cut) es

  abbrev AreAbove : List (ℕ × ℕ) → Type 0
  AreAbove es = AllByRecursion (λ (e : ℕ × ℕ). cut ≤ e.0) es

  none_above : (q : ℕ) (ys : List (ℕ × ℕ)) → q < cut → AreAbove ys → find nat_cmp q ys ≡ None
  none_above q [] lt h = refl
  none_above q (y ∷ ys) lt h = rw (less q y.0 (omega (arith, h.0))) (none_above q ys lt h.1)

  find_front : (q : ℕ) (xs ys : List (ℕ × ℕ)) → q < cut → AreAbove ys → find nat_cmp q (xs ++ ys) ≡ find nat_cmp q xs
  find_front q [] ys lt h = none_above q ys lt h
  find_front q (x ∷ xs) ys lt h = rw (find_front q xs ys lt h) refl

  find_back : (q : ℕ) (xs ys : List (ℕ × ℕ)) → cut ≤ q → AreBelow xs → find nat_cmp q (xs ++ ys) ≡ find nat_cmp q ys
  find_back q [] ys le h = refl
  find_back q (x ∷ xs) ys le h = rw (greater q x.0 (omega (arith, h.0))) (find_back q xs ys le h.1)

  below_joined : (x : ℕ) (xs ys : List (ℕ × ℕ)) → x < cut → T (below_all nat_cmp x xs) → AreAbove ys → T (below_all nat_cmp x (xs ++ ys))
  below_joined x [] [] lt b h = tt
  below_joined x [] (y ∷ ys) lt b h = both _ _ (subst (λ (r : Ordering). T (is_lt r)) (sym (less x y.0 (omega (arith, h.0)))) tt) (below_joined x [] ys lt b h.1)
  below_joined x (e ∷ xs) ys lt b h = both _ _ (first _ _ b) (below_joined x xs ys lt (second _ _ b) h)

  sorted_joined : (xs ys : List (ℕ × ℕ)) → T (is_sorted nat_cmp xs) → T (is_sorted nat_cmp ys) → AreBelow xs → AreAbove ys → T (is_sorted nat_cmp (xs ++ ys))
  sorted_joined [] ys s t h k = t
  sorted_joined (x ∷ xs) ys s t h k = both _ _ (below_joined x.0 xs ys h.0 (first _ _ s) k) (sorted_joined xs ys (second _ _ s) t h.1 k)

  -- ---- whether a key is below the cut, or from it on
  abbrev is_low : ℕ → Bool
  is_low q = ltb q cut

  abbrev is_high : ℕ → Bool
  is_high q = not (ltb q cut)

  low : (q : ℕ) → q < cut → is_low q ≡ true
  low q lt = lt-ltb q cut lt

  not_high : (q : ℕ) → q < cut → is_high q ≡ false
  not_high q lt = ap not (low q lt)

  not_low : (q : ℕ) → cut ≤ q → is_low q ≡ false
  not_low q le = le-ltb q cut le

  high : (q : ℕ) → cut ≤ q → is_high q ≡ true
  high q le = ap not (not_low q le)

  from_low : (q : ℕ) → is_low q ≡ true → q < cut
  from_low q e = ltb-true q cut e

  from_high : (q : ℕ) → is_high q ≡ true → cut ≤ q
  from_high q e = ltb-false q cut (not-true (ltb q cut) e)

  -- ---- the parts agree with the whole, each at its keys
  agree_low : (keys one two : KeyMap) → AreParts cut keys one two → Agree is_low keys one
  agree_low keys one two are q e =
      get-entries keys q ∙ ap (find nat_cmp q) are.joined ∙ find_front q (entries one) (entries two) (from_low q e) are.above
      ∙ sym (get-entries one q)

  agree_high : (keys one two : KeyMap) → AreParts cut keys one two → Agree is_high keys two
  agree_high keys one two are q e =
      get-entries keys q ∙ ap (find nat_cmp q) are.joined ∙ find_back q (entries one) (entries two) (from_high q e) are.below
      ∙ sym (get-entries two q)

  -- and where they do, their entries joined are the whole's
  joined : (keys one two : KeyMap) → Agree is_low keys one → Agree is_high keys two → AreBelow (entries one) → AreAbove (entries two) → entries keys ≡ entries one ++ entries two
  joined keys one two as_one as_two below above =
      sym (entries_are keys (entries one ++ entries two) (sorted_joined (entries one) (entries two) (entries_sorted one) (entries_sorted two) below above) each)
    where
      each : (q : ℕ) → get keys q ≡ find nat_cmp q (entries one ++ entries two)
      each q = elim (cases_lt q cut) [
        | inl lt ↦ as_one q (low q lt) ∙ get-entries one q ∙ sym (find_front q (entries one) (entries two) lt above)
        | inr le ↦ as_two q (high q le) ∙ get-entries two q ∙ sym (find_back q (entries one) (entries two) le below)
      ]

  module _ (rule : Rule) (keys one two : KeyMap) (before behind : List Tuple) (are : AreParts cut keys one two) (are_below : AllByRecursion (λ (o : Tuple). o.key < cut) before)
      (are_above : AllByRecursion (λ (o : Tuple). cut ≤ o.key) behind) where
    low_before : AllByRecursion (λ (o : Tuple). is_low o.key ≡ true) before
    low_before = each_too (λ (o : Tuple). low o.key) before are_below

    other_before : AllByRecursion (λ (o : Tuple). is_high o.key ≡ false) before
    other_before = each_too (λ (o : Tuple). not_high o.key) before are_below

    high_behind : AllByRecursion (λ (o : Tuple). is_high o.key ≡ true) behind
    high_behind = each_too (λ (o : Tuple). high o.key) behind are_above

    other_behind : AllByRecursion (λ (o : Tuple). is_low o.key ≡ false) behind
    other_behind = each_too (λ (o : Tuple). not_low o.key) behind are_above

    -- in the middle the second part is as at first
    middle_high : Agree is_high (after rule keys before) two
    middle_high = one_after is_high rule keys two before other_before (agree_high keys one two are)

    pub parts_judged : judgements rule keys (before ++ behind) ≡ judgements rule one before ++ judgements rule two behind
    parts_judged =
        judgements-judged_on rule keys (before ++ behind) ∙ judged_on-append rule keys before behind
        ∙ ap (λ (js : List _). js ++ judged_on rule (after rule keys before) behind) (same_judged is_low rule keys one before low_before (agree_low keys one two are)
        ∙ sym (judgements-judged_on rule one before))
        ∙ ap (λ (js : List _). judgements rule one before ++ js) (same_judged is_high rule (after rule keys before) two behind high_behind middle_high ∙ sym (judgements-judged_on rule two behind))

    last_low : Agree is_low (after rule keys (before ++ behind)) (after rule one before)
    last_low = subst (λ (m : KeyMap). Agree is_low m (after rule one before)) (sym (after-append rule keys before behind))
        (one_after is_low rule (after rule keys before) (after rule one before) behind other_behind (both_after is_low rule keys one before low_before (agree_low keys one two are)))

    last_high : Agree is_high (after rule keys (before ++ behind)) (after rule two behind)
    last_high = subst (λ (m : KeyMap). Agree is_high m (after rule two behind)) (sym (after-append rule keys before behind))
        (both_after is_high rule (after rule keys before) two behind high_behind middle_high)

    pub parts_after : AreParts cut (after rule keys (before ++ behind)) (after rule one before) (after rule two behind)
    parts_after =
        let below = each_too (λ (e : ℕ × ℕ). from_low e.0) (entries (after rule one before))
        (pass_after is_low rule one before (each_too (λ (e : ℕ × ℕ). low e.0) (entries one) are.below) low_before) in
        let above = each_too (λ (e : ℕ × ℕ). from_high e.0) (entries (after rule two behind))
        (pass_after is_high rule two behind (each_too (λ (e : ℕ × ℕ). high e.0) (entries two) are.above) high_behind) in
        record {
          joined = joined (after rule keys (before ++ behind)) (after rule one before) (after rule two behind) last_low last_high below above;
          below = below;
          above = above;
        }

-- ---- pairs whose keys rise, those below a key and those from it on
each_pair : (P : ℕ → Type 0) (pairs : List Pair) → AllByRecursion (λ (p : Pair). P p.key) pairs → AllByRecursion (λ (e : ℕ × ℕ). P e.0) (map pair_of pairs)
each_pair P [] h = tt
each_pair P (p ∷ pairs) h = (h.0, each_pair P pairs h.1)

pub parts_of_pairs : (cut : ℕ) (front back : List Pair) → IsRising (front ++ back) → AllByRecursion (λ (p : Pair). p.key < cut) front → AllByRecursion (λ (p : Pair). cut ≤ p.key) back
    → AreParts cut (keys_of (front ++ back)) (keys_of front) (keys_of back)
parts_of_pairs cut front back rises below above =
    let one = pairs_are front (rising_front front back rises) in
    let two = pairs_are back (rising_back front back rises) in
    record {
      joined = sym (pairs_are (front ++ back) rises) ∙ map-append pair_of front back ∙ ap (λ (es : List (ℕ × ℕ)). es ++ map pair_of back) one
          ∙ ap (λ (es : List (ℕ × ℕ)). entries (keys_of front) ++ es) two;
      below = subst (AllByRecursion (λ (e : ℕ × ℕ). e.0 < cut)) one (each_pair (λ (k : ℕ). k < cut) front below);
      above = subst (AllByRecursion (λ (e : ℕ × ℕ). cut ≤ e.0)) two (each_pair (λ (k : ℕ). cut ≤ k) back above);
    }
