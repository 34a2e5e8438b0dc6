-- Sets whose keys are entered in their order.
use Rattle.std.proofs.Common.{◌≡◌, ◌∙◌, ℕ, ◌<◌, ◌≤◌, List, [], ◌∷◌, ◌++◌, map, Some, None, Option, refl, sym, ap, subst, arith, append_assoc, drop}
use Rattle.std.specs.Prelude.{T}
use Rattle.std.specs.declared.cmp.Ordering.TheVariants.{Equal, Greater}
use Rattle.std.specs.List.{AllByRecursion}
use Rattle.std.specs.Ordering.{nat_cmp}
use Rattle.std.specs.Cmp.{nat_cmp_total}
use Rattle.std.specs.FinMap.{get, insert, find, put, entries_sorted, from_entries, from_entries_push, get-entries, entries-insert, nat_cmp-IsAntisymmetric, is_sorted}
use Rattle.std.specs.FinMap.Entries.{below_all}
use Rattle.std.proofs.lemmas.Bool.Decides.{nat_tests}
use Rattle.std.proofs.lemmas.List.{append-nil, map-append}
use Rattle.irl_offer.specs.declared.receipt.Pair.{Pair}
use Rattle.irl_model.specs.Book.{IsPrefixOf}
use Rattle.irl_model.specs.Judging.{KeyMap}
use Rattle.irl_model.specs.Pairs.{IsRising, keys_of, pair_of}
use Rattle.irl_model.proofs.RisingKeys.{first, from_T, lt_from, second, sorted_front, to_T}
use Rattle.irl_merge.specs.Pairs.{HasGiven}

abbrev pub AllBelow : ℕ → List (ℕ × ℕ) → Type 0
AllBelow key es = AllByRecursion (λ e. e.0 < key) es

-- ---- comparisons
greater : (k x : ℕ) → x < k → nat_cmp k x ≡ Greater
greater k x h = grind (arith, nat_tests)

tied : (k : ℕ) → nat_cmp k k ≡ Equal
tied k = grind (arith, nat_tests)

-- ---- entries whose keys are below a key
put_last : (es : List (ℕ × ℕ)) (k v : ℕ) → AllBelow k es → put nat_cmp k v es ≡ es ++ (k, v) ∷ []
put_last [] k v h = refl
put_last (e ∷ es) k v h = rw (greater k e.0 h.0) (ap (λ (r : List (ℕ × ℕ)). e ∷ r) (put_last es k v h.1))

put_same : (es : List (ℕ × ℕ)) (k v w : ℕ) → AllBelow k es → put nat_cmp k v (es ++ (k, w) ∷ []) ≡ es ++ (k, v) ∷ []
put_same [] k v w h = rw (tied k) refl
put_same (e ∷ es) k v w h = rw (greater k e.0 h.0) (ap (λ (r : List (ℕ × ℕ)). e ∷ r) (put_same es k v w h.1))

find_last : (es : List (ℕ × ℕ)) (k w : ℕ) → AllBelow k es → find nat_cmp k (es ++ (k, w) ∷ []) ≡ Some w
find_last [] k w h = rw (tied k) refl
find_last (e ∷ es) k w h = rw (greater k e.0 h.0) (find_last es k w h.1)

pub find_above : (es : List (ℕ × ℕ)) (k : ℕ) → AllBelow k es → find nat_cmp k es ≡ None
find_above [] k h = refl
find_above (e ∷ es) k h = rw (greater k e.0 h.0) (find_above es k h.1)

-- entries whose keys rise are below the last
below_in : (x : ℕ) (es : List (ℕ × ℕ)) (e : ℕ × ℕ) → T (below_all nat_cmp x (es ++ e ∷ [])) → x < e.0
below_in x [] e h = lt_from x e.0 (first _ _ h)
below_in x (d ∷ es) e h = below_in x es e (second _ _ h)

pub below_last : (es : List (ℕ × ℕ)) (e : ℕ × ℕ) → T (is_sorted nat_cmp (es ++ e ∷ [])) → AllBelow e.0 es
below_last [] e h = tt
below_last (d ∷ es) e h = (below_in d.0 es e (first _ _ h), below_last es e (second _ _ h))

pub below_more : (es : List (ℕ × ℕ)) (e : ℕ × ℕ) (j k : ℕ) → j ≤ k → e.0 < k → AllBelow j es → AllBelow k (es ++ e ∷ [])
below_more [] e j k le lt h = (lt, tt)
below_more (d ∷ es) e j k le lt h = (omega (arith, h.0), below_more es e j k le lt h.1)

-- ---- pairs
below_pairs : (key : ℕ) (pairs : List Pair) → AllBelow key (map pair_of pairs) → AllByRecursion (λ (p : Pair). p.key < key) pairs
below_pairs key [] h = tt
below_pairs key (p ∷ pairs) h = (h.0, below_pairs key pairs h.1)

-- pairs whose keys rise are below the last
pub rising_below : (fed : List Pair) (p : Pair) → IsRising (fed ++ p ∷ []) → AllByRecursion (λ (q : Pair). q.key < p.key) fed
rising_below fed p h = below_pairs p.key fed (below_last (map pair_of fed) (pair_of p) (to_T _ (rw (map-append pair_of fed (p ∷ [])) at h)))

pub keys_more : (fed : List Pair) (p : Pair) → IsRising (fed ++ p ∷ []) → keys_of (fed ++ p ∷ []) ≡ insert (keys_of fed) p.key p.value
keys_more fed p h =
    ap (λ (es : List (ℕ × ℕ)). from_entries {R = nat_cmp} es) (map-append pair_of fed (p ∷ []))
    ∙ from_entries_push nat_cmp_total nat_cmp-IsAntisymmetric (map pair_of fed) p.key p.value
    (find_above (map pair_of fed) p.key (below_last (map pair_of fed) (pair_of p) (to_T _ (rw (map-append pair_of fed (p ∷ [])) at h))))

-- ---- the last key of a set is held back
held_last : (keys : KeyMap) (given : List Pair) (h : Pair) → HasGiven keys given (Some h) → AllBelow h.key (map pair_of given)
held_last keys given h made = below_last (map pair_of given) (pair_of h) (subst (λ (es : List (ℕ × ℕ)). T (is_sorted nat_cmp es)) made (entries_sorted keys))

pub made_none : (keys : KeyMap) (given : List Pair) (key : ℕ) → HasGiven keys given None → get keys key ≡ None
made_none keys given key made = get-entries keys key ∙ ap (find nat_cmp key) made.1

pub made_here : (keys : KeyMap) (given : List Pair) (h : Pair) → HasGiven keys given (Some h) → get keys h.key ≡ Some h.value
made_here keys given h made =
    get-entries keys h.key ∙ ap (find nat_cmp h.key) made ∙ find_last (map pair_of given) h.key h.value (held_last keys given h made)

pub made_above : (keys : KeyMap) (given : List Pair) (h : Pair) (key : ℕ) → HasGiven keys given (Some h) → h.key < key → get keys key ≡ None
made_above keys given h key made lt =
    get-entries keys key ∙ ap (find nat_cmp key) made
    ∙ find_above (map pair_of given ++ pair_of h ∷ []) key (below_more (map pair_of given) (pair_of h) h.key key (omega arith) lt (held_last keys given h made))

pub put_first : (keys : KeyMap) (given : List Pair) (p : Pair) → HasGiven keys given None → HasGiven (insert keys p.key p.value) given (Some p)
put_first keys given p made =
    entries-insert nat_cmp_total keys p.key p.value ∙ ap (put nat_cmp p.key p.value) made.1
    ∙ ap (λ (ps : List Pair). map pair_of ps ++ pair_of p ∷ []) (sym made.0)

pub put_here : (keys : KeyMap) (given : List Pair) (h p : Pair) → HasGiven keys given (Some h) → h.key ≡ p.key → HasGiven (insert keys p.key p.value) given (Some p)
put_here keys given h p made same =
    let below : AllBelow p.key (map pair_of given) = subst (λ (k : ℕ). AllBelow k (map pair_of given)) same (held_last keys given h made) in
    entries-insert nat_cmp_total keys p.key p.value
    ∙ ap (put nat_cmp p.key p.value) (made ∙ ap (λ (k : ℕ). map pair_of given ++ (k, h.value) ∷ []) same)
    ∙ put_same (map pair_of given) p.key p.value h.value below

pub put_above : (keys : KeyMap) (given : List Pair) (h p : Pair) → HasGiven keys given (Some h) → h.key < p.key → HasGiven (insert keys p.key p.value) (given ++ h ∷ []) (Some p)
put_above keys given h p made lt =
    entries-insert nat_cmp_total keys p.key p.value ∙ ap (put nat_cmp p.key p.value) made
    ∙ put_last (map pair_of given ++ pair_of h ∷ []) p.key p.value (below_more (map pair_of given) (pair_of h) h.key p.key (omega arith) lt (held_last keys given h made))
    ∙ ap (λ (es : List (ℕ × ℕ)). es ++ pair_of p ∷ []) (sym (map-append pair_of given (h ∷ [])))

pub get_at : (keys : KeyMap) (a b : ℕ) → a ≡ b → get keys b ≡ get keys a
get_at keys a b e = ap (get keys) (sym e)

-- ---- what a call put behind what was there
pub same_more : (xs a b : List Pair) → xs ++ a ≡ xs ++ b → a ≡ b
same_more [] a b e = e
same_more (x ∷ xs) a b e = same_more xs a b (ap (drop 1) e)

pub one_more : (xs ys more : List Pair) (p : Pair) → ys ≡ xs ++ p ∷ [] → ys ≡ xs ++ more → p ∷ [] ≡ more
one_more xs ys more p e f = same_more xs (p ∷ []) more (sym e ∙ f)

pub none_more : (given xs more : List Pair) → xs ≡ xs ++ more → given ≡ given ++ more
none_more given xs more e = sym (ap (λ (l : List Pair). given ++ l) (same_more xs more [] (sym e ∙ sym (append-nil xs))) ∙ append-nil given)

-- in two steps
pub joined : (given xs ys zs more : List Pair) (h : IsPrefixOf xs ys) (k : IsPrefixOf ys zs) → zs ≡ xs ++ more → (given ++ h.0) ++ k.0 ≡ given ++ more
joined given xs ys zs more h k e =
    append_assoc given h.0 k.0
    ∙ ap (λ (l : List Pair). given ++ l) (same_more xs (h.0 ++ k.0) more (sym (append_assoc xs h.0 k.0) ∙ ap (λ (l : List Pair). l ++ k.0) (sym h.1) ∙ sym k.1 ∙ e))

-- ---- what was given rises
pub given_rises : (keys : KeyMap) (given : List Pair) (last : Option Pair) → HasGiven keys given last → IsRising given
given_rises keys given None has = subst IsRising (sym has.0) refl
given_rises keys given (Some h) has =
    from_T _ (sorted_front (map pair_of given) (pair_of h ∷ []) (subst (λ (es : List (ℕ × ℕ)). T (is_sorted nat_cmp es)) has (entries_sorted keys)))
