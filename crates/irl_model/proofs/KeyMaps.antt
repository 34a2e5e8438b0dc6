-- The entries of a tree with numbers as keys, as a finite map.
use Rattle.std.proofs.Common.{◌≡◌, ◌∙◌, ℕ, List, [], ◌∷◌, map, Some, Bool, true, false, cond, refl, sym, ap, subst, Option}
use Rattle.std.specs.Prelude.{T, ◌&&◌}
use Rattle.std.specs.declared.cmp.Ordering.TheVariants.{Less}
use Rattle.std.specs.List.{AllByRecursion}
use Rattle.std.specs.List.Sorted.{IsStrictlySortedBy}
use Rattle.std.specs.Ordering.{nat_cmp}
use Rattle.std.specs.BTreeMap.{is_at}
use Rattle.std.specs.Map.{lookup}
use Rattle.std.specs.Cmp.{nat_cmp_total, eq_by_cmp_equiv}
use Rattle.std.specs.FinMap.{get, insert, find, entries, from_entries, from_sorted, entries-from_sorted, get-from_entries, get-from_sorted, get-insert, same_map, nat_cmp-IsAntisymmetric, is_sorted}
use Rattle.std.specs.FinMap.Entries.{below_all}
use Rattle.std.specs.Ordering.{is_lt}

-- what the entries have at a key
abbrev pub value_at : List (ℕ × ℕ) → ℕ → Option ℕ
value_at entries key = lookup (is_at (nat_cmp key)) entries

find-entries : (entries : List (ℕ × ℕ)) (key : ℕ) → find nat_cmp key entries ≡ value_at entries key
find-entries [] key = refl
find-entries (e ∷ es) key = ap (cond (is_at (nat_cmp key) e.0) (Some e.1)) (find-entries es key)

-- what the map that the entries make has at a key
pub get-entries_map : (entries : List (ℕ × ℕ)) (key : ℕ) → get (from_entries {R = nat_cmp} entries) key ≡ value_at entries key
get-entries_map entries key = get-from_entries nat_cmp_total entries key ∙ find-entries entries key

-- entries that differ at one key make maps that differ there
pub one_set : (old new : List (ℕ × ℕ)) (key value : ℕ) → ((q : ℕ) → value_at new q ≡ cond (is_at (nat_cmp key) q) (Some value) (value_at old q))
    → from_entries {R = nat_cmp} new ≡ insert (from_entries old) key value
one_set old new key value h = same_map nat_cmp_total nat_cmp-IsAntisymmetric _ _ (λ q.
    get-entries_map new q ∙ h q ∙ ap (λ b. cond b (Some value) (value_at old q)) ((eq_by_cmp_equiv nat_cmp_total).symm key q)
    ∙ sym (get-insert nat_cmp_total (from_entries old) key value q ∙ ap (cond (is_at (nat_cmp q) key) (Some value)) (get-entries_map old q)))

-- ---- the entries of a tree, whose keys rise, are those of the map that they make
both : (a b : Bool) → T a → T b → T (a && b)
both true b p q = q
both false b p q = p

above : (key : ℕ) (es : List (ℕ × ℕ)) → AllByRecursion (λ k. nat_cmp key k ≡ Less) (map (λ e. e.0) es) → T (below_all nat_cmp key es)
above key [] h = tt
above key (e ∷ es) h = both _ _ (subst (λ r. T (is_lt r)) (sym h.0) tt) (above key es h.1)

rising : (es : List (ℕ × ℕ)) → IsStrictlySortedBy nat_cmp (map (λ e. e.0) es) → T (is_sorted nat_cmp es)
unfolding IsStrictlySortedBy
rising [] h = tt
rising (e ∷ es) h = both _ _ (above e.0 es h.0) (rising es h.1)

pub entries-from_entries : (es : List (ℕ × ℕ)) → IsStrictlySortedBy nat_cmp (map (λ e. e.0) es) → entries (from_entries {R = nat_cmp} es) ≡ es
entries-from_entries es h =
    let sorted = rising es h in
    ap entries (same_map nat_cmp_total nat_cmp-IsAntisymmetric (from_entries es) (from_sorted es) (λ q. get-from_entries nat_cmp_total es q ∙ sym (get-from_sorted nat_cmp es q sorted)))
    ∙ entries-from_sorted nat_cmp es sorted
