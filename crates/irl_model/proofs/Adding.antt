-- What asking a set adds to its entries.
use Rattle.std.proofs.Common.{◌≡◌, ℕ, ◌+◌, ◌≤◌, List, [], ◌∷◌, length, Bool, true, false, cond, sym, subst, arith}
use Rattle.std.specs.List.{AllByRecursion}
use Rattle.std.specs.Ordering.{nat_cmp}
use Rattle.std.specs.Cmp.{nat_cmp_total}
use Rattle.std.specs.FinMap.{get, entries, insert, entries-insert, put, contains_key, len, len-entries, len-insert}
use Rattle.std.specs.FinMap.Entries.{by_order}
use Rattle.std.specs.declared.cmp.Ordering.{Ordering}
use Rattle.std.specs.declared.cmp.Ordering.TheVariants.{Less, Equal, Greater}
use Rattle.irl_offer.specs.declared.offer.Rule.{Rule}
use Rattle.irl_offer.specs.Tuple.{Tuple}
use Rattle.irl_model.specs.Judging.{KeyMap, after, combined, entered, enters}

module _ (test : ℕ → Bool) where
  -- each key of entries passes
  abbrev pub Pass : List (ℕ × ℕ) → Type 0
  Pass es = AllByRecursion (λ (e : ℕ × ℕ). test e.0 ≡ true) es

  pass_put : (k v : ℕ) (es : List (ℕ × ℕ)) → test k ≡ true → Pass es → Pass (put nat_cmp k v es)
  pass_put k v [] t h = (t, tt)
  pass_put k v (e ∷ es) t h =
      elim (nat_cmp k e.0) as (λ (o : Ordering). Pass (by_order o ((k, v) ∷ e ∷ es) ((e.0, v) ∷ es) (e ∷ put nat_cmp k v es))) [
        | Less ↦ (t, h)
        | Equal ↦ (h.0, h.1)
        | Greater ↦ (h.0, pass_put k v es t h.1)
      ]

  pub pass_insert : (keys : KeyMap) (k v : ℕ) → test k ≡ true → Pass (entries keys) → Pass (entries (insert keys k v))
  pass_insert keys k v t h = subst Pass (sym (entries-insert nat_cmp_total keys k v)) (pass_put k v (entries keys) t h)

  pass_entered : (rule : Rule) (keys : KeyMap) (o : Tuple) → test o.key ≡ true → Pass (entries keys) → Pass (entries (entered rule keys o))
  pass_entered rule keys o t h =
      elim (enters o.op) as (λ (b : Bool). Pass (entries (cond b (insert keys o.key (combined rule (get keys o.key) o.value)) keys))) [
        | true ↦ pass_insert keys o.key (combined rule (get keys o.key) o.value) t h
        | false ↦ h
      ]

  pub pass_after : (rule : Rule) (keys : KeyMap) (os : List Tuple) → Pass (entries keys) → AllByRecursion (λ (o : Tuple). test o.key ≡ true) os → Pass (entries (after rule keys os))
  pass_after rule keys [] h t = h
  pass_after rule keys (o ∷ os) h t = pass_after rule (entered rule keys o) os (pass_entered rule keys o t.0 h) t.1

-- ---- how many
set_grows : (keys : KeyMap) (key value : ℕ) → length (entries keys) ≤ length (entries (insert keys key value))
set_grows keys key value = by_test (contains_key keys key) (len-insert nat_cmp_total keys key value)
  where
    by_test : (test : Bool) → len (insert keys key value) ≡ cond test (len keys) (len keys + 1) → length (entries keys) ≤ length (entries (insert keys key value))
    by_test true is = omega (arith, is, len-entries keys, len-entries (insert keys key value))
    by_test false is = omega (arith, is, len-entries keys, len-entries (insert keys key value))

entered_grows : (rule : Rule) (keys : KeyMap) (o : Tuple) → length (entries keys) ≤ length (entries (entered rule keys o))
entered_grows rule keys o =
    elim (enters o.op) as (λ (b : Bool). length (entries keys) ≤ length (entries (cond b (insert keys o.key (combined rule (get keys o.key) o.value)) keys))) [
      | true ↦ set_grows keys o.key (combined rule (get keys o.key) o.value)
      | false ↦ omega arith
    ]

pub keys_grow : (rule : Rule) (keys : KeyMap) (offers : List Tuple) → length (entries keys) ≤ length (entries (after rule keys offers))
keys_grow rule keys [] = omega arith
keys_grow rule keys (offer ∷ offers) = omega (arith, entered_grows rule keys offer, keys_grow rule (entered rule keys offer) offers)
