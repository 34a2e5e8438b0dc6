-- What a tree with texts as keys has at a text after one more entry.
use Rattle.std.proofs.Common.{◌≡◌, ◌∙◌, ℕ, Bool, true, false, List, [], ◌∷◌, Option, Some, cond, refl, sym, ap}
use Rattle.std.specs.Prelude.{Vec, bytes_eq}
use Rattle.std.specs.declared.cmp.Ordering.{Ordering}
use Rattle.std.specs.declared.cmp.Ordering.TheVariants.{Less, Equal, Greater}
use Rattle.std.specs.Ordering.{nat_cmp, is_eq, match_ordering}
use Rattle.std.specs.Cmp.Lexicographic.{slice_cmp}
use Rattle.std.specs.BTreeMap.{is_at, insert_entry}
use Rattle.std.specs.Map.{lookup}
use Rattle.std.proofs.lemmas.Map.Text.{is_eq-slice_cmp}
use Rattle.std.proofs.lemmas.Slice.Eq.{bytes_eq-Decides}

-- what the entries have at a text
abbrev pub value_at : {A X : Type 0} → List (Vec ℕ A × X) → List ℕ → Option X
value_at entries text = lookup (is_at (λ k. slice_cmp nat_cmp text k.items)) entries

abbrev pub vec_cmp : {A : Type 0} → Vec ℕ A → Vec ℕ A → Ordering
vec_cmp a b = slice_cmp nat_cmp a.items b.items

same_text : (a b : List ℕ) → slice_cmp nat_cmp a b ≡ Equal → a ≡ b
same_text a b e = (bytes_eq-Decides a b).0 (sym (is_eq-slice_cmp a b) ∙ ap is_eq e)

twice : {X : Type 0} (a b : Bool) → a ≡ b → (v w : X) (o : Option X) → cond b (Some v) o ≡ cond a (Some v) (cond b (Some w) o)
twice true true e v w o = refl
twice true false e v w o = cc
twice false b e v w o = ap (λ t. cond t (Some v) o) (sym e) ∙ sym (ap (λ t. cond t (Some w) o) (sym e))

turned : {X : Type 0} (a b : Bool) (v w : X) (o : Option X) → (a ≡ true → b ≡ false) → cond b (Some w) (cond a (Some v) o) ≡ cond a (Some v) (cond b (Some w) o)
turned true true v w o apart = absurd (let e = apart refl in cc)
turned true false v w o apart = refl
turned false b v w o apart = refl

-- whether the text is that of the key
abbrev pub is_of : {A : Type 0} → List ℕ → Vec ℕ A → Bool
is_of {A = A} text k = is_at (λ (x : Vec ℕ A). slice_cmp nat_cmp text x.items) k

not_both : (a b c : List ℕ) → slice_cmp nat_cmp b c ≡ Greater → is_eq (slice_cmp nat_cmp a b) ≡ true → is_eq (slice_cmp nat_cmp a c) ≡ false
not_both a b c e f =
    let same : a ≡ b = (bytes_eq-Decides a b).0 (sym (is_eq-slice_cmp a b) ∙ f) in
    ap (λ t. is_eq (slice_cmp nat_cmp t c)) same ∙ ap is_eq e

module _ {A X : Type 0} (text : List ℕ) (k : Vec ℕ A) (v : X) where
  insert_by : (e : Vec ℕ A × X) (es : List (Vec ℕ A × X)) (o : Ordering) → vec_cmp k e.0 ≡ o → value_at (insert_entry vec_cmp es k v) text ≡ cond (is_of text k) (Some v) (value_at es text)
      → value_at (match_ordering o ((k, v) ∷ e ∷ es) ((e.0, v) ∷ es) (e ∷ insert_entry vec_cmp es k v)) text ≡ cond (is_of text k) (Some v) (value_at (e ∷ es) text)
  insert_by e es Less is later = refl
  insert_by e es Equal is later = twice (is_of text k) (is_of text e.0) (ap (λ t. is_eq (slice_cmp nat_cmp text t)) (same_text k.items e.0.items is)) v e.1 (value_at es text)
  insert_by e es Greater is later =
      ap (λ o. cond (is_of text e.0) (Some e.1) o) later
      ∙ turned (is_of text k) (is_of text e.0) v e.1 (value_at es text) (not_both text k.items e.0.items is)

  at_insert : (es : List (Vec ℕ A × X)) → value_at (insert_entry vec_cmp es k v) text ≡ cond (is_of text k) (Some v) (value_at es text)
  at_insert [] = refl
  at_insert (e ∷ es) = insert_by e es (vec_cmp k e.0) refl (at_insert es)

  -- what the entries have at a text after one more entry
  pub value_at-insert : (es new : List (Vec ℕ A × X)) → new ≡ insert_entry vec_cmp es k v → value_at new text ≡ cond (bytes_eq text k.items) (Some v) (value_at es text)
  value_at-insert es new is =
      ap (λ t. value_at t text) is ∙ at_insert es
      ∙ ap (λ b. cond b (Some v) (value_at es text)) (is_eq-slice_cmp text k.items)
