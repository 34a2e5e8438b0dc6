-- What a set of names has after one more.
use Rattle.std.proofs.Common.{◌≡◌, ℕ, Bool, true, false, ◌||◌, List, [], ◌∷◌, sym, refl, ap, ◌∙◌, subst}
use Rattle.std.specs.Prelude.{Vec, vec_len, bytes_eq}
use Rattle.std.specs.declared.cmp.Ordering.{Ordering}
use Rattle.std.specs.declared.cmp.Ordering.TheVariants.{Less, Equal, Greater}
use Rattle.std.specs.Ordering.{nat_cmp, is_eq, match_ordering}
use Rattle.std.specs.Cmp.Lexicographic.{slice_cmp}
use Rattle.std.specs.List.{list_any, AllZip, each_same}
use Rattle.std.specs.BTreeMap.{is_at}
use Rattle.std.specs.BTreeSet.{BTreeSet, insert_key}
use Rattle.std.proofs.lemmas.Map.Text.{is_eq-slice_cmp}
use Rattle.std.proofs.lemmas.Slice.Eq.{bytes_eq-Decides}
use Rattle.irl_pld.specs.Sets.{has_name, AreNamesOf}

abbrev pub vec_cmp : {A : Type 0} → Vec ℕ A → Vec ℕ A → Ordering
vec_cmp a b = slice_cmp nat_cmp a.items b.items

-- whether the name is that of the key
abbrev pub is_of : {A : Type 0} → List ℕ → Vec ℕ A → Bool
is_of {A = A} name k = is_at (λ (x : Vec ℕ A). slice_cmp nat_cmp name x.items) k

or_same : (a b : Bool) → a ≡ b → (c : Bool) → (b || c) ≡ (a || (b || c))
or_same true b e c = ap (λ x. x || c) (sym e)
or_same false b e c = refl

or_swap : (a b c : Bool) → (b || (a || c)) ≡ (a || (b || c))
or_swap true true c = refl
or_swap true false c = refl
or_swap false b c = refl

same_text : (k x : List ℕ) → slice_cmp nat_cmp k x ≡ Equal → k ≡ x
same_text k x e = (bytes_eq-Decides k x).0 (sym (is_eq-slice_cmp k x) ∙ ap is_eq e)

module _ {A : Type 0} (name : List ℕ) (k : Vec ℕ A) where
  insert_by : (x : Vec ℕ A) (xs : List (Vec ℕ A)) (o : Ordering) → vec_cmp k x ≡ o → list_any (is_of name) (insert_key vec_cmp xs k) ≡ (is_of name k || list_any (is_of name) xs)
      → list_any (is_of name) (match_ordering o (k ∷ x ∷ xs) (x ∷ xs) (x ∷ insert_key vec_cmp xs k)) ≡ (is_of name k || (is_of name x || list_any (is_of name) xs))
  insert_by x xs Less e later = refl
  insert_by x xs Equal e later = or_same (is_of name k) (is_of name x) (ap (λ t. is_eq (slice_cmp nat_cmp name t)) (same_text k.items x.items e)) (list_any (is_of name) xs)
  insert_by x xs Greater e later = ap (λ t. is_of name x || t) later ∙ or_swap (is_of name k) (is_of name x) (list_any (is_of name) xs)

  any-insert_key : (xs : List (Vec ℕ A)) → list_any (is_of name) (insert_key vec_cmp xs k) ≡ (is_of name k || list_any (is_of name) xs)
  any-insert_key [] = refl
  any-insert_key (x ∷ xs) = insert_by x xs (vec_cmp k x) refl (any-insert_key xs)

  pub has_name-insert : (old new : BTreeSet (Vec ℕ A)) → new.keys ≡ insert_key vec_cmp old.keys k → has_name new name ≡ (bytes_eq name k.items || has_name old name)
  has_name-insert old new is = ap (list_any (is_of name)) is ∙ any-insert_key old.keys ∙ ap (λ t. t || has_name old name) (is_eq-slice_cmp name k.items)

-- a clone of a name
abbrev pub IsCloneOf : {A : Type 0} → Vec ℕ A → Vec ℕ A → Type 0
IsCloneOf v w = AllZip (λ x y. y ≡ x) v.items w.items × (vec_len w ≡ vec_len v)

any-clone : {A : Type 0} (name : List ℕ) (xs ys : List (Vec ℕ A)) → AllZip IsCloneOf xs ys → list_any (is_of name) ys ≡ list_any (is_of name) xs
any-clone name [] [] same = refl
any-clone name [] (y ∷ ys) same = absurd same
any-clone name (x ∷ xs) [] same = absurd same
any-clone name (x ∷ xs) (y ∷ ys) same =
    let first = ap (λ t. is_eq (slice_cmp nat_cmp name t)) (each_same x.items y.items same.0.0) in
    ap (λ b. b || list_any (is_of name) ys) first ∙ ap (λ b. is_of name x || b) (any-clone name xs ys same.1)

-- the clones of the names of a text are its names too
pub names_from_clone : {A : Type 0} (old new : BTreeSet (Vec ℕ A)) (text copy : List ℕ) → AreNamesOf old text → AllZip IsCloneOf old.keys new.keys → copy ≡ text → AreNamesOf new copy
names_from_clone old new text copy names same is =
    subst (AreNamesOf new) (sym is) (record { good = names.good; listed = λ name. any-clone name old.keys new.keys same ∙ names.listed name })
