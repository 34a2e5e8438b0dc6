-- Lists of which one element changes, read by `get_elem?`, and mapped.
use Rattle.std.proofs.Common.{◌≡◌, ◌≢◌, ℕ, zero, suc, ◌<◌, List, [], ◌∷◌, ◌++◌, map, length, Bool, true, false, refl, sym, ap, ◌∙◌, subst, ⊎_elim, arith, eqb}
use Rattle.std.proofs.Common.{eq-eqb, ne_eqb, length-set, get_or-set_other, get_or-set_same}
use Rattle.std.specs.Prelude.{slice_index, slice_set}
use Rattle.std.specs.List.{AllByRecursion}
use Rattle.std.proofs.lemmas.List.{map-append, map-set, set-get_or}
use mathlib.Core.Option.{some, some-injective, some-ne-none}
use lib.ListN.{get_elem?}
use Rattle.atomic_table.proofs.Lists.{at_map, at_set}

module _ {A : Type 0} where
  -- an element that is there is within
  pub is_within : (l : List A) (i : ℕ) (a : A) → get_elem? l i ≡ some a → i < length l
  is_within [] i a e = absurd (some-ne-none a (sym e))
  is_within (x ∷ xs) zero a e = omega arith
  is_within (x ∷ xs) (suc i) a e = let r = is_within xs i a e in omega arith

  -- what is put in an element's place stands there
  pub here_set : (l : List A) (i : ℕ) (a b : A) → get_elem? l i ≡ some a → get_elem? (slice_set l i b) i ≡ some b
  here_set [] i a b e = absurd (some-ne-none a (sym e))
  here_set (x ∷ xs) zero a b e = refl
  here_set (x ∷ xs) (suc i) a b e = here_set xs i a b e

  -- a fact of each element, where one has changed
  pub each_set : (F : ℕ → A → Type 0) (l : List A) (i : ℕ) (b : A) → F i b
      → ((j : ℕ) (u : A) → j ≢ i → get_elem? l j ≡ some u → F j u)
      → (j : ℕ) (u : A) → get_elem? (slice_set l i b) j ≡ some u → F j u
  each_set F l i b mine others j u e =
      ⊎_elim (λ (x : (j ≡ i) × (b ≡ u)). subst (λ (y : ℕ × A). F y.0 y.1) (λ k. (sym x.0 k, x.1 k)) mine)
      (λ (x : (j ≢ i) × (get_elem? l j ≡ some u)). others j u x.0 x.1) (at_set l i j b u e)

-- ---- a fact of all elements
module _ {A : Type 0} (F : A → Type 0) where
  -- of one of them
  pub every_at : (l : List A) (i : ℕ) (a : A) → AllByRecursion F l → get_elem? l i ≡ some a → F a
  every_at [] i a all at = absurd (some-ne-none a (sym at))
  every_at (x ∷ xs) zero a all at = subst F (some-injective x a at) all.0
  every_at (x ∷ xs) (suc i) a all at = every_at xs i a all.1 at

  -- where one has changed
  pub every_set : (l : List A) (i : ℕ) (b : A) → AllByRecursion F l → F b → AllByRecursion F (slice_set l i b)
  every_set [] i b all new = tt
  every_set (x ∷ xs) zero b all new = (new, all.1)
  every_set (x ∷ xs) (suc i) b all new = (all.0, every_set xs i b all.1 new)

  -- with one more
  pub every_snoc : (l : List A) (b : A) → AllByRecursion F l → F b → AllByRecursion F (l ++ b ∷ [])
  every_snoc [] b all new = (new, tt)
  every_snoc (x ∷ xs) b all new = (all.0, every_snoc xs b all.1 new)

  -- and all, from each
  pub every_of : (l : List A) → ((i : ℕ) (a : A) → get_elem? l i ≡ some a → F a) → AllByRecursion F l
  every_of [] each = tt
  every_of (x ∷ xs) each = (each zero x refl, every_of xs (λ i a e. each (suc i) a e))

-- ---- under a map
module _ {A B : Type 0} where
  pub map_slice_set : (f : A → B) (l : List A) (i : ℕ) (y : A) → map f (slice_set l i y) ≡ slice_set (map f l) i (f y)
  map_slice_set f l i y = map-set f l i y

  pub map_snoc : (f : A → B) (l : List A) (y : A) → map f (l ++ y ∷ []) ≡ map f l ++ f y ∷ []
  map_snoc f l y = map-append f l (y ∷ [])

  -- an element under a map, from one of the list
  pub map_at : (f : A → B) (l : List A) (i : ℕ) (a : A) → get_elem? l i ≡ some a → get_elem? (map f l) i ≡ some (f a)
  map_at f l i a e = at_map f l i a e

  -- and back: an element under a map is that of one of the list
  pub of_map_at : (f : A → B) (l : List A) (i : ℕ) (b : B) → get_elem? (map f l) i ≡ some b
      → (a : A) × (get_elem? l i ≡ some a) × (f a ≡ b)
  of_map_at f [] i b e = absurd (some-ne-none b (sym e))
  of_map_at f (x ∷ xs) zero b e = (x, refl, some-injective (f x) b e)
  of_map_at f (x ∷ xs) (suc i) b e = of_map_at f xs i b e

  -- an element is replaced by one that the map takes to the same
  pub map_same : (f : A → B) (l : List A) (i : ℕ) (a y : A) → get_elem? l i ≡ some a → f y ≡ f a → map f (slice_set l i y) ≡ map f l
  map_same f [] i a y e same = refl
  map_same f (x ∷ xs) zero a y e same = ap (λ (z : B). z ∷ map f xs) (same ∙ sym (ap f (some-injective x a e)))
  map_same f (x ∷ xs) (suc i) a y e same = ap (λ (zs : List B). f x ∷ zs) (map_same f xs i a y e same)

-- ---- a function that changes at one place
abbrev pick : {A : Type 0} → Bool → A → A → A
pick true a b = a
pick false a b = b

-- f, but a at i
abbrev pub changed : {A : Type 0} → (ℕ → A) → ℕ → A → ℕ → A
changed f i a j = pick (eqb j i) a (f j)

pub changed_here : {A : Type 0} (f : ℕ → A) (i j : ℕ) (a : A) → j ≡ i → changed f i a j ≡ a
changed_here f i j a e = subst (λ (b : Bool). pick b a (f j) ≡ a) (sym (eq-eqb j i e)) refl

pub changed_else : {A : Type 0} (f : ℕ → A) (i j : ℕ) (a : A) → j ≢ i → changed f i a j ≡ f j
changed_else f i j a n = subst (λ (b : Bool). pick b a (f j) ≡ f j) (sym (ne_eqb j i n)) refl

-- ---- words
-- a word after it is set, and another one
pub word_here : (words : List ℕ) (i n : ℕ) → i < length words → slice_index (slice_set words i n) i ≡ n
word_here words i n h = get_or-set_same words i n 0 h

pub word_else : (words : List ℕ) (i j n : ℕ) → j ≢ i → slice_index (slice_set words i n) j ≡ slice_index words j
word_else words i j n apart = get_or-set_other words i j n 0 apart

-- a word that is set to what it was
pub word_again : (words : List ℕ) (i n : ℕ) → n ≡ slice_index words i → slice_set words i n ≡ words
word_again words i n e = ap (slice_set words i) e ∙ set-get_or words i 0

pub words_long : (words : List ℕ) (i n : ℕ) → length (slice_set words i n) ≡ length words
words_long words i n = length-set words i n
