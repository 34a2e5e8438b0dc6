-- An element of a list after a write, and a value at a text.
use Rattle.std.proofs.Common.{◌≡◌, ◌∙◌, ℕ, zero, suc, ◌+◌, ◌<◌, true, false, cond, List, [], ◌∷◌, length, set, take, drop, Option, Some, None, refl, sym, ap, arith}
use Rattle.std.specs.Prelude.{slice_get, bytes_eq, IsSome}
use Rattle.std.proofs.Common.{◌⊎◌, inl, inr}
use Rattle.std.proofs.lemmas.Bool.{cases_Bool}
use Rattle.std.proofs.lemmas.Slice.Eq.{bytes_eq-Decides}
use Rattle.irl_polite.specs.Schedule.{changed}

pub get_set_same : {X : Type 0} (xs : List X) (i : ℕ) (y : X) → i < length xs → slice_get (set xs i y) i ≡ Some y
get_set_same [] i y h = absurd (omega arith)
get_set_same (x ∷ xs) zero y h = refl
get_set_same (x ∷ xs) (suc i) y h = get_set_same xs i y (omega arith)

pub get_set_other : {X : Type 0} (xs : List X) (i j : ℕ) (y : X) → (j ≡ i → ⊥) → slice_get (set xs i y) j ≡ slice_get xs j
get_set_other [] i j y ne = refl
get_set_other (x ∷ xs) zero zero y ne = absurd (ne refl)
get_set_other (x ∷ xs) zero (suc j) y ne = refl
get_set_other (x ∷ xs) (suc i) zero y ne = refl
get_set_other (x ∷ xs) (suc i) (suc j) y ne = get_set_other xs i j y (λ e. ne (ap suc e))

pub get_within : {X : Type 0} (xs : List X) (i : ℕ) (x : X) → slice_get xs i ≡ Some x → i < length xs
get_within [] i x e = cc
get_within (y ∷ xs) zero x e = omega arith
get_within (y ∷ xs) (suc i) x e = let h : i < length xs = get_within xs i x e in omega arith

pub get_some : {X : Type 0} (xs : List X) (i : ℕ) → i < length xs → (x : X) × (slice_get xs i ≡ Some x)
get_some [] i h = absurd (omega arith)
get_some (x ∷ xs) zero h = (x, refl)
get_some (x ∷ xs) (suc i) h = get_some xs i (omega arith)

pub get_take : {X : Type 0} (n : ℕ) (xs : List X) (k : ℕ) (x : X) → slice_get (take n xs) k ≡ Some x → (k < n) × (slice_get xs k ≡ Some x)
get_take zero xs k x e = cc
get_take (suc n) [] k x e = cc
get_take (suc n) (y ∷ xs) zero x e = (omega arith, e)
get_take (suc n) (y ∷ xs) (suc k) x e = let h = get_take n xs k x e in let l : k < n = h.0 in (omega arith, h.1)

pub get_drop : {X : Type 0} (n : ℕ) (xs : List X) (k : ℕ) → slice_get (drop n xs) k ≡ slice_get xs (n + k)
get_drop zero xs k = ap (slice_get xs) (let e : k ≡ 0 + k = omega arith in e)
get_drop (suc n) [] k = refl
get_drop (suc n) (y ∷ xs) k = get_drop n xs k ∙ ap (slice_get (y ∷ xs)) (let e : suc (n + k) ≡ suc n + k = omega arith in e)

pub same_some : {X : Type 0} (x y : X) → Some x ≡ Some y → x ≡ y
same_some x y e = cc

-- whether a text is that one
pub cases_text : (a b : List ℕ) → ((bytes_eq a b ≡ true) × (a ≡ b)) ⊎ ((bytes_eq a b ≡ false) × (a ≡ b → ⊥))
cases_text a b = elim (cases_Bool (bytes_eq a b)) [
  | inl e ↦ inl (e, (bytes_eq-Decides a b).0 e)
  | inr e ↦ inr (e, λ p. let t = (bytes_eq-Decides a b).1 p in cc)
]

pub changed_same : {A : Type 0} (f : List ℕ → A) (at : List ℕ) (x : A) → changed f at x at ≡ x
changed_same f at x = ap (λ b. cond b x (f at)) ((bytes_eq-Decides at at).1 refl)

pub changed_other : {A : Type 0} (f : List ℕ → A) (at : List ℕ) (x : A) (q : List ℕ) → (q ≡ at → ⊥) → changed f at x q ≡ f q
changed_other f at x q ne = elim (cases_text q at) [
  | inl (e, is) ↦ absurd (ne is)
  | inr (e, is) ↦ ap (λ b. cond b x (f q)) e
]

-- nothing changes where the value is that one already
pub changed_to_itself : {A : Type 0} (f : List ℕ → A) (at : List ℕ) (x : A) → f at ≡ x → (q : List ℕ) → changed f at x q ≡ f q
changed_to_itself f at x is q = elim (cases_text q at) [
  | inl (e, same) ↦ ap (λ b. cond b x (f q)) e ∙ sym is ∙ sym (ap f same)
  | inr (e, other) ↦ ap (λ b. cond b x (f q)) e
]

-- what is no value is none
pub none_of : {X : Type 0} (o : Option X) → ((x : X) → o ≡ Some x → ⊥) → o ≡ None
none_of None never = refl
none_of (Some x) never = absurd (never x refl)

pub some_value : {X : Type 0} (o : Option X) → IsSome o → (x : X) × (o ≡ Some x)
some_value None some = cc
some_value (Some x) some = (x, refl)
