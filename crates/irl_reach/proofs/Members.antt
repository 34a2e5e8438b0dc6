-- What lists have as elements.
use Rattle.std.proofs.Common.{◌≡◌, ◌∙◌, ℕ, zero, suc, ◌<◌, Bool, true, false, cond, List, [], ◌∷◌, ◌++◌, map, length, take, drop, get_or, refl, sym, ap, subst, arith, ◌⊎◌, inl, inr}
use Rattle.std.specs.Prelude.{flat_map}
use Rattle.std.specs.List.{AllByRecursion, Contains, filter}
use Rattle.std.proofs.lemmas.List.Elements.{Contains-append_left, Contains-append_right, Contains-append_cases}
use Rattle.std.proofs.lemmas.List.Sorted.{Contains-permutation}
use Rattle.irl_base.specs.Among.{IsAmong}
use Rattle.irl_model.specs.Book.{IsPrefixOf}

pub no_member : {X : Type 0} (x : X) → Contains [] x → ⊥
no_member x h =
    let lt = h.1 in
    omega arith

pub first_member : {X : Type 0} (x : X) (xs : List X) → Contains (x ∷ xs) x
first_member x xs = (0, omega arith, refl)

pub later_member : {X : Type 0} (y : X) (xs : List X) (x : X) → Contains xs x → Contains (y ∷ xs) x
later_member y xs x h =
    let lt = h.1 in
    (suc h.0, omega arith, h.2)

member_at : {X : Type 0} (y : X) (xs : List X) (x : X) (k : ℕ) → k < length (y ∷ xs) → get_or (y ∷ xs) k x ≡ x → (y ≡ x) ⊎ Contains xs x
member_at y xs x zero lt is = inl is
member_at y xs x (suc k) lt is = inr (k, omega arith, is)

pub member_cases : {X : Type 0} (y : X) (xs : List X) (x : X) → Contains (y ∷ xs) x → (y ≡ x) ⊎ Contains xs x
member_cases y xs x h = member_at y xs x h.0 h.1 h.2

-- ---- of lists that are made of others
pub map_member : {X Y : Type 0} (f : X → Y) (xs : List X) (x : X) → Contains xs x → Contains (map f xs) (f x)
map_member f [] x h = absurd (no_member x h)
map_member f (y ∷ xs) x h = elim (member_cases y xs x h) [
  | inl same ↦ subst (λ z. Contains (f y ∷ map f xs) z) (ap f same) (first_member (f y) (map f xs))
  | inr there ↦ later_member (f y) (map f xs) (f x) (map_member f xs x there)
]

pub map_cases : {X Y : Type 0} (f : X → Y) (xs : List X) (y : Y) → Contains (map f xs) y → (x : X) × Contains xs x × (f x ≡ y)
map_cases f [] y h = absurd (no_member y h)
map_cases f (x ∷ xs) y h = elim (member_cases (f x) (map f xs) y h) [
  | inl same ↦ (x, first_member x xs, same)
  | inr there ↦ let found = map_cases f xs y there in (found.0, later_member x xs found.0 found.1, found.2)
]

pub flat_member : {X Y : Type 0} (f : X → List Y) (xs : List X) (x : X) (y : Y) → Contains xs x → Contains (f x) y → Contains (flat_map f xs) y
flat_member f [] x y h k = absurd (no_member x h)
flat_member f (z ∷ xs) x y h k = elim (member_cases z xs x h) [
  | inl same ↦ Contains-append_left (f z) (flat_map f xs) y (subst (λ w. Contains (f w) y) (sym same) k)
  | inr there ↦ Contains-append_right (f z) (flat_map f xs) y (flat_member f xs x y there k)
]

pub flat_cases : {X Y : Type 0} (f : X → List Y) (xs : List X) (y : Y) → Contains (flat_map f xs) y → (x : X) × Contains xs x × Contains (f x) y
flat_cases f [] y h = absurd (no_member y h)
flat_cases f (x ∷ xs) y h = elim (Contains-append_cases (f x) (flat_map f xs) y h) [
  | inl here ↦ (x, first_member x xs, here)
  | inr there ↦ let found = flat_cases f xs y there in (found.0, later_member x xs found.0 found.1, found.2)
]

pub flat_append : {X Y : Type 0} (f : X → List Y) (xs ys : List X) (y : Y) → Contains (flat_map f (xs ++ ys)) y → Contains (flat_map f xs) y ⊎ Contains (flat_map f ys) y
flat_append f xs ys y h =
    let found = flat_cases f (xs ++ ys) y h in
    elim (Contains-append_cases xs ys found.0 found.1) [
      | inl left ↦ inl (flat_member f xs found.0 y left found.2)
      | inr right ↦ inr (flat_member f ys found.0 y right found.2)
    ]

pub flat_left : {X Y : Type 0} (f : X → List Y) (xs ys : List X) (y : Y) → Contains (flat_map f xs) y → Contains (flat_map f (xs ++ ys)) y
flat_left f xs ys y h =
    let found = flat_cases f xs y h in
    flat_member f (xs ++ ys) found.0 y (Contains-append_left xs ys found.0 found.1) found.2

pub flat_right : {X Y : Type 0} (f : X → List Y) (xs ys : List X) (y : Y) → Contains (flat_map f ys) y → Contains (flat_map f (xs ++ ys)) y
flat_right f xs ys y h =
    let found = flat_cases f ys y h in
    flat_member f (xs ++ ys) found.0 y (Contains-append_right xs ys found.0 found.1) found.2

pub take_member : {X : Type 0} (n : ℕ) (xs : List X) (x : X) → Contains (take n xs) x → Contains xs x
take_member zero xs x h = absurd (no_member x h)
take_member (suc n) [] x h = h
take_member (suc n) (y ∷ xs) x h = elim (member_cases y (take n xs) x h) [
  | inl same ↦ subst (λ z. Contains (y ∷ xs) z) same (first_member y xs)
  | inr there ↦ later_member y xs x (take_member n xs x there)
]

pub drop_member : {X : Type 0} (n : ℕ) (xs : List X) (x : X) → Contains (drop n xs) x → Contains xs x
drop_member zero xs x h = h
drop_member (suc n) [] x h = h
drop_member (suc n) (y ∷ xs) x h = later_member y xs x (drop_member n xs x h)

pub filter_member : {X : Type 0} (test : X → Bool) (xs : List X) (x : X) → Contains (filter test xs) x → Contains xs x
filter_member test [] x h = h
filter_member {X = X} test (y ∷ xs) x h = by (test y) (filter_member test xs x) h
  where
    by : (b : Bool) → (Contains (filter test xs) x → Contains xs x) → Contains (cond b (y ∷ filter test xs) (filter test xs)) x → Contains (y ∷ xs) x
    by true rest h = elim (member_cases y (filter test xs) x h) [
      | inl same ↦ subst (λ z. Contains (y ∷ xs) z) same (first_member y xs)
      | inr there ↦ later_member y xs x (rest there)
    ]
    by false rest h = later_member y xs x (rest h)

pub filter_passes : {X : Type 0} (test : X → Bool) (xs : List X) (x : X) → Contains xs x → test x ≡ true → Contains (filter test xs) x
filter_passes test [] x h is = h
filter_passes {X = X} test (y ∷ xs) x h is = by (test y) refl (λ there. filter_passes test xs x there is) (member_cases y xs x h)
  where
    by : (b : Bool) → test y ≡ b → (Contains xs x → Contains (filter test xs) x) → (y ≡ x) ⊎ Contains xs x → Contains (cond b (y ∷ filter test xs) (filter test xs)) x
    by true e rest h = elim h [
      | inl same ↦ subst (λ z. Contains (y ∷ filter test xs) z) same (first_member y (filter test xs))
      | inr there ↦ later_member y (filter test xs) x (rest there)
    ]
    by false e rest h = elim h [
      | inl same ↦ let no : false ≡ true = sym e ∙ ap test same ∙ is in absurd (cc)
      | inr there ↦ rest there
    ]

-- ---- of lists that compare with others
pub all_member : {X : Type 0} (P : X → Type 0) (xs : List X) (x : X) → AllByRecursion P xs → Contains xs x → P x
all_member P [] x all h = absurd (no_member x h)
all_member P (y ∷ xs) x all h = elim (member_cases y xs x h) [
  | inl same ↦ subst P same all.0
  | inr there ↦ all_member P xs x all.1 there
]

pub all_from : {X : Type 0} (P : X → Type 0) (xs : List X) → ((x : X) → Contains xs x → P x) → AllByRecursion P xs
all_from P [] each = tt
all_from P (x ∷ xs) each = (each x (first_member x xs), all_from P xs (λ y h. each y (later_member x xs y h)))

-- of each of several lists
pub each_member : {X : Type 0} (P : X → Type 0) (lists : List (List X)) (x : X) → AllByRecursion (λ list. AllByRecursion P list) lists → Contains (flat_map (λ (list : List X). list) lists) x → P x
each_member P lists x all h =
    let at = flat_cases (λ list. list) lists x h in
    all_member P at.0 x (all_member (λ list. AllByRecursion P list) lists at.0 all at.1) at.2

pub among_member : {X : Type 0} (xs ys : List X) (x : X) → IsAmong xs ys → Contains xs x → Contains ys x
among_member xs ys x among h = Contains-permutation (xs ++ among.rest) ys x among.is (Contains-append_left xs among.rest x h)

pub prefix_member : {X : Type 0} (xs ys : List X) (x : X) → IsPrefixOf xs ys → Contains xs x → Contains ys x
prefix_member xs ys x prefix h = subst (λ l. Contains l x) (sym prefix.1) (Contains-append_left xs prefix.0 x h)

-- a list is cut at an element
pub split_at : {X : Type 0} (xs : List X) (x : X) → Contains xs x → (before : List X) × (after : List X) × (xs ≡ before ++ x ∷ after)
split_at [] x h = absurd (no_member x h)
split_at (y ∷ xs) x h = elim (member_cases y xs x h) [
  | inl same ↦ ([], xs, ap (λ z. z ∷ xs) same)
  | inr there ↦ let found = split_at xs x there in (y ∷ found.0, found.1, ap (λ l. y ∷ l) found.2)
]

-- the same list in front is no difference
pub cut_front : {X : Type 0} (xs ys zs : List X) → xs ++ ys ≡ xs ++ zs → ys ≡ zs
cut_front [] ys zs is = is
cut_front (x ∷ xs) ys zs is = cut_front xs ys zs (ap (drop 1) is)
