-- Counts over lists of texts: two lists that have each text as often have equal counts, and of a list in order as many elements
-- stand before one of them as its place says.
use Rattle.std.proofs.Common.{◌≡◌, ◌≢◌, ◌∙◌, ℕ, zero, suc, ◌+◌, ◌<◌, ◌≤◌, Bool, true, false, List, [], ◌∷◌, map, length, get_or, cond, refl, sym, ap, arith, zero-add}
use Rattle.std.proofs.lemmas.Bool.{false≢true}
use Rattle.std.specs.Prelude.{bytes_eq, count_by, nat_eq}
use Rattle.std.specs.List.{AllByRecursion}
use Rattle.std.proofs.lemmas.Bool.{eqb-true, eq-eqb}
use Rattle.std.proofs.lemmas.List.Sums.{sum_by-cons}
use Rattle.std.proofs.lemmas.Slice.Eq.{bytes_eq-Decides}
use Rattle.irl_star.specs.Budgets.{degree, domains}

abbrev pub bit : Bool → ℕ
bit b = cond b 1 0

-- one for each number but 0
abbrev pub once : ℕ → ℕ
once zero = 0
once (suc n) = 1

itself : (x : List ℕ) → bytes_eq x x ≡ true
itself x = (bytes_eq-Decides x x).1 refl

pub degree-cons : (x : List ℕ) (xs : List (List ℕ)) (z : List ℕ) → degree (x ∷ xs) z ≡ bit (bytes_eq z x) + degree xs z
unfolding degree
degree-cons x xs z = sum_by-cons (λ y. cond (bytes_eq z y) 1 0) x xs

pub degree-nil : (z : List ℕ) → degree [] z ≡ 0
unfolding degree
degree-nil z = refl

pub count_by-cons : {X : Type 0} (q : X → Bool) (x : X) (xs : List X) → count_by q (x ∷ xs) ≡ bit (q x) + count_by q xs
count_by-cons q x xs = sum_by-cons (λ y. cond (q y) 1 0) x xs

-- the texts without the first one that is x
without : List ℕ → List (List ℕ) → List (List ℕ)
without x [] = []
without x (y ∷ ys) = cond (bytes_eq x y) ys (y ∷ without x ys)

taken_out : (q : List ℕ → Bool) (x y : List ℕ) (ys : List (List ℕ)) (b : Bool) → bytes_eq x y ≡ b → 0 < degree (y ∷ ys) x → (0 < degree ys x → count_by q ys ≡ bit (q x) + count_by q (without x ys))
    → count_by q (y ∷ ys) ≡ bit (q x) + count_by q (cond b ys (y ∷ without x ys))
taken_out q x y ys true e some later =
    count_by-cons q y ys ∙ ap (λ t. bit (q t) + count_by q ys) (sym ((bytes_eq-Decides x y).0 e))
taken_out q x y ys false e some later =
    let at : degree (y ∷ ys) x ≡ 0 + degree ys x = degree-cons y ys x ∙ ap (λ b. bit b + degree ys x) e in
    let rest : count_by q ys ≡ bit (q x) + count_by q (without x ys) = later (omega arith) in
    let front : count_by q (y ∷ ys) ≡ bit (q y) + count_by q ys = count_by-cons q y ys in
    let back : count_by q (y ∷ without x ys) ≡ bit (q y) + count_by q (without x ys) = count_by-cons q y (without x ys) in
    omega arith

count-without : (q : List ℕ → Bool) (x : List ℕ) (ys : List (List ℕ)) → 0 < degree ys x → count_by q ys ≡ bit (q x) + count_by q (without x ys)
unfolding without
count-without q x [] some = absurd (let none : degree [] x ≡ 0 = degree-nil x in omega arith)
count-without q x (y ∷ ys) some = taken_out q x y ys (bytes_eq x y) refl some (count-without q x ys)

no_texts : (ys : List (List ℕ)) → ((z : List ℕ) → degree [] z ≡ degree ys z) → ys ≡ []
no_texts [] h = refl
no_texts (y ∷ ys) h = absurd (
    let e : degree (y ∷ ys) y ≡ 1 + degree ys y = degree-cons y ys y ∙ ap (λ b. bit b + degree ys y) (itself y) in
    let f : degree [] y ≡ degree (y ∷ ys) y = h y in
    let none : degree [] y ≡ 0 = degree-nil y in
    omega arith)

-- two lists that have each text as often have equal counts
pub same_counts : (p : List ℕ → Bool) (xs ys : List (List ℕ)) → ((z : List ℕ) → degree xs z ≡ degree ys z) → count_by p xs ≡ count_by p ys
unfolding degree
same_counts p [] ys h = ap (count_by p) (sym (no_texts ys h))
same_counts p (x ∷ xs) ys h =
    let e : degree (x ∷ xs) x ≡ 1 + degree xs x = degree-cons x xs x ∙ ap (λ b. bit b + degree xs x) (itself x) in
    let f : degree (x ∷ xs) x ≡ degree ys x = h x in
    let some : 0 < degree ys x = omega arith in
    let later : (z : List ℕ) → degree xs z ≡ degree (without x ys) z = λ z.
    let a : degree (x ∷ xs) z ≡ bit (bytes_eq z x) + degree xs z = degree-cons x xs z in
    let b : degree (x ∷ xs) z ≡ degree ys z = h z in
    let d : degree ys z ≡ bit (bytes_eq z x) + degree (without x ys) z = count-without (λ y. bytes_eq z y) x ys some in
    omega arith in
    count_by-cons p x xs ∙ ap (λ n. bit (p x) + n) (same_counts p xs (without x ys) later) ∙ sym (count-without p x ys some)

once_positive : (n : ℕ) → n ≢ 0 → once n ≡ once (1 + n)
once_positive zero some = absurd (some refl)
once_positive (suc n) some = sym (ap once (let e : 1 + suc n ≡ suc (suc n) = omega arith in e))

new_domain : (x z : List ℕ) (xs : List (List ℕ)) (b c : Bool) → nat_eq (degree xs x) 0 ≡ b → bytes_eq z x ≡ c → degree (domains xs) z ≡ once (degree xs z)
    → degree (cond b (x ∷ domains xs) (domains xs)) z ≡ once (bit c + degree xs z)
new_domain x z xs true true e f later =
    let none : degree xs z ≡ 0 = ap (degree xs) ((bytes_eq-Decides z x).0 f) ∙ eqb-true (degree xs x) 0 e in
    degree-cons x (domains xs) z ∙ ap (λ b. bit b + degree (domains xs) z) f ∙ ap (λ n. 1 + n) later ∙ ap (λ n. 1 + once n) none ∙ ap (λ n. once (1 + n)) (sym none)
new_domain x z xs true false e f later =
    degree-cons x (domains xs) z ∙ ap (λ b. bit b + degree (domains xs) z) f ∙ zero-add _ ∙ later ∙ ap once (sym (zero-add _))
new_domain x z xs false true e f later = later ∙ once_positive (degree xs z) (λ none.
    false≢true (sym e ∙ eq-eqb (degree xs x) 0 (ap (degree xs) (sym ((bytes_eq-Decides z x).0 f)) ∙ none)))
new_domain x z xs false false e f later = later ∙ ap once (sym (zero-add _))

-- each domain of the adds stands once among the domains
pub degree-domains : (adds : List (List ℕ)) (z : List ℕ) → degree (domains adds) z ≡ once (degree adds z)
unfolding domains
degree-domains [] z = degree-nil z ∙ ap once (sym (degree-nil z))
degree-domains (x ∷ xs) z =
    new_domain x z xs (nat_eq (degree xs x) 0) (bytes_eq z x) refl refl (degree-domains xs z) ∙ ap once (sym (degree-cons x xs z))

-- as many elements pass as stand before the first that doesn't, where none behind it does
pub count_front : {X : Type 0} (q : X → Bool) (xs : List X) (i : ℕ) (d : X) → i ≤ length xs → ((k : ℕ) → k < i → q (get_or xs k d) ≡ true)
    → ((k : ℕ) → i ≤ k → k < length xs → q (get_or xs k d) ≡ false) → count_by q xs ≡ i
count_front q [] zero d within front back = refl
count_front q [] (suc i) d within front back = absurd (omega arith)
count_front q (x ∷ xs) zero d within front back =
    count_by-cons q x xs ∙ ap (λ b. bit b + count_by q xs) (back 0 (omega arith) (omega arith))
    ∙ ap (λ n. 0 + n) (count_front q xs zero d (omega arith) (λ k lt. absurd (omega arith)) (λ k le lt. back (suc k) (omega arith) (omega arith)))
count_front q (x ∷ xs) (suc i) d within front back =
    let e : count_by q xs ≡ i = count_front q xs i d (omega arith) (λ k lt. front (suc k) (omega arith)) (λ k le lt. back (suc k) (omega arith) (omega arith)) in
    let f : count_by q (x ∷ xs) ≡ 1 + count_by q xs = count_by-cons q x xs ∙ ap (λ b. bit b + count_by q xs) (front 0 (omega arith)) in
    omega arith

pub count_by-map : {X Y : Type 0} (q : Y → Bool) (f : X → Y) (xs : List X) → count_by q (map f xs) ≡ count_by (λ x. q (f x)) xs
count_by-map q f [] = refl
count_by-map q f (x ∷ xs) =
    count_by-cons q (f x) (map f xs) ∙ ap (λ n. bit (q (f x)) + n) (count_by-map q f xs) ∙ sym (count_by-cons (λ y. q (f y)) x xs)

-- tests that agree at each element count the same
pub same_tests : {X : Type 0} (p q : X → Bool) (xs : List X) → ((k : ℕ) (d : X) → k < length xs → p (get_or xs k d) ≡ q (get_or xs k d)) → count_by p xs ≡ count_by q xs
same_tests p q [] h = refl
same_tests p q (x ∷ xs) h =
    let later : count_by p xs ≡ count_by q xs = same_tests p q xs (λ k d lt. h (suc k) d (omega arith)) in
    let first : p x ≡ q x = h 0 x (omega arith) in
    count_by-cons p x xs ∙ ap (λ b. bit b + count_by p xs) first ∙ ap (λ n. bit (q x) + n) later ∙ sym (count_by-cons q x xs)

-- a text that none of these is stands nowhere among them
pub none_left : (z : List ℕ) (xs : List (List ℕ)) → AllByRecursion (λ y. bytes_eq z y ≡ false) xs → degree xs z ≡ 0
none_left z [] h = degree-nil z
none_left z (x ∷ xs) h =
    degree-cons x xs z ∙ ap (λ b. bit b + degree xs z) h.0 ∙ ap (λ n. 0 + n) (none_left z xs h.1)
