-- Degrees by the first text of each key.
use Rattle.std.proofs.Common.{◌≡◌, ◌∙◌, ℕ, ◌+◌, Bool, true, false, not, nat_eq, cond, List, [], ◌∷◌, map, refl, sym, ap, subst, arith, Option, None, Some}
use Rattle.std.specs.Prelude.{bytes_eq, option_map}
use Rattle.std.specs.List.{AllByRecursion, IsDistinct, filter, count_by}
use Rattle.std.proofs.lemmas.Bool.{eqb-true, eqb-false, eq-eqb}
use Rattle.std.proofs.lemmas.List.Sums.{sum_by-cons}
use Rattle.irl_offer.specs.Tuple.{Tuple}
use Rattle.irl_model.specs.Book.{Book, uniques}
use Rattle.irl_model.proofs.BookLaws.{unique_keys_once}
use Rattle.irl_events.specs.Links.{firsts_by_key, linked, degree, first_with, AreAlike}

-- every other key
abbrev others : ℕ → Tuple → Bool
others key offer = not (nat_eq offer.key key)

-- none has this key
abbrev NoneHas : ℕ → List Tuple → Type 0
NoneHas key offers = AllByRecursion (λ offer. nat_eq offer.key key ≡ false) offers

-- no key stands twice
abbrev pub StandOnce : List Tuple → Type 0
StandOnce [] = Unit {0}
StandOnce (x ∷ xs) = NoneHas x.key xs × StandOnce xs

-- how many lead to a domain
count : List ℕ → List Tuple → ℕ
count domain offers = count_by (λ target. bytes_eq domain target) (map (λ pair. pair.aux) offers)

abbrev text_with : ℕ → List Tuple → Option (List ℕ)
text_with key offers = option_map (λ offer. offer.aux) (first_with key offers)

turned : (a b : ℕ) → nat_eq a b ≡ false → nat_eq b a ≡ false
turned a b e = by_test (nat_eq b a) refl
  where
    by_test : (t : Bool) → nat_eq b a ≡ t → nat_eq b a ≡ false
    by_test false is = is
    by_test true is = absurd (eqb-false a b e (sym (eqb-true b a is)))

-- ---- lists without a key
filtered_none : (key : ℕ) (xs : List Tuple) → NoneHas key (filter (others key) xs)
filtered_none key [] = tt
filtered_none key (x ∷ xs) = by_test (nat_eq x.key key) refl (filtered_none key xs)
  where
    by_test : (t : Bool) → nat_eq x.key key ≡ t → NoneHas key (filter (others key) xs) → NoneHas key (filter (others key) (x ∷ xs))
    by_test true e rest = rw e rest
    by_test false e rest = rw e (e, rest)

none_filtered : (key other : ℕ) (xs : List Tuple) → NoneHas key xs → NoneHas key (filter (others other) xs)
none_filtered key other [] none = tt
none_filtered key other (x ∷ xs) none = by_test (nat_eq x.key other) refl (none_filtered key other xs none.1)
  where
    by_test : (t : Bool) → nat_eq x.key other ≡ t → NoneHas key (filter (others other) xs) → NoneHas key (filter (others other) (x ∷ xs))
    by_test true e rest = rw e rest
    by_test false e rest = rw e (none.0, rest)

once_filtered : (other : ℕ) (xs : List Tuple) → StandOnce xs → StandOnce (filter (others other) xs)
once_filtered other [] once = tt
once_filtered other (x ∷ xs) once = by_test (nat_eq x.key other) refl (once_filtered other xs once.1)
  where
    by_test : (t : Bool) → nat_eq x.key other ≡ t → StandOnce (filter (others other) xs) → StandOnce (filter (others other) (x ∷ xs))
    by_test true e rest = rw e rest
    by_test false e rest = rw e (none_filtered x.key other xs once.0, rest)

all_others : (key : ℕ) (xs : List Tuple) → NoneHas key xs → filter (others key) xs ≡ xs
all_others key [] none = refl
all_others key (x ∷ xs) none = rw none.0 (ap (λ (os : List Tuple). x ∷ os) (all_others key xs none.1))

-- ---- the first with a key
none_found : (key : ℕ) (xs : List Tuple) → NoneHas key xs → first_with key xs ≡ None
none_found key [] none = refl
none_found key (x ∷ xs) none = rw none.0 (none_found key xs none.1)

found_still : (key other : ℕ) (xs : List Tuple) → nat_eq key other ≡ false → first_with key (filter (others other) xs) ≡ first_with key xs
found_still key other [] differ = refl
found_still key other (x ∷ xs) differ = by_tests (nat_eq x.key other) (nat_eq x.key key) refl refl (found_still key other xs differ)
  where
    by_tests : (s t : Bool) → nat_eq x.key other ≡ s → nat_eq x.key key ≡ t → first_with key (filter (others other) xs) ≡ first_with key xs
        → first_with key (filter (others other) (x ∷ xs)) ≡ first_with key (x ∷ xs)
    by_tests true true e f rest = absurd (eqb-false key other differ (sym (eqb-true x.key key f) ∙ eqb-true x.key other e))
    by_tests true false e f rest = rw (e, f) rest
    by_tests false true e f rest = rw e (rw f refl)
    by_tests false false e f rest = rw e (rw f rest)

firsts_found : (key : ℕ) (xs : List Tuple) → first_with key (firsts_by_key xs) ≡ first_with key xs
firsts_found key [] = refl
firsts_found key (x ∷ xs) = by_test (nat_eq x.key key) refl (firsts_found key xs)
  where
    by_test : (t : Bool) → nat_eq x.key key ≡ t → first_with key (firsts_by_key xs) ≡ first_with key xs → first_with key (firsts_by_key (x ∷ xs)) ≡ first_with key (x ∷ xs)
    by_test true e rest = rw e refl
    by_test false e rest = rw e (found_still key x.key (firsts_by_key xs) (turned x.key key e) ∙ rest)

firsts_once : (xs : List Tuple) → StandOnce (firsts_by_key xs)
firsts_once [] = tt
firsts_once (x ∷ xs) = (filtered_none x.key (firsts_by_key xs), once_filtered x.key (firsts_by_key xs) (firsts_once xs))

-- where no key stands twice each is the first of its own
once_firsts : (xs : List Tuple) → StandOnce xs → firsts_by_key xs ≡ xs
once_firsts [] once = refl
once_firsts (x ∷ xs) once = ap (λ (os : List Tuple). x ∷ filter (others x.key) os) (once_firsts xs once.1) ∙ ap (λ (os : List Tuple). x ∷ os) (all_others x.key xs once.0)

-- ---- counts
count-cons : (domain : List ℕ) (x : Tuple) (xs : List Tuple) → count domain (x ∷ xs) ≡ cond (bytes_eq domain x.aux) 1 0 + count domain xs
unfolding count
count-cons domain x xs = sum_by-cons (λ (target : List ℕ). cond (bytes_eq domain target) 1 0) x.aux (map (λ (pair : Tuple). pair.aux) xs)

-- one with a key counts apart
count_apart : (domain : List ℕ) (key : ℕ) (text : List ℕ) (ys : List Tuple) → StandOnce ys → text_with key ys ≡ Some text
    → count domain ys ≡ cond (bytes_eq domain text) 1 0 + count domain (filter (others key) ys)
count_apart domain key text [] once is = cc
count_apart domain key text (y ∷ ys) once is = by_test (nat_eq y.key key) refl (count_apart domain key text ys once.1)
  where
    by_test : (t : Bool) → nat_eq y.key key ≡ t → (text_with key ys ≡ Some text → count domain ys ≡ cond (bytes_eq domain text) 1 0 + count domain (filter (others key) ys))
        → count domain (y ∷ ys) ≡ cond (bytes_eq domain text) 1 0 + count domain (filter (others key) (y ∷ ys))
    by_test true e later =
        let text_is : Some y.aux ≡ Some text = sym (ap (λ (t : Bool). option_map (λ (offer : Tuple). offer.aux) (cond t (Some y) (first_with key ys))) e) ∙ is in
        let same : y.aux ≡ text = cc in
        let left : filter (others key) ys ≡ ys = all_others key ys (subst (λ (k : ℕ). NoneHas k ys) (eqb-true y.key key e) once.0) in
        let kept : count domain (filter (others key) (y ∷ ys)) ≡ count domain ys = rw e (ap (count domain) left) in
        count-cons domain y ys ∙ ap (λ (t : List ℕ). cond (bytes_eq domain t) 1 0 + count domain ys) same ∙ ap (λ (n : ℕ). cond (bytes_eq domain text) 1 0 + n) (sym kept)
    by_test false e later =
        let text_is : text_with key ys ≡ Some text = sym (ap (λ (t : Bool). option_map (λ (offer : Tuple). offer.aux) (cond t (Some y) (first_with key ys))) e) ∙ is in
        let rest : count domain ys ≡ cond (bytes_eq domain text) 1 0 + count domain (filter (others key) ys) = later text_is in
        let kept : count domain (filter (others key) (y ∷ ys)) ≡ cond (bytes_eq domain y.aux) 1 0 + count domain (filter (others key) ys) = rw e (count-cons domain y (filter (others key) ys)) in
        let all : count domain (y ∷ ys) ≡ cond (bytes_eq domain y.aux) 1 0 + count domain ys = count-cons domain y ys in
        omega (arith, rest, kept, all)

none_alike : (ys : List Tuple) → AreAlike [] ys → ys ≡ []
none_alike [] alike = refl
none_alike (y ∷ ys) alike =
    let first : text_with y.key (y ∷ ys) ≡ Some y.aux = ap (λ (t : Bool). option_map (λ (offer : Tuple). offer.aux) (cond t (Some y) (first_with y.key ys))) (eq-eqb y.key y.key refl) in
    let no : None ≡ Some y.aux = alike y.key ∙ first in
    cc

same_counts : (domain : List ℕ) (xs ys : List Tuple) → StandOnce xs → StandOnce ys → AreAlike xs ys → count domain xs ≡ count domain ys
same_counts domain [] ys once_x once_y alike = ap (count domain) (sym (none_alike ys alike))
same_counts domain (x ∷ xs) ys once_x once_y alike =
    let here : text_with x.key (x ∷ xs) ≡ Some x.aux = ap (λ (t : Bool). option_map (λ (offer : Tuple). offer.aux) (cond t (Some x) (first_with x.key xs))) (eq-eqb x.key x.key refl) in
    let rest : count domain xs ≡ count domain (filter (others x.key) ys) = same_counts domain xs (filter (others x.key) ys) once_x.1 (once_filtered x.key ys once_y) still in
    count-cons domain x xs ∙ ap (λ (n : ℕ). cond (bytes_eq domain x.aux) 1 0 + n) rest ∙ sym (count_apart domain x.key x.aux ys once_y (sym (alike x.key) ∙ here))
  where
    text : Option Tuple → Option (List ℕ)
    text found = option_map (λ offer. offer.aux) found

    by_test : (key : ℕ) (t : Bool) → nat_eq x.key key ≡ t → text_with key xs ≡ text_with key (filter (others x.key) ys)
    by_test key true e =
        let same : x.key ≡ key = eqb-true x.key key e in
        let left : first_with key xs ≡ None = none_found key xs (subst (λ (k : ℕ). NoneHas k xs) same once_x.0) in
        let right : first_with key (filter (others x.key) ys) ≡ None = none_found key (filter (others x.key) ys)
        (subst (λ (k : ℕ). NoneHas k (filter (others x.key) ys)) same (filtered_none x.key ys)) in
        ap (option_map (λ (offer : Tuple). offer.aux)) (left ∙ sym right)
    by_test key false e =
        let left : text_with key (x ∷ xs) ≡ text_with key xs = ap (λ (t : Bool). option_map (λ (offer : Tuple). offer.aux) (cond t (Some x) (first_with key xs))) e in
        sym left ∙ alike key ∙ sym (ap (option_map (λ (offer : Tuple). offer.aux)) (found_still key x.key ys (turned x.key key e)))

    still : AreAlike xs (filter (others x.key) ys)
    still = λ key. by_test key (nat_eq x.key key) refl

-- ---- degrees
pub same_degrees : (xs ys : List Tuple) → AreAlike xs ys → (domain : List ℕ) → degree xs domain ≡ degree ys domain
unfolding count
same_degrees xs ys alike domain = same_counts domain (firsts_by_key xs) (firsts_by_key ys) (firsts_once xs) (firsts_once ys) (λ key.
    ap (option_map (λ (offer : Tuple). offer.aux)) (firsts_found key xs) ∙ alike key ∙ sym (ap (option_map (λ (offer : Tuple). offer.aux)) (firsts_found key ys)))

pub linked_once : (pairs : List Tuple) → StandOnce pairs → linked pairs ≡ map (λ pair. pair.aux) pairs
linked_once pairs once = ap (map (λ (pair : Tuple). pair.aux)) (once_firsts pairs once)

-- keys that differ stand once
keys_apart : (key : ℕ) (xs : List Tuple) → AllByRecursion (λ (k : ℕ). nat_eq key k ≡ false) (map (λ (pair : Tuple). pair.key) xs) → NoneHas key xs
keys_apart key [] apart = tt
keys_apart key (x ∷ xs) apart = (turned key x.key apart.0, keys_apart key xs apart.1)

pub stand_once : (xs : List Tuple) → IsDistinct nat_eq (map (λ pair. pair.key) xs) → StandOnce xs
unfolding IsDistinct
stand_once [] distinct = tt
stand_once (x ∷ xs) distinct = (keys_apart x.key xs distinct.0, stand_once xs distinct.1)

-- ---- unique offers
aux_of : (us : List (ℕ × Tuple)) → map (λ (pair : Tuple). pair.aux) (map (λ (p : ℕ × Tuple). p.1) us) ≡ map (λ (p : ℕ × Tuple). p.1.aux) us
aux_of [] = refl
aux_of (u ∷ us) = ap (λ (texts : List (List ℕ)). u.1.aux ∷ texts) (aux_of us)

key_of : (us : List (ℕ × Tuple)) → map (λ (pair : Tuple). pair.key) (map (λ (p : ℕ × Tuple). p.1) us) ≡ map (λ (p : ℕ × Tuple). p.1.key) us
key_of [] = refl
key_of (u ∷ us) = ap (λ (keys : List ℕ). u.1.key ∷ keys) (key_of us)

offers_once : (us : List (ℕ × Tuple)) → IsDistinct nat_eq (map (λ (p : ℕ × Tuple). p.1.key) us) → StandOnce (map (λ (p : ℕ × Tuple). p.1) us)
offers_once us distinct = stand_once (map (λ (p : ℕ × Tuple). p.1) us) (subst (IsDistinct nat_eq) (sym (key_of us)) distinct)

-- those of them that a test keeps
none_kept : (test : ℕ × Tuple → Bool) (key : ℕ) (us : List (ℕ × Tuple)) → NoneHas key (map (λ (p : ℕ × Tuple). p.1) us) → NoneHas key (map (λ (p : ℕ × Tuple). p.1) (filter test us))
none_kept test key [] none = tt
none_kept test key (u ∷ us) none = by_test (test u) refl (none_kept test key us none.1)
  where
    by_test : (t : Bool) → test u ≡ t → NoneHas key (map (λ (p : ℕ × Tuple). p.1) (filter test us)) → NoneHas key (map (λ (p : ℕ × Tuple). p.1) (filter test (u ∷ us)))
    by_test true e rest = rw e (none.0, rest)
    by_test false e rest = rw e rest

once_kept : (test : ℕ × Tuple → Bool) (us : List (ℕ × Tuple)) → StandOnce (map (λ (p : ℕ × Tuple). p.1) us) → StandOnce (map (λ (p : ℕ × Tuple). p.1) (filter test us))
once_kept test [] once = tt
once_kept test (u ∷ us) once = by_test (test u) refl (once_kept test us once.1)
  where
    by_test : (t : Bool) → test u ≡ t → StandOnce (map (λ (p : ℕ × Tuple). p.1) (filter test us)) → StandOnce (map (λ (p : ℕ × Tuple). p.1) (filter test (u ∷ us)))
    by_test true e rest = rw e (none_kept test u.1.key us once.0, rest)
    by_test false e rest = rw e rest

-- the unique pairs of a book that a test keeps lead each to its domain, once
pub linked_kept : (test : ℕ × Tuple → Bool) (book : Book) → linked (map (λ p. p.1) (filter test (uniques book))) ≡ map (λ p. p.1.aux) (filter test (uniques book))
linked_kept test book =
    linked_once (map (λ (p : ℕ × Tuple). p.1) (filter test (uniques book))) (once_kept test (uniques book) (offers_once (uniques book) (unique_keys_once book)))
    ∙ aux_of (filter test (uniques book))
