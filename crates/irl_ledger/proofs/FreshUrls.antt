-- The fresh URLs of a book: those that were judged unique from one number on and below another.
use Rattle.std.proofs.Common.{◌≡◌, ◌∙◌, Bool, true, false, cond, ℕ, zero, suc, ◌+◌, ◌-◌, ◌<◌, ◌≤◌, nat_eq, nat_le, nat_lt, ◌&&◌, List, [], ◌∷◌, ◌++◌, length, length-drop, length-take-le, map, max, take, drop, Option, Some, add-one, refl, sym, ap, subst, arith}
use Rattle.std.specs.Prelude.{find, option_map, slice_get, unwrap_or}
use Rattle.std.specs.List.{AllByRecursion, filter}
use Rattle.std.proofs.lemmas.Bool.{and_from, and_left, and_parts, and_right, cond-false, cond-true, eq-eqb, le-leb, le-ltb, leb-true, lt-leb, lt-ltb, ltb-true, ne_eqb}
use Rattle.std.proofs.lemmas.List.{drop-drop, map-append}
use Rattle.std.proofs.lemmas.Option.{get_or_from_slice_get, slice_get_within}
use Rattle.std.proofs.Math.Seq.{take-add, take-suc}
use Rattle.irl_offer.specs.declared.receipt.Judged.{Judged}
use Rattle.irl_offer.specs.Tuple.{Tuple}
use Rattle.irl_model.specs.Book.{Book, gone, is_unique, judged, uniques, uniques_from}
use Rattle.irl_model.proofs.Merges.{uniques_from-append}
use Rattle.irl_events.specs.Legal.{are_rising}
use Rattle.irl_beast.specs.declared.item.Item.{Item}
use Rattle.irl_beast.specs.Passes.{item_numbers}
use Rattle.irl_core.specs.States.{item_of, uniques_within, url_text}
use Rattle.irl_ledger.specs.Passing.{fresh_of, items_from}

-- ---- items of judged offers
abbrev item_by : (List ℕ → List ℕ) → ℕ × Tuple → Item
item_by domain p = record { number = p.0; pld = domain p.1.aux }

pub items_append : (domain : List ℕ → List ℕ) (n : ℕ) (xs ys : List Judged) → items_from domain n (xs ++ ys) ≡ items_from domain n xs ++ items_from domain (n + length xs) ys
items_append domain n xs ys = ap (map (item_by domain)) (uniques_from-append n xs ys) ∙ map-append (item_by domain) (uniques_from n xs) (uniques_from (n + length xs) ys)

-- those of the first so many, and of one more
pub items_one : (domain : List ℕ → List ℕ) (n k : ℕ) (js : List Judged) (one : Judged) → slice_get js k ≡ Some one
    → items_from domain n (take (k + 1) js) ≡ items_from domain n (take k js) ++ items_from domain (n + k) (one ∷ [])
items_one domain n k js one found =
    let within : k < length js = slice_get_within js k one found in
    let more : take (k + 1) js ≡ take k js ++ (one ∷ []) =
    ap (λ (m : ℕ). take m js) (add-one k) ∙ take-suc js k one within ∙ ap (λ (j : Judged). take k js ++ (j ∷ [])) (get_or_from_slice_get js k one one found) in
    ap (items_from domain n) more ∙ items_append domain n (take k js) (one ∷ [])
    ∙ ap (λ (m : ℕ). items_from domain n (take k js) ++ items_from domain (n + m) (one ∷ [])) (length-take-le k js (omega (arith, within)))

pub uniques-cons : (n : ℕ) (j : Judged) (js : List Judged) → uniques_from n (j ∷ js) ≡ cond (is_unique j.verdict) ((n, j.offer) ∷ uniques_from (n + 1) js) (uniques_from (n + 1) js)
uniques-cons n j js = by (is_unique j.verdict) refl
  where
    by : (b : Bool) → is_unique j.verdict ≡ b → uniques_from n (j ∷ js) ≡ cond b ((n, j.offer) ∷ uniques_from (n + 1) js) (uniques_from (n + 1) js)
    by true e = rw e refl
    by false e = rw e refl

-- those of a piece of judged offers, and of the piece behind it
pub pieces : (domain : List ℕ → List ℕ) (n i a b : ℕ) (js : List Judged) → i + a ≤ length js
    → items_from domain n (take a (drop i js)) ++ items_from domain (n + a) (take b (drop (i + a) js)) ≡ items_from domain n (take (a + b) (drop i js))
pieces domain n i a b js le =
    let rest : List Judged = drop i js in
    let long : length (take a rest) ≡ a = length-take-le a rest (omega (arith, le, length-drop i js)) in
    let both : take a rest ++ take b (drop (i + a) js) ≡ take (a + b) rest = ap (λ (l : List Judged). take a rest ++ take b l) (sym (drop-drop a i js)) ∙ sym (take-add a b rest) in
    ap (λ (m : ℕ). items_from domain n (take a rest) ++ items_from domain (n + m) (take b (drop (i + a) js))) (sym long)
    ∙ sym (items_append domain n (take a rest) (take b (drop (i + a) js))) ∙ ap (items_from domain n) both

-- ---- their numbers rise
pub rising_lower : (low from to : ℕ) (ns : List ℕ) → low ≤ from → are_rising from to ns ≡ true → are_rising low to ns ≡ true
rising_lower low from to [] le rising = refl
rising_lower low from to (n ∷ ns) le rising =
    let parts = and_parts (nat_le from n && nat_lt n to) (are_rising (n + 1) to ns) rising in
    let two = and_parts (nat_le from n) (nat_lt n to) parts.0 in
    let above : from ≤ n = leb-true from n two.0 in
    and_from (nat_le low n && nat_lt n to) (are_rising (n + 1) to ns) (and_from (nat_le low n) (nat_lt n to) (le-leb low n (omega (arith, le, above))) two.1) parts.1

pub rising_append : (from mid to : ℕ) (xs ys : List ℕ) → from ≤ mid → mid ≤ to → are_rising from mid xs ≡ true → are_rising mid to ys ≡ true → are_rising from to (xs ++ ys) ≡ true
rising_append from mid to [] ys le more first second = rising_lower from mid to ys le second
rising_append from mid to (n ∷ xs) ys le more first second =
    let parts = and_parts (nat_le from n && nat_lt n mid) (are_rising (n + 1) mid xs) first in
    let two = and_parts (nat_le from n) (nat_lt n mid) parts.0 in
    let below : n < mid = ltb-true n mid two.1 in
    and_from (nat_le from n && nat_lt n to) (are_rising (n + 1) to (xs ++ ys)) (and_from (nat_le from n) (nat_lt n to) two.0 (lt-ltb n to (omega (arith, below, more))))
    (rising_append (n + 1) mid to xs ys (omega (arith, below)) more parts.1 second)

-- where they lie below the greater of two numbers, they lie below the second
pub rising_to : (from to at : ℕ) (ns : List ℕ) → at ≤ max from to → to ≤ at → are_rising from at ns ≡ true → are_rising from to ns ≡ true
rising_to from to at [] le ge rising = refl
rising_to from to at (n ∷ ns) le ge rising =
    let parts = and_parts (nat_le from n && nat_lt n at) (are_rising (n + 1) at ns) rising in
    let two = and_parts (nat_le from n) (nat_lt n at) parts.0 in
    let same : at ≡ to = omega (arith, le, ge, leb-true from n two.0, ltb-true n at two.1) in
    subst (λ (m : ℕ). are_rising from m (n ∷ ns) ≡ true) same rising

pub items_rise : (domain : List ℕ → List ℕ) (n to : ℕ) (js : List Judged) → n + length js ≤ to → are_rising n to (item_numbers (items_from domain n js)) ≡ true
items_rise domain n to [] le = refl
items_rise domain n to (j ∷ js) le =
    ap (λ (us : List (ℕ × Tuple)). are_rising n to (item_numbers (map (item_by domain) us))) (uniques-cons n j js)
    ∙ by (is_unique j.verdict) (items_rise domain (n + 1) to js (omega (arith, le)))
  where
    by : (b : Bool) → are_rising (n + 1) to (item_numbers (items_from domain (n + 1) js)) ≡ true
        → are_rising n to (item_numbers (map (item_by domain) (cond b ((n, j.offer) ∷ uniques_from (n + 1) js) (uniques_from (n + 1) js)))) ≡ true
    by true rest = and_from (nat_le n n && nat_lt n to) (are_rising (n + 1) to (item_numbers (items_from domain (n + 1) js)))
        (and_from (nat_le n n) (nat_lt n to) (le-leb n n (omega arith)) (lt-ltb n to (omega (arith, le)))) rest
    by false rest = rising_lower n (n + 1) to (item_numbers (items_from domain (n + 1) js)) (omega arith) rest

-- ---- those within two numbers
abbrev is_within : ℕ → ℕ → ℕ × Tuple → Bool
is_within from to p = nat_le from p.0 && nat_lt p.0 to

pub none_behind : (n from to : ℕ) (js : List Judged) → to ≤ n → filter (is_within from to) (uniques_from n js) ≡ []
none_behind n from to [] le = refl
none_behind n from to (j ∷ js) le = ap (filter (is_within from to)) (uniques-cons n j js) ∙ by (is_unique j.verdict) (none_behind (n + 1) from to js (omega (arith, le)))
  where
    by : (b : Bool) → filter (is_within from to) (uniques_from (n + 1) js) ≡ []
        → filter (is_within from to) (cond b ((n, j.offer) ∷ uniques_from (n + 1) js) (uniques_from (n + 1) js)) ≡ []
    by true rest =
        cond-false (is_within from to (n, j.offer)) ((n, j.offer) ∷ filter (is_within from to) (uniques_from (n + 1) js)) (filter (is_within from to) (uniques_from (n + 1) js))
        (and_right (nat_le from n) (nat_lt n to) (le-ltb n to le)) ∙ rest
    by false rest = rest

none_taken : {X : Type 0} (m : ℕ) → take {A = X} m [] ≡ []
none_taken zero = refl
none_taken (suc m) = refl

kept_within : (n m from to : ℕ) (js : List Judged) → from ≤ n → to - n ≡ m → filter (is_within from to) (uniques_from n js) ≡ uniques_from n (take m js)
kept_within n m from to [] le e = ap (uniques_from n) (sym (none_taken {X = Judged} m))
kept_within n zero from to (j ∷ js) le e = none_behind n from to (j ∷ js) (omega (arith, e))
kept_within n (suc m) from to (j ∷ js) le e =
    ap (filter (is_within from to)) (uniques-cons n j js) ∙ by (is_unique j.verdict) (kept_within (n + 1) m from to js (omega (arith, le)) (omega (arith, e))) ∙ sym (uniques-cons n j (take m js))
  where
    by : (b : Bool) → filter (is_within from to) (uniques_from (n + 1) js) ≡ uniques_from (n + 1) (take m js)
        → filter (is_within from to) (cond b ((n, j.offer) ∷ uniques_from (n + 1) js) (uniques_from (n + 1) js))
        ≡ cond b ((n, j.offer) ∷ uniques_from (n + 1) (take m js)) (uniques_from (n + 1) (take m js))
    by true rest =
        cond-true (is_within from to (n, j.offer)) ((n, j.offer) ∷ filter (is_within from to) (uniques_from (n + 1) js)) (filter (is_within from to) (uniques_from (n + 1) js))
        (and_from (nat_le from n) (nat_lt n to) (le-leb from n le) (lt-ltb n to (omega (arith, e))))
        ∙ ap (λ (us : List (ℕ × Tuple)). (n, j.offer) ∷ us) rest
    by false rest = rest

pub within_from : (n k from to : ℕ) (js : List Judged) → n + k ≡ from → filter (is_within from to) (uniques_from n js) ≡ uniques_from from (take (to - from) (drop k js))
within_from n zero from to js e =
    let same : from ≡ n = omega (arith, e) in
    subst (λ (m : ℕ). filter (is_within from to) (uniques_from m js) ≡ uniques_from from (take (to - from) js)) same (kept_within from (to - from) from to js (omega arith) refl)
within_from n (suc k) from to [] e = ap (uniques_from from) (sym (none_taken {X = Judged} (to - from)))
within_from n (suc k) from to (j ∷ js) e = ap (filter (is_within from to)) (uniques-cons n j js) ∙ by (is_unique j.verdict) (within_from (n + 1) k from to js (omega (arith, e)))
  where
    by : (b : Bool) → filter (is_within from to) (uniques_from (n + 1) js) ≡ uniques_from from (take (to - from) (drop k js))
        → filter (is_within from to) (cond b ((n, j.offer) ∷ uniques_from (n + 1) js) (uniques_from (n + 1) js)) ≡ uniques_from from (take (to - from) (drop k js))
    by true rest =
        cond-false (is_within from to (n, j.offer)) ((n, j.offer) ∷ filter (is_within from to) (uniques_from (n + 1) js)) (filter (is_within from to) (uniques_from (n + 1) js))
        (and_left (nat_le from n) (nat_lt n to) (lt-leb from n (omega (arith, e)))) ∙ rest
    by false rest = rest

-- ---- each number has the text of its URL
abbrev pub has_its : ℕ → ℕ × Tuple → Bool
has_its n p = nat_eq p.0 n

pub high : (t n : ℕ) (js : List Judged) → t ≤ n → AllByRecursion (λ (p : ℕ × Tuple). t ≤ p.0) (uniques_from n js)
high t n [] le = tt
high t n (j ∷ js) le =
    subst (AllByRecursion (λ (p : ℕ × Tuple). t ≤ p.0)) (sym (uniques-cons n j js)) (by (is_unique j.verdict) (high t (n + 1) js (omega (arith, le))))
  where
    by : (b : Bool) → AllByRecursion (λ (p : ℕ × Tuple). t ≤ p.0) (uniques_from (n + 1) js)
        → AllByRecursion (λ (p : ℕ × Tuple). t ≤ p.0) (cond b ((n, j.offer) ∷ uniques_from (n + 1) js) (uniques_from (n + 1) js))
    by true rest = (le, rest)
    by false rest = rest

abbrev pub FindsIn : List (ℕ × Tuple) → ℕ × Tuple → Type 0
FindsIn us p = find (has_its p.0) us ≡ Some p

found_behind : (n : ℕ) (o : Tuple) (us vs : List (ℕ × Tuple)) → AllByRecursion (λ (p : ℕ × Tuple). n + 1 ≤ p.0) vs → AllByRecursion (FindsIn us) vs → AllByRecursion (FindsIn ((n, o) ∷ us)) vs
found_behind n o us [] above found = tt
found_behind n o us (v ∷ vs) above found =
    let over : n + 1 ≤ v.0 = above.0 in (
      cond-false (nat_eq n v.0) (Some (n, o)) (find (has_its v.0) us) (ne_eqb n v.0 (λ same. omega (arith, over, same))) ∙ found.0,
      found_behind n o us vs above.1 found.1,
    )

found_self : (n : ℕ) (js : List Judged) → AllByRecursion (FindsIn (uniques_from n js)) (uniques_from n js)
found_self n [] = tt
found_self n (j ∷ js) =
    subst (λ (us : List (ℕ × Tuple)). AllByRecursion (FindsIn us) us) (sym (uniques-cons n j js)) (by (is_unique j.verdict) (found_self (n + 1) js))
  where
    by : (b : Bool) → AllByRecursion (FindsIn (uniques_from (n + 1) js)) (uniques_from (n + 1) js)
        → AllByRecursion (FindsIn (cond b ((n, j.offer) ∷ uniques_from (n + 1) js) (uniques_from (n + 1) js))) (cond b ((n, j.offer) ∷ uniques_from (n + 1) js) (uniques_from (n + 1) js))
    by true rest = (
      cond-true (nat_eq n n) (Some (n, j.offer)) (find (has_its n) (uniques_from (n + 1) js)) (eq-eqb n n refl),
      found_behind n j.offer (uniques_from (n + 1) js) (uniques_from (n + 1) js) (high (n + 1) (n + 1) js (omega arith)) rest,
    )
    by false rest = rest

pub all_found : (book : Book) → AllByRecursion (FindsIn (uniques book)) (uniques book)
all_found book = found_self (gone book) (judged book)

pub all_filter : {X : Type 0} (P : X → Type 0) (test : X → Bool) (xs : List X) → AllByRecursion P xs → AllByRecursion P (filter test xs)
all_filter P test [] all = tt
all_filter P test (x ∷ xs) all = by (test x) (all_filter P test xs all.1)
  where
    by : (b : Bool) → AllByRecursion P (filter test xs) → AllByRecursion P (cond b (x ∷ filter test xs) (filter test xs))
    by true rest = (all.0, rest)
    by false rest = rest

items_of_found : (domain : List ℕ → List ℕ) (book : Book) (us : List (ℕ × Tuple)) → AllByRecursion (FindsIn (uniques book)) us
    → map (item_of domain book) (map (λ (p : ℕ × Tuple). p.0) us) ≡ map (item_by domain) us
items_of_found domain book [] found = refl
items_of_found domain book (u ∷ us) found =
    let text : url_text book u.0 ≡ u.1.aux = ap (λ (o : Option (ℕ × Tuple)). unwrap_or (option_map (λ p. p.1.aux) o) []) found.0 in
    ap (λ (t : List ℕ). let one : Item = record { number = u.0; pld = domain t } in one ∷ map (item_of domain book) (map (λ (p : ℕ × Tuple). p.0) us)) text
    ∙ ap (λ (is : List Item). item_by domain u ∷ is) (items_of_found domain book us found.1)

-- the fresh URLs are the items of what was judged from the one number on
pub fresh_items : (domain : List ℕ → List ℕ) (book : Book) (from to : ℕ) → gone book ≤ from
    → fresh_of domain book from to ≡ items_from domain from (take (to - from) (drop (from - gone book) (judged book)))
fresh_items domain book from to le =
    items_of_found domain book (uniques_within from to book) (all_filter (FindsIn (uniques book)) (is_within from to) (uniques book) (all_found book))
    ∙ ap (map (item_by domain)) (within_from (gone book) (from - gone book) from to (judged book) (omega (arith, le)))
