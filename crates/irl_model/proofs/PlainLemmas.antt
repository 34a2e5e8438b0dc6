-- What the plain programs put together, part by part.
use Rattle.std.proofs.Common.{◌≡◌, ◌∙◌, ℕ, zero, suc, ◌+◌, ◌-◌, ◌<◌, ◌≤◌, min, List, [], ◌∷◌, ◌++◌, length, take, drop, get_or, refl, sym, ap, arith, append_assoc, length-take}
use Rattle.std.specs.Prelude.{replicate, sum}
use Rattle.std.proofs.lemmas.List.{append-nil, take_min, drop_min}
use Rattle.std.proofs.lemmas.List.Sums.{sum_by-cons}
use Rattle.irl_offer.specs.Tuple.{Tuple}
use Rattle.irl_model.specs.Judging.{KeyMap}
use Rattle.irl_model.specs.Book.{Book, IsBook, stretch, stretches, last_cut}
use Rattle.irl_model.specs.Plain.{whole_book}
use Rattle.irl_model.proofs.Stretches.{nil_take}
use Rattle.irl_model.proofs.FrontLaws.{stretches-append}

less_zero : (n : ℕ) → n - 0 ≡ n
less_zero n = omega arith

-- a part of a list
part : (xs : List Tuple) (from to : ℕ) → take (to - from) (drop from xs) ≡ drop from (take to xs)
part xs zero to = ap (λ (n : ℕ). take n xs) (less_zero to)
part [] (suc from) to = rw (nil_take to, nil_take (to - suc from)) refl
part (x ∷ xs) (suc from) zero = let none : zero - suc from ≡ zero = omega arith in ap (λ (n : ℕ). take n (drop from xs)) none
part (x ∷ xs) (suc from) (suc to) = let same : suc to - suc from ≡ to - from = omega arith in ap (λ (n : ℕ). take n (drop from xs)) same ∙ part xs from to

-- the same, where a number past the list's end is taken for its end
pub part_clamped : (xs : List Tuple) (from to end start : ℕ) → end ≡ min to (length xs) → start ≡ min from end → take (end - start) (drop start xs) ≡ drop from (take to xs)
part_clamped xs from to end start e s =
    let long : start ≡ min from (length (take to xs)) = s ∙ ap (min from) (e ∙ sym (length-take to xs)) in
    part xs start end ∙ ap (λ (n : ℕ). drop start (take n xs)) e ∙ ap (drop start) (take_min to xs)
    ∙ ap (λ (n : ℕ). drop n (take to xs)) long ∙ drop_min from (take to xs)

-- no list, no offer
stretch_nil : (firsts froms tos : List ℕ) → stretch firsts froms tos [] ≡ []
stretch_nil [] froms tos = refl
stretch_nil (first ∷ firsts) [] tos = refl
stretch_nil (first ∷ firsts) (from ∷ froms) [] = refl
stretch_nil (first ∷ firsts) (from ∷ froms) (to ∷ tos) = refl

-- one bucket more of a stretch
pub stretch_more : (n b : ℕ) (froms tos : List ℕ) (lists : List (List Tuple)) → b < n → b < length froms → b < length tos → b < length lists
    → stretch (replicate n 0) froms tos (take (b + 1) lists) ≡ stretch (replicate n 0) froms tos (take b lists) ++ drop (get_or froms b 0) (take (get_or tos b 0) (get_or lists b []))
stretch_more zero b froms tos lists i j k l = absurd (omega arith)
stretch_more (suc n) b [] tos lists i j k l = absurd (omega arith)
stretch_more (suc n) b (from ∷ froms) [] lists i j k l = absurd (omega arith)
stretch_more (suc n) b (from ∷ froms) (to ∷ tos) [] i j k l = absurd (omega arith)
stretch_more (suc n) zero (from ∷ froms) (to ∷ tos) (list ∷ lists) i j k l =
    ap (λ (os : List Tuple). drop (from - 0) (take (to - 0) list) ++ os) (stretch_nil (replicate n 0) froms tos) ∙ append-nil (drop (from - 0) (take (to - 0) list))
    ∙ ap (λ (m : ℕ). drop m (take (to - 0) list)) (less_zero from) ∙ ap (λ (m : ℕ). drop from (take m list)) (less_zero to)
stretch_more (suc n) (suc b) (from ∷ froms) (to ∷ tos) (list ∷ lists) i j k l =
    let next : suc b + 1 ≡ suc (b + 1) = omega arith in
    let rest = stretch_more n b froms tos lists (omega arith) (omega arith) (omega arith) (omega arith) in
    let head = drop (from - 0) (take (to - 0) list) in
    ap (λ (m : ℕ). stretch (replicate (suc n) 0) (from ∷ froms) (to ∷ tos) (take m (list ∷ lists))) next
    ∙ ap (λ (os : List Tuple). head ++ os) rest
    ∙ sym (append_assoc head (stretch (replicate n 0) froms tos (take b lists)) (drop (get_or froms b 0) (take (get_or tos b 0) (get_or lists b []))))

-- a stretch ends where one of its lists does
pub stretch_ends : (firsts froms tos : List ℕ) (lists : List (List Tuple)) (count : ℕ) → min (min (length lists) (length froms)) (length tos) ≤ count
    → stretch firsts froms tos (take count lists) ≡ stretch firsts froms tos lists
stretch_ends [] froms tos lists count le = refl
stretch_ends (first ∷ firsts) [] tos lists count le = refl
stretch_ends (first ∷ firsts) (from ∷ froms) [] lists count le = refl
stretch_ends (first ∷ firsts) (from ∷ froms) (to ∷ tos) [] zero le = refl
stretch_ends (first ∷ firsts) (from ∷ froms) (to ∷ tos) [] (suc count) le = refl
stretch_ends (first ∷ firsts) (from ∷ froms) (to ∷ tos) (list ∷ lists) zero le = absurd (omega arith)
stretch_ends (first ∷ firsts) (from ∷ froms) (to ∷ tos) (list ∷ lists) (suc count) le =
    ap (λ (os : List Tuple). drop (from - first) (take (to - first) list) ++ os) (stretch_ends firsts froms tos lists count (omega arith))

-- and so do stretches, at the number of the buckets
stretch_buckets : (n : ℕ) (froms tos : List ℕ) (lists : List (List Tuple)) → stretch (replicate n 0) froms tos (take n lists) ≡ stretch (replicate n 0) froms tos lists
stretch_buckets zero froms tos lists = refl
stretch_buckets (suc n) [] tos lists = refl
stretch_buckets (suc n) (from ∷ froms) [] lists = refl
stretch_buckets (suc n) (from ∷ froms) (to ∷ tos) [] = refl
stretch_buckets (suc n) (from ∷ froms) (to ∷ tos) (list ∷ lists) = ap (λ (os : List Tuple). drop (from - 0) (take (to - 0) list) ++ os) (stretch_buckets n froms tos lists)

pub stretches_buckets : (n : ℕ) (from : List ℕ) (cuts : List (List ℕ)) (lists : List (List Tuple)) → stretches (replicate n 0) from cuts (take n lists) ≡ stretches (replicate n 0) from cuts lists
stretches_buckets n from [] lists = refl
stretches_buckets n from (cut ∷ cuts) lists =
    ap (λ (os : List Tuple). os ++ stretches (replicate n 0) cut cuts (take n lists)) (stretch_buckets n from cut lists)
    ∙ ap (λ (os : List Tuple). stretch (replicate n 0) from cut lists ++ os) (stretches_buckets n cut cuts lists)

-- one cut more
pub stretches_more : (firsts from : List ℕ) (cuts : List (List ℕ)) (cut : List ℕ) (lists : List (List Tuple))
    → stretches firsts from (cuts ++ cut ∷ []) lists ≡ stretches firsts from cuts lists ++ stretch firsts (last_cut from cuts) cut lists
stretches_more firsts from cuts cut lists =
    stretches-append firsts from cuts (cut ∷ []) lists
    ∙ ap (λ (os : List Tuple). stretches firsts from cuts lists ++ os) (append-nil (stretch firsts (last_cut from cuts) cut lists))

pub no_numbers : (n : ℕ) → sum (replicate n 0) ≡ 0
no_numbers zero = refl
no_numbers (suc n) = sum_by-cons (λ (k : ℕ). k) 0 (replicate n 0) ∙ (omega (arith, no_numbers n))

-- a book that has dropped nothing is the one of its lists and its cuts
pub whole : (book : Book) → IsBook book → book.dropped ≡ 0 → whole_book book.buckets book.rule book.lists book.cuts ≡ book
whole book is all =
    let none = is.none all in
    ap (λ (base : KeyMap). record (whole_book book.buckets book.rule book.lists book.cuts) { base = base }) (sym none.0)
    ∙ ap (λ (firsts : List ℕ). record book { dropped = 0; firsts = firsts }) (sym none.1)
    ∙ ap (λ (n : ℕ). record book { dropped = n }) (sym all)
