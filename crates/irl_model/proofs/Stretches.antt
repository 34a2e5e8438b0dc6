-- Of the judged offers those of one bucket are the first of its list.
use Rattle.std.proofs.Common.{◌≡◌, ◌∙◌, ℕ, zero, suc, ◌+◌, ◌-◌, ◌<◌, ◌≤◌, nat_eq, Bool, true, false, List, [], ◌∷◌, ◌++◌, length, take, drop, get_or, refl, sym, ap, subst, arith, length-take}
use Rattle.std.proofs.lemmas.Bool.Decides.{nat_tests}
use Rattle.std.proofs.lemmas.List.{append-nil, drop_all}
use Rattle.std.proofs.lemmas.List.Elements.{filter-append}
use Rattle.std.specs.List.{filter, AllByRecursion}
use Rattle.irl_offer.specs.Tuple.{Tuple}
use Rattle.irl_offer.specs.Buckets.{bucket_of}
use Rattle.irl_model.specs.Book.{AreOfBuckets, IsBelow, AreCuts, last_cut, list_lengths, stretch, stretches, Book, IsBook, judged_offers, judged_cut, lengths_of}

pub nil_take : (n : ℕ) → take {A = Tuple} n [] ≡ []
nil_take zero = refl
nil_take (suc n) = refl

pub nil_drop : (n : ℕ) → drop {A = Tuple} n [] ≡ []
nil_drop zero = refl
nil_drop (suc n) = refl

-- one part of a list, and the next
pub parts_join : (xs : List Tuple) (a b c : ℕ) → a ≤ b → b ≤ c → drop a (take b xs) ++ drop b (take c xs) ≡ drop a (take c xs)
parts_join [] a b c le le' = rw (nil_take b, nil_take c, nil_drop a, nil_drop b) refl
parts_join (x ∷ xs) zero zero c le le' = refl
parts_join (x ∷ xs) zero (suc b) (suc c) le le' = ap (λ (ys : List Tuple). x ∷ ys) (parts_join xs zero b c (omega arith) (omega arith))
parts_join (x ∷ xs) (suc a) (suc b) (suc c) le le' = parts_join xs a b c (omega arith) (omega arith)
parts_join (x ∷ xs) (suc a) zero c le le' = absurd (omega arith)
parts_join (x ∷ xs) a (suc b) zero le le' = absurd (omega arith)

module _ (buckets b : ℕ) where
  abbrev pub here : Tuple → Bool
  here offer = nat_eq (bucket_of buckets offer.key) b

  -- offers of another bucket, and of this one
  none_here : (c : ℕ) (offers : List Tuple) → nat_eq c b ≡ false → AllByRecursion (λ (o : Tuple). bucket_of buckets o.key ≡ c) offers → filter here offers ≡ []
  none_here c [] ne each = refl
  none_here c (o ∷ offers) ne each = rw (each.0, ne) (none_here c offers ne each.1)

  all_here : (offers : List Tuple) → AllByRecursion (λ (o : Tuple). bucket_of buckets o.key ≡ b) offers → filter here offers ≡ offers
  all_here [] each = refl
  all_here (o ∷ offers) each =
      let test : nat_eq b b ≡ true = grind (arith, nat_tests) in
      rw (each.0, test) (ap (λ (os : List Tuple). o ∷ os) (all_here offers each.1))

  each_take : (P : Tuple → Type 0) (n : ℕ) (offers : List Tuple) → AllByRecursion P offers → AllByRecursion P (take n offers)
  each_take P zero offers each = tt
  each_take P (suc n) [] each = tt
  each_take P (suc n) (o ∷ offers) each = (each.0, each_take P n offers each.1)

  each_drop : (P : Tuple → Type 0) (n : ℕ) (offers : List Tuple) → AllByRecursion P offers → AllByRecursion P (drop n offers)
  each_drop P zero offers each = each
  each_drop P (suc n) [] each = tt
  each_drop P (suc n) (o ∷ offers) each = each_drop P n offers each.1

  each_part : (c a n : ℕ) (offers : List Tuple) → AllByRecursion (λ (o : Tuple). bucket_of buckets o.key ≡ c) offers
      → AllByRecursion (λ (o : Tuple). bucket_of buckets o.key ≡ c) (drop a (take n offers))
  each_part c a n offers each = each_drop _ a (take n offers) (each_take _ n offers each)

  -- of a stretch that begins with a later bucket none is here
  later_none : (c : ℕ) (firsts froms tos : List ℕ) (lists : List (List Tuple)) → b < c → AreOfBuckets buckets c lists → filter here (stretch firsts froms tos lists) ≡ []
  later_none c [] froms tos lists lt each = refl
  later_none c (first ∷ firsts) [] tos lists lt each = refl
  later_none c (first ∷ firsts) (from ∷ froms) [] lists lt each = refl
  later_none c (first ∷ firsts) (from ∷ froms) (to ∷ tos) [] lt each = refl
  later_none c (first ∷ firsts) (from ∷ froms) (to ∷ tos) (list ∷ lists) lt each =
      let ne : nat_eq c b ≡ false = grind (arith, nat_tests) in
      filter-append here (drop (from - first) (take (to - first) list)) (stretch firsts froms tos lists)
      ∙ ap (λ (os : List Tuple). os ++ filter here (stretch firsts froms tos lists)) (none_here c _ ne (each_part c (from - first) (to - first) list each.0))
      ∙ later_none (c + 1) firsts froms tos lists (omega arith) each.1

  -- of a stretch those are here that the bucket's list has there
  pub stretch_here : (i c : ℕ) (firsts froms tos : List ℕ) (lists : List (List Tuple)) → b ≡ c + i → i < length firsts → i < length froms → i < length tos → i < length lists
      → AreOfBuckets buckets c lists
      → filter here (stretch firsts froms tos lists) ≡ drop (get_or froms i 0 - get_or firsts i 0) (take (get_or tos i 0 - get_or firsts i 0) (get_or lists i []))
  stretch_here i c [] froms tos lists is l m n o each = absurd (omega arith)
  stretch_here i c (first ∷ firsts) [] tos lists is l m n o each = absurd (omega arith)
  stretch_here i c (first ∷ firsts) (from ∷ froms) [] lists is l m n o each = absurd (omega arith)
  stretch_here i c (first ∷ firsts) (from ∷ froms) (to ∷ tos) [] is l m n o each = absurd (omega arith)
  stretch_here zero c (first ∷ firsts) (from ∷ froms) (to ∷ tos) (list ∷ lists) is l m n o each =
      let same : c ≡ b = omega arith in
      let mine : AllByRecursion (λ (t : Tuple). bucket_of buckets t.key ≡ b) list = subst (λ (k : ℕ). AllByRecursion (λ (t : Tuple). bucket_of buckets t.key ≡ k) list) same each.0 in
      filter-append here (drop (from - first) (take (to - first) list)) (stretch firsts froms tos lists)
      ∙ ap (λ (os : List Tuple). os ++ filter here (stretch firsts froms tos lists)) (all_here _ (each_part b (from - first) (to - first) list mine))
      ∙ ap (λ (os : List Tuple). drop (from - first) (take (to - first) list) ++ os) (later_none (c + 1) firsts froms tos lists (omega arith) each.1)
      ∙ append-nil (drop (from - first) (take (to - first) list))
  stretch_here (suc i) c (first ∷ firsts) (from ∷ froms) (to ∷ tos) (list ∷ lists) is l m n o each =
      let ne : nat_eq c b ≡ false = grind (arith, nat_tests) in
      filter-append here (drop (from - first) (take (to - first) list)) (stretch firsts froms tos lists)
      ∙ ap (λ (os : List Tuple). os ++ filter here (stretch firsts froms tos lists)) (none_here c _ ne (each_part c (from - first) (to - first) list each.0))
      ∙ stretch_here i (c + 1) firsts froms tos lists (omega arith) (omega arith) (omega arith) (omega arith) (omega arith) each.1

-- ---- cuts
pub below_at : (xs ys : List ℕ) (i : ℕ) → IsBelow xs ys → get_or xs i 0 ≤ get_or ys i 0
below_at [] [] i below = omega arith
below_at [] (y ∷ ys) i below = absurd below
below_at (x ∷ xs) [] i below = absurd below
below_at (x ∷ xs) (y ∷ ys) zero below = below.0
below_at (x ∷ xs) (y ∷ ys) (suc i) below = below_at xs ys i below.1

pub below_long : (xs ys : List ℕ) → IsBelow xs ys → length xs ≡ length ys
below_long [] [] below = refl
below_long [] (y ∷ ys) below = absurd below
below_long (x ∷ xs) [] below = absurd below
below_long (x ∷ xs) (y ∷ ys) below = ap (λ (n : ℕ). suc n) (below_long xs ys below.1)

pub below_same : (xs : List ℕ) → IsBelow xs xs
below_same [] = tt
below_same (x ∷ xs) = (omega arith, below_same xs)

pub below_both : (xs ys zs : List ℕ) → IsBelow xs ys → IsBelow ys zs → IsBelow xs zs
below_both [] [] [] h k = tt
below_both [] [] (z ∷ zs) h k = absurd k
below_both [] (y ∷ ys) zs h k = absurd h
below_both (x ∷ xs) [] zs h k = absurd h
below_both (x ∷ xs) (y ∷ ys) [] h k = absurd k
below_both (x ∷ xs) (y ∷ ys) (z ∷ zs) h k = (omega (arith, h.0, k.0), below_both xs ys zs h.1 k.1)

-- the last cut is at or above the first, and at or below the end
pub last_above : (from end : List ℕ) (cuts : List (List ℕ)) → AreCuts from cuts end → IsBelow from (last_cut from cuts) × IsBelow (last_cut from cuts) end
last_above from end [] cuts = (below_same from, cuts)
last_above from end (cut ∷ rest) cuts = let later = last_above cut end rest cuts.2 in (below_both from cut (last_cut cut rest) cuts.0 later.0, later.1)

module _ (buckets b : ℕ) where
  -- what was judged of a bucket's list from one cut to the last
  pub stretches_here : (firsts from end : List ℕ) (cuts : List (List ℕ)) (lists : List (List Tuple)) → b < length lists → length firsts ≡ length lists → length from ≡ length lists
      → AreOfBuckets buckets 0 lists → IsBelow firsts from → AreCuts from cuts end
      → filter (here buckets b) (stretches firsts from cuts lists) ≡ drop (get_or from b 0 - get_or firsts b 0) (take (get_or (last_cut from cuts) b 0 - get_or firsts b 0) (get_or lists b []))
  stretches_here firsts from end [] lists is long wide each below cuts =
      let n = get_or from b 0 - get_or firsts b 0 in
      sym (drop_all n (take n (get_or lists b [])) (omega (arith, length-take n (get_or lists b []))))
  stretches_here firsts from end (cut ∷ rest) lists is long wide each below cuts =
      let wide_cut : length cut ≡ length lists = sym (below_long from cut cuts.0) ∙ wide in
      let above = last_above cut end rest cuts.2 in
      let first = stretch_here buckets b b 0 firsts from cut lists (omega arith) (omega (arith, long)) (omega (arith, wide)) (omega (arith, wide_cut)) is each in
      let later = stretches_here firsts cut end rest lists is long wide_cut each (below_both firsts from cut below cuts.0) cuts.2 in
      let f = get_or firsts b 0 in
      filter-append (here buckets b) (stretch firsts from cut lists) (stretches firsts cut rest lists)
      ∙ ap (λ (os : List Tuple). os ++ filter (here buckets b) (stretches firsts cut rest lists)) first
      ∙ ap (λ (os : List Tuple). drop (get_or from b 0 - f) (take (get_or cut b 0 - f) (get_or lists b [])) ++ os) later
      ∙ parts_join (get_or lists b []) (get_or from b 0 - f) (get_or cut b 0 - f) (get_or (last_cut cut rest) b 0 - f) (omega (arith, below_at from cut b cuts.0))
      (omega (arith, below_at cut (last_cut cut rest) b above.0))

pub length-list_lengths : (firsts : List ℕ) (lists : List (List Tuple)) → length firsts ≡ length lists → length (list_lengths firsts lists) ≡ length lists
length-list_lengths [] [] same = refl
length-list_lengths [] (list ∷ lists) same = absurd (omega (arith, same))
length-list_lengths (first ∷ firsts) [] same = refl
length-list_lengths (first ∷ firsts) (list ∷ lists) same = ap (λ (n : ℕ). suc n) (length-list_lengths firsts lists (omega (arith, same)))

-- of a book's judged offers those of a bucket are the first of its list
pub judged_here_are : (book : Book) (b : ℕ) → IsBook book → b < book.buckets → filter (here book.buckets b) (judged_offers book)
    ≡ take (get_or (judged_cut book) b 0 - get_or book.firsts b 0) (get_or book.lists b [])
judged_here_are book b is within =
    let n = get_or book.firsts b 0 in
    let none : n - n ≡ 0 = omega arith in
    let part = stretches_here book.buckets b book.firsts book.firsts (lengths_of book) book.cuts book.lists (omega (arith, is.lists)) (is.firsts ∙ sym is.lists) (is.firsts
    ∙ sym is.lists) is.each (below_same book.firsts) is.cuts in
    part ∙ ap (λ (k : ℕ). drop k (take (get_or (judged_cut book) b 0 - n) (get_or book.lists b []))) none
