-- What a merge makes of a book, the book as it was at an earlier cut, and how the numbers of a cut count the judged offers.
use Rattle.std.proofs.Common.{◌≡◌, ◌∙◌, Bool, ℕ, zero, suc, ◌+◌, ◌-◌, ◌≤◌, List, [], ◌∷◌, ◌++◌, length, map, take, drop, take_all, refl, sym, ap, arith, Option, length-append, length-take, length-drop}
use Rattle.std.proofs.lemmas.List.{length-map, map-append, take-append-le, take-append-drop}
use Rattle.std.proofs.lemmas.List.Elements.{filter-append}
use Rattle.std.proofs.lemmas.List.Sums.{sum_by-cons}
use Rattle.std.specs.List.{filter, enumerate_from, sum}
use Rattle.irl_offer.specs.declared.offer.Rule.{Rule}
use Rattle.irl_offer.specs.declared.offer.Verdict.{Verdict}
use Rattle.irl_offer.specs.declared.receipt.Judged.{Judged}
use Rattle.irl_offer.specs.Tuple.{Tuple}
use Rattle.irl_model.specs.Judging.{KeyMap, after, judgements}
use Rattle.irl_model.specs.Book.{Book, IsBook, IsFront, IsBelow, AreCuts, last_cut, list_lengths, lengths_of, stretch, stretches, judged, judged_as, judged_offers, judged_cut, uniques, uniques_from, is_unique, gone, seen, pending, judged_next, merged, with_cuts}
use Rattle.irl_model.proofs.JudgingLaws.{judged_on, judgements-judged_on, judged_on-append, after-append, length-judgements}
use Rattle.irl_model.proofs.Stretches.{below_same, below_both}
use Rattle.irl_model.proofs.FrontLaws.{below_end, enumerate-append, merged_offers, prefixes_same}

-- ---- what a merge judges
pub judgements-append : (rule : Rule) (base : KeyMap) (xs ys : List Tuple) → judgements rule base (xs ++ ys) ≡ judgements rule base xs ++ judgements rule (after rule base xs) ys
judgements-append rule base xs ys =
    judgements-judged_on rule base (xs ++ ys) ∙ judged_on-append rule base xs ys
    ∙ ap (λ (js : List (Tuple × Option Verdict)). js ++ judged_on rule (after rule base xs) ys) (sym (judgements-judged_on rule base xs))
    ∙ ap (λ (js : List (Tuple × Option Verdict)). judgements rule base xs ++ js) (sym (judgements-judged_on rule (after rule base xs) ys))

pub merged_judged : (book : Book) → judged (merged book) ≡ judged book ++ judged_next book
merged_judged book =
    ap (λ (os : List Tuple). map (judged_as book.buckets) (judgements book.rule book.base os)) (merged_offers book)
    ∙ ap (map (judged_as book.buckets)) (judgements-append book.rule book.base (judged_offers book) (pending book))
    ∙ map-append (judged_as book.buckets) (judgements book.rule book.base (judged_offers book)) (judgements book.rule (seen book) (pending book))

pub uniques_from-append : (n : ℕ) (xs ys : List Judged) → uniques_from n (xs ++ ys) ≡ uniques_from n xs ++ uniques_from (n + length xs) ys
uniques_from-append n xs ys =
    let test : ℕ × Judged → Bool = λ p. is_unique p.1.verdict in
    let told : ℕ × Judged → ℕ × Tuple = λ p. (p.0, p.1.offer) in
    ap (λ (ps : List (ℕ × Judged)). map told (filter test ps)) (enumerate-append n xs ys)
    ∙ ap (map told) (filter-append test (enumerate_from n xs) (enumerate_from (n + length xs) ys))
    ∙ map-append told (filter test (enumerate_from n xs)) (filter test (enumerate_from (n + length xs) ys))

pub merged_uniques : (book : Book) → uniques (merged book) ≡ uniques book ++ uniques_from (gone book + length (judged book)) (judged_next book)
merged_uniques book = ap (uniques_from (gone book)) (merged_judged book) ∙ uniques_from-append (gone book) (judged book) (judged_next book)

pub merged_seen : (book : Book) → seen (merged book) ≡ after book.rule (seen book) (pending book)
merged_seen book = ap (after book.rule book.base) (merged_offers book) ∙ after-append book.rule book.base (judged_offers book) (pending book)

pub last_more : (from end : List ℕ) (cuts : List (List ℕ)) → last_cut from (cuts ++ end ∷ []) ≡ end
last_more from end [] = refl
last_more from end (cut ∷ rest) = last_more cut end rest

pub merged_cut : (book : Book) → judged_cut (merged book) ≡ lengths_of book
merged_cut book = last_more book.firsts (lengths_of book) book.cuts

-- ---- an earlier book
cuts_first : (n : ℕ) (from end : List ℕ) (cuts : List (List ℕ)) → AreCuts from cuts end → AreCuts from (take n cuts) end
cuts_first zero from end cuts are = below_end from end cuts are
cuts_first (suc n) from end [] are = are
cuts_first (suc n) from end (cut ∷ rest) are = (are.0, are.1, cuts_first n cut end rest are.2)

pub earlier_book : (n : ℕ) (book : Book) → IsBook book → IsBook (with_cuts n book)
earlier_book n book is = record { buckets = is.buckets; firsts = is.firsts; lists = is.lists; each = is.each; cuts = cuts_first n book.firsts (lengths_of book) book.cuts is.cuts; none = is.none }

pub earlier_front : (n : ℕ) (book : Book) → IsFront (with_cuts n book) book
earlier_front n book = record {
  buckets = refl;
  rule = refl;
  base = refl;
  dropped = refl;
  firsts = refl;
  lists = prefixes_same book.lists;
  cuts = (drop n book.cuts, sym (take-append-drop n book.cuts));
}

pub earlier_all : (n : ℕ) (book : Book) → length book.cuts ≤ n → with_cuts n book ≡ book
earlier_all n book all = ap (λ (cuts : List (List ℕ)). record book { cuts = cuts }) (take_all n book.cuts all)

pub earlier_merged : (n : ℕ) (book : Book) → n ≤ length book.cuts → with_cuts n (merged book) ≡ with_cuts n book
earlier_merged n book le = ap (λ (cuts : List (List ℕ)). record book { cuts = cuts }) (take-append-le n book.cuts (lengths_of book ∷ []) le)

-- ---- how many are judged
sum-cons : (x : ℕ) (xs : List ℕ) → sum (x ∷ xs) ≡ x + sum xs
sum-cons x xs = sum_by-cons (λ (n : ℕ). n) x xs

length-part : (first from to : ℕ) (list : List Tuple) → first ≤ from → from ≤ to → to ≤ first + length list → length (drop (from - first) (take (to - first) list)) + from ≡ to
length-part first from to list below rises within =
    omega (arith, length-drop (from - first) (take (to - first) list), length-take (to - first) list)

pub length-stretch : (firsts froms tos : List ℕ) (lists : List (List Tuple)) → IsBelow firsts froms → IsBelow froms tos → IsBelow tos (list_lengths firsts lists)
    → length (stretch firsts froms tos lists) + sum froms ≡ sum tos
length-stretch [] [] [] lists b r w = refl
length-stretch [] [] (to ∷ tos) lists b r w = absurd r
length-stretch [] (from ∷ froms) tos lists b r w = absurd b
length-stretch (first ∷ firsts) [] tos lists b r w = absurd b
length-stretch (first ∷ firsts) (from ∷ froms) [] lists b r w = absurd r
length-stretch (first ∷ firsts) (from ∷ froms) (to ∷ tos) [] b r w = absurd w
length-stretch (first ∷ firsts) (from ∷ froms) (to ∷ tos) (list ∷ lists) b r w =
    let head = length-part first from to list b.0 r.0 w.0 in
    let rest = length-stretch firsts froms tos lists b.1 r.1 w.1 in
    omega (arith, head, rest, length-append (drop (from - first) (take (to - first) list)) (stretch firsts froms tos lists), sum-cons from froms, sum-cons to tos)

pub length-stretches : (firsts from : List ℕ) (cuts : List (List ℕ)) (lists : List (List Tuple)) → IsBelow firsts from → AreCuts from cuts (list_lengths firsts lists)
    → length (stretches firsts from cuts lists) + sum from ≡ sum (last_cut from cuts)
length-stretches firsts from [] lists below are = omega arith
length-stretches firsts from (cut ∷ rest) lists below are =
    let first = length-stretch firsts from cut lists below are.0 (below_end cut (list_lengths firsts lists) rest are.2) in
    let later = length-stretches firsts cut rest lists (below_both firsts from cut below are.0) are.2 in
    omega (arith, first, later, length-append (stretch firsts from cut lists) (stretches firsts cut rest lists))

pub length-judged : (book : Book) → length (judged book) ≡ length (judged_offers book)
length-judged book = length-map (judgements book.rule book.base (judged_offers book)) (judged_as book.buckets) ∙ length-judgements book.rule book.base (judged_offers book)

-- the numbers of a cut count the offers below it
pub judged_count : (book : Book) → IsBook book → gone book + length (judged book) ≡ sum (judged_cut book)
judged_count book is =
    omega (arith, length-judged book, length-stretches book.firsts book.firsts book.cuts book.lists (below_same book.firsts) is.cuts)
