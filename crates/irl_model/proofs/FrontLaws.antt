-- One book as the front of another, and what a flush and a merge make of a book.
use Rattle.std.proofs.Common.{◌≡◌, ◌≢◌, ◌∙◌, Bool, ℕ, zero, suc, ◌+◌, ◌-◌, ◌≤◌, List, [], ◌∷◌, ◌++◌, length, map, take, drop, refl, sym, ap, arith, append_assoc, Option}
use Rattle.std.proofs.lemmas.List.{append-nil, map-append, take-append-le}
use Rattle.std.proofs.lemmas.List.Elements.{filter-append}
use Rattle.std.specs.Prelude.{sum}
use Rattle.std.specs.List.{filter, enumerate_from}
use Rattle.irl_offer.specs.declared.offer.Rule.{Rule}
use Rattle.irl_offer.specs.declared.offer.Verdict.{Verdict}
use Rattle.irl_offer.specs.declared.receipt.Judged.{Judged}
use Rattle.irl_offer.specs.Tuple.{Tuple}
use Rattle.irl_model.specs.Judging.{KeyMap, after, judgements}
use Rattle.irl_model.specs.Book.{Book, IsBook, IsFront, IsPrefixOf, ArePrefixes, IsBelow, AreCuts, last_cut, list_lengths, lengths_of, stretch, stretches, judged, judged_as, judged_offers, judged_cut, uniques, is_unique, gone, flushed, flushed_lists, merged}
use Rattle.irl_model.proofs.JudgingLaws.{judged_on, judgements-judged_on, judged_on-append}
use Rattle.irl_model.proofs.Stretches.{below_same, below_both}

-- ---- prefixes
pub prefix_same : {X : Type 0} (xs : List X) → IsPrefixOf xs xs
prefix_same xs = ([], sym (append-nil xs))

pub prefix_both : {X : Type 0} (xs ys zs : List X) → IsPrefixOf xs ys → IsPrefixOf ys zs → IsPrefixOf xs zs
prefix_both xs ys zs h k = (h.0 ++ k.0, k.1 ∙ ap (λ (l : List _). l ++ k.0) h.1 ∙ append_assoc xs h.0 k.0)

pub prefix_map : {X Y : Type 0} (f : X → Y) (xs ys : List X) → IsPrefixOf xs ys → IsPrefixOf (map f xs) (map f ys)
prefix_map f xs ys h = (map f h.0, ap (map f) h.1 ∙ map-append f xs h.0)

pub prefixes_same : (lists : List (List Tuple)) → ArePrefixes lists lists
prefixes_same [] = tt
prefixes_same (list ∷ lists) = (prefix_same list, prefixes_same lists)

pub prefixes_both : (xs ys zs : List (List Tuple)) → ArePrefixes xs ys → ArePrefixes ys zs → ArePrefixes xs zs
prefixes_both [] [] [] h k = tt
prefixes_both [] [] (z ∷ zs) h k = absurd k
prefixes_both [] (y ∷ ys) zs h k = absurd h
prefixes_both (x ∷ xs) [] zs h k = absurd h
prefixes_both (x ∷ xs) (y ∷ ys) [] h k = absurd k
prefixes_both (x ∷ xs) (y ∷ ys) (z ∷ zs) h k = (prefix_both x y z h.0 k.0, prefixes_both xs ys zs h.1 k.1)

pub front_same : (book : Book) → IsFront book book
front_same book = record { buckets = refl; rule = refl; base = refl; dropped = refl; firsts = refl; lists = prefixes_same book.lists; cuts = prefix_same book.cuts }

-- a front of a front is a front
pub front_both : (x y z : Book) → IsFront x y → IsFront y z → IsFront x z
front_both x y z h k = record {
  buckets = k.buckets ∙ h.buckets;
  rule = k.rule ∙ h.rule;
  base = k.base ∙ h.base;
  dropped = k.dropped ∙ h.dropped;
  firsts = k.firsts ∙ h.firsts;
  lists = prefixes_both x.lists y.lists z.lists h.lists k.lists;
  cuts = prefix_both x.cuts y.cuts z.cuts h.cuts k.cuts;
}

-- ---- what is judged stays
taken_same : (n : ℕ) (xs ys : List Tuple) → n ≤ length xs → IsPrefixOf xs ys → take n ys ≡ take n xs
taken_same n xs ys le h = ap (take n) h.1 ∙ take-append-le n xs h.0 le

pub stretch_same : (firsts froms tos : List ℕ) (lists more : List (List Tuple)) → IsBelow tos (list_lengths firsts lists) → ArePrefixes lists more
    → stretch firsts froms tos more ≡ stretch firsts froms tos lists
stretch_same [] froms tos lists more below h = refl
stretch_same (first ∷ firsts) [] tos lists more below h = refl
stretch_same (first ∷ firsts) (from ∷ froms) [] lists more below h = refl
stretch_same (first ∷ firsts) (from ∷ froms) (to ∷ tos) [] [] below h = refl
stretch_same (first ∷ firsts) (from ∷ froms) (to ∷ tos) [] (m ∷ more) below h = absurd h
stretch_same (first ∷ firsts) (from ∷ froms) (to ∷ tos) (list ∷ lists) [] below h = absurd h
stretch_same (first ∷ firsts) (from ∷ froms) (to ∷ tos) (list ∷ lists) (m ∷ more) below h =
    let head = taken_same (to - first) list m (omega (arith, below.0)) h.0 in
    ap (λ (os : List Tuple). drop (from - first) os ++ stretch firsts froms tos more) head
    ∙ ap (λ (os : List Tuple). drop (from - first) (take (to - first) list) ++ os) (stretch_same firsts froms tos lists more below.1 h.1)

pub below_end : (from end : List ℕ) (cuts : List (List ℕ)) → AreCuts from cuts end → IsBelow from end
below_end from end [] cuts = cuts
below_end from end (cut ∷ rest) cuts = below_both from cut end cuts.0 (below_end cut end rest cuts.2)

pub stretches_same : (firsts from : List ℕ) (cuts : List (List ℕ)) (lists more : List (List Tuple)) → AreCuts from cuts (list_lengths firsts lists) → ArePrefixes lists more
    → stretches firsts from cuts more ≡ stretches firsts from cuts lists
stretches_same firsts from [] lists more cuts h = refl
stretches_same firsts from (cut ∷ rest) lists more cuts h =
    ap (λ (os : List Tuple). os ++ stretches firsts cut rest more) (stretch_same firsts from cut lists more (below_end cut (list_lengths firsts lists) rest cuts.2) h)
    ∙ ap (λ (os : List Tuple). stretch firsts from cut lists ++ os) (stretches_same firsts cut rest lists more cuts.2 h)

pub stretches-append : (firsts from : List ℕ) (cuts more : List (List ℕ)) (lists : List (List Tuple))
    → stretches firsts from (cuts ++ more) lists ≡ stretches firsts from cuts lists ++ stretches firsts (last_cut from cuts) more lists
stretches-append firsts from [] more lists = refl
stretches-append firsts from (cut ∷ cuts) more lists =
    ap (λ (os : List Tuple). stretch firsts from cut lists ++ os) (stretches-append firsts cut cuts more lists)
    ∙ sym (append_assoc (stretch firsts from cut lists) (stretches firsts cut cuts lists) (stretches firsts (last_cut cut cuts) more lists))

-- the judged offers of a front are the first of those of the other
pub judged_offers_front : (x y : Book) → IsBook x → IsFront x y → IsPrefixOf (judged_offers x) (judged_offers y)
judged_offers_front x y is front =
    let same = stretches_same x.firsts x.firsts x.cuts x.lists y.lists is.cuts front.lists in (
      stretches x.firsts (last_cut x.firsts x.cuts) front.cuts.0 y.lists,
      rw (front.firsts, front.cuts.1) (stretches-append x.firsts x.firsts x.cuts front.cuts.0 y.lists)
          ∙ ap (λ (os : List Tuple). os ++ stretches x.firsts (last_cut x.firsts x.cuts) front.cuts.0 y.lists) same,
    )

judgements_prefix : (rule : Rule) (base : KeyMap) (xs ys : List Tuple) → IsPrefixOf xs ys → IsPrefixOf (judgements rule base xs) (judgements rule base ys)
judgements_prefix rule base xs ys h = (
  judgements rule (after rule base xs) h.0,
  ap (judgements rule base) h.1 ∙ judgements-judged_on rule base (xs ++ h.0) ∙ judged_on-append rule base xs h.0
      ∙ ap (λ (js : List (Tuple × Option Verdict)). js ++ judged_on rule (after rule base xs) h.0) (sym (judgements-judged_on rule base xs))
      ∙ ap (λ (js : List (Tuple × Option Verdict)). judgements rule base xs ++ js) (sym (judgements-judged_on rule (after rule base xs) h.0)),
)

-- and so are what they were judged
pub judged_front : (x y : Book) → IsBook x → IsFront x y → IsPrefixOf (judged x) (judged y)
judged_front x y is front =
    let offers = judged_offers_front x y is front in
    rw (front.buckets, front.rule, front.base) (prefix_map (judged_as x.buckets) _ _ (judgements_prefix x.rule x.base (judged_offers x) (judged_offers y) offers))

pub enumerate-append : (n : ℕ) (xs ys : List Judged) → enumerate_from n (xs ++ ys) ≡ enumerate_from n xs ++ enumerate_from (n + length xs) ys
enumerate-append n [] ys = ap (λ (k : ℕ). enumerate_from k ys) (omega arith)
enumerate-append n (x ∷ xs) ys = ap (λ (rest : List (ℕ × Judged)). (n, x) ∷ rest) (enumerate-append (n + 1) xs ys ∙ ap (λ (k : ℕ). enumerate_from (n + 1) xs ++ enumerate_from k ys) (omega arith))

-- and the numbers of the unique ones
pub uniques_front : (x y : Book) → IsBook x → IsFront x y → IsPrefixOf (uniques x) (uniques y)
uniques_front x y is front =
    let h = judged_front x y is front in
    let test : ℕ × Judged → Bool = λ p. is_unique p.1.verdict in
    let more = enumerate_from (gone x + length (judged x)) h.0 in
    prefix_map (λ (p : ℕ × Judged). (p.0, p.1.offer)) _ _ (
      filter test more,
      ap (λ (n : ℕ). filter test (enumerate_from n (judged y))) (ap sum front.firsts) ∙ ap (λ (js : List Judged). filter test (enumerate_from (gone x) js)) h.1
          ∙ ap (filter test) (enumerate-append (gone x) (judged x) h.0) ∙ filter-append test (enumerate_from (gone x) (judged x)) more,
    )

-- ---- a flush
pub flushed_prefixes : (b : ℕ) (news : List Tuple) (lists : List (List Tuple)) → ArePrefixes lists (flushed_lists b news lists)
flushed_prefixes b news [] = tt
flushed_prefixes zero news (list ∷ lists) = ((news, refl), prefixes_same lists)
flushed_prefixes (suc b) news (list ∷ lists) = (prefix_same list, flushed_prefixes b news lists)

pub flushed_front : (b : ℕ) (news : List Tuple) (book : Book) → IsFront book (flushed b news book)
flushed_front b news book = record { buckets = refl; rule = refl; base = refl; dropped = refl; firsts = refl; lists = flushed_prefixes b news book.lists; cuts = prefix_same book.cuts }

-- it judges nothing
pub flushed_judged : (b : ℕ) (news : List Tuple) (book : Book) → IsBook book → judged (flushed b news book) ≡ judged book
flushed_judged b news book is = ap (λ (os : List Tuple). map (judged_as book.buckets) (judgements book.rule book.base os))
    (stretches_same book.firsts book.firsts book.cuts book.lists (flushed_lists b news book.lists) is.cuts (flushed_prefixes b news book.lists))

-- ---- a merge
pub merged_front : (book : Book) → IsFront book (merged book)
merged_front book = record { buckets = refl; rule = refl; base = refl; dropped = refl; firsts = refl; lists = prefixes_same book.lists; cuts = (lengths_of book ∷ [], refl) }

-- it judges all pending offers, bucket 0 first
pub merged_offers : (book : Book) → judged_offers (merged book) ≡ judged_offers book ++ stretch book.firsts (judged_cut book) (lengths_of book) book.lists
merged_offers book =
    stretches-append book.firsts book.firsts book.cuts (lengths_of book ∷ []) book.lists
    ∙ ap (λ (os : List Tuple). stretches book.firsts book.firsts book.cuts book.lists ++ os) (append-nil (stretch book.firsts (judged_cut book) (lengths_of book) book.lists))

cuts_more : (from end : List ℕ) (cuts : List (List ℕ)) → AreCuts from cuts end → last_cut from cuts ≢ end → AreCuts from (cuts ++ end ∷ []) end
cuts_more from end [] cuts differs = (cuts, differs, below_same end)
cuts_more from end (cut ∷ rest) cuts differs = (cuts.0, cuts.1, cuts_more cut end rest cuts.2 differs)

-- and is a book where something was pending
pub merged_book : (book : Book) → IsBook book → judged_cut book ≢ lengths_of book → IsBook (merged book)
merged_book book is pending = record {
  buckets = is.buckets;
  firsts = is.firsts;
  lists = is.lists;
  each = is.each;
  cuts = cuts_more book.firsts (lengths_of book) book.cuts is.cuts pending;
  none = is.none;
}
