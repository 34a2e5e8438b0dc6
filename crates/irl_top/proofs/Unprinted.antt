-- What is printed of a book's judged offers, and what is left of them to print.
use Rattle.std.proofs.Common.{◌≡◌, ◌∙◌, ⊎_elim, ℕ, ◌+◌, ◌-◌, ◌≤◌, List, ◌++◌, length, sum, take, drop, refl, sym, ap, subst, append_assoc, length-append, length-drop, arith}
use Rattle.std.proofs.lemmas.Bool.{cases_lt}
use Rattle.std.proofs.lemmas.List.{take-append-drop, take-append-le, drop-append-le, drop-drop, drop_all, append_cancel_right}
use Rattle.std.proofs.lemmas.Grind.{flat_map-append}
use Rattle.std.proofs.Math.Seq.{take-append-add}
use Rattle.irl_offer.specs.declared.receipt.Judged.{Judged}
use Rattle.irl_model.specs.Book.{Book, IsBook, IsFront, IsPrefixOf, gone, judged, judged_cut, last_cut, with_cuts}
use Rattle.irl_model.proofs.FrontLaws.{judged_front}
use Rattle.irl_model.proofs.Merges.{earlier_book, earlier_front, judged_count as count_by_cut}
use Rattle.irl_top.specs.Printed.{before_last, judged_line, judged_lines, judged_count}
use Rattle.irl_top.specs.Session.{unprinted}
use Rattle.irl_top.specs.declared.line.LineKind.{LineKind}

-- ---- lines
pub lines-append : (kind : LineKind) (xs ys : List Judged) → judged_lines kind (xs ++ ys) ≡ judged_lines kind xs ++ judged_lines kind ys
lines-append kind xs ys = flat_map-append (judged_line kind) xs ys

lines_prefix : (kind : LineKind) (xs ys : List Judged) → IsPrefixOf xs ys → IsPrefixOf (judged_lines kind xs) (judged_lines kind ys)
lines_prefix kind xs ys h = (judged_lines kind h.0, ap (judged_lines kind) h.1 ∙ lines-append kind xs h.0)

drop-more : (kind : LineKind) (n : ℕ) (xs ys zs : List Judged) → zs ≡ xs ++ ys → n ≤ length xs → judged_lines kind (drop n zs) ≡ judged_lines kind (drop n xs) ++ judged_lines kind ys
drop-more kind n xs ys zs is within = ap (λ (l : List Judged). judged_lines kind (drop n l)) is ∙ ap (judged_lines kind) (drop-append-le n xs ys within) ∙ lines-append kind (drop n xs) ys

-- the offers from one place to another
abbrev span : ℕ → ℕ → List Judged → List Judged
span a b all = take (b - a) (drop a all)

span_rest : (a b : ℕ) (all : List Judged) → a ≤ b → span a b all ++ drop b all ≡ drop a all
span_rest a b all le =
    let sum_is : b ≡ a + (b - a) = omega (arith, le) in
    ap (λ (l : List Judged). span a b all ++ l) (ap (λ (n : ℕ). drop n all) sum_is ∙ sym (drop-drop (b - a) a all)) ∙ take-append-drop (b - a) (drop a all)

-- they begin with those of a front that ends before
span_front : (a b : ℕ) (xs ys : List Judged) → a ≤ b → length xs ≤ b → IsPrefixOf (drop a xs) (span a b (xs ++ ys))
span_front a b xs ys le few = ⊎_elim
    (λ past. subst (λ (l : List Judged). IsPrefixOf l (span a b (xs ++ ys))) (sym (drop_all a xs (omega (arith, past)))) (span a b (xs ++ ys), refl))
    (λ within.
    let count : b - a ≡ length (drop a xs) + (b - length xs) = omega (arith, length-drop a xs, within, few) in (
      take (b - length xs) ys,
      ap (λ (l : List Judged). take (b - a) l) (drop-append-le a xs ys within) ∙ ap (λ (n : ℕ). take n (drop a xs ++ ys)) count ∙ take-append-add (drop a xs) ys (b - length xs),
    ))
    (cases_lt (length xs) a)

-- a text that stands before the rest is theirs
text_is : (kind : LineKind) (a b : ℕ) (all : List Judged) (text : List ℕ) → a ≤ b → text ++ judged_lines kind (drop b all) ≡ judged_lines kind (drop a all) → text ≡ judged_lines kind (span a b all)
text_is kind a b all text le is =
    append_cancel_right text (judged_lines kind (span a b all)) (judged_lines kind (drop b all))
    (is ∙ ap (judged_lines kind) (sym (span_rest a b all le)) ∙ lines-append kind (span a b all) (drop b all))

-- ---- one book after another
-- what is judged later is printed behind what is judged
pub unprinted_more : (kind : LineKind) (x y : Book) → IsBook x → IsFront x y → (more : List ℕ) × ((p : ℕ) → p ≤ judged_count x → unprinted kind p y ≡ unprinted kind p x ++ more)
unprinted_more kind x y book front =
    let prefix = judged_front x y book front in
    let same : gone y ≡ gone x = ap (λ (l : List ℕ). gone (record x { firsts = l })) front.firsts in (
      judged_lines kind prefix.0,
      λ p within. ap (λ (n : ℕ). judged_lines kind (drop (p - n) (judged y))) same ∙ drop-more kind (p - gone x) (judged x) prefix.0 (judged y) prefix.1 (omega (arith, within)),
    )

-- no less is judged later
pub judged_later : (x y : Book) → IsBook x → IsFront x y → judged_count x ≤ judged_count y
judged_later x y book front =
    let prefix = judged_front x y book front in
    let same : gone y ≡ gone x = ap (λ (l : List ℕ). gone (record x { firsts = l })) front.firsts in
    omega (arith, same, ap (λ (l : List Judged). length l) prefix.1, length-append (judged x) prefix.0)

pub printed_then : (one two old mid new : List ℕ) → one ++ mid ≡ old → two ++ new ≡ mid → (one ++ two) ++ new ≡ old
printed_then one two old mid new first second = append_assoc one two new ∙ ap (λ (l : List ℕ). one ++ l) second ∙ first

-- what was printed by then, seen from a later book
pub printed_later : (kind : LineKind) (x y : Book) (p q : ℕ) (text : List ℕ) → IsBook x → IsFront x y → p ≤ q → q ≤ judged_count x → text ++ unprinted kind q x ≡ unprinted kind p x
    → text ++ unprinted kind q y ≡ unprinted kind p y
printed_later kind x y p q text book front le within prints =
    let more = unprinted_more kind x y book front in
    ap (λ (l : List ℕ). text ++ l) (more.1 q within) ∙ sym (append_assoc text (unprinted kind q x) more.0) ∙ ap (λ (l : List ℕ). l ++ more.0) prints ∙ sym (more.1 p (omega (arith, le, within)))

-- a prefix of what is unprinted, behind what was printed
pub prefix_then : (one two old mid : List ℕ) → one ++ mid ≡ old → IsPrefixOf two mid → IsPrefixOf (one ++ two) old
prefix_then one two old mid first part = (part.0, sym first ∙ ap (λ (l : List ℕ). one ++ l) part.1 ∙ sym (append_assoc one two part.0))

-- ---- before the last cut
-- of an earlier book no more is judged
pub earlier_few : (n : ℕ) (x : Book) → IsBook x → judged_count (with_cuts n x) ≤ judged_count x
earlier_few n x book = judged_later (with_cuts n x) x (earlier_book n x book) (earlier_front n x)

-- as much as of the book before, where that has as many cuts
earlier_same : (n : ℕ) (x y : Book) → IsBook x → IsBook y → IsFront x y → n ≤ length x.cuts → judged_count (with_cuts n y) ≡ judged_count (with_cuts n x)
earlier_same n x y book later front within =
    let cuts : take n y.cuts ≡ take n x.cuts = ap (λ (l : List (List ℕ)). take n l) front.cuts.1 ∙ take-append-le n x.cuts front.cuts.0 within in
    let same : judged_cut (with_cuts n y) ≡ judged_cut (with_cuts n x) =
    ap (λ (f : List ℕ). last_cut f (take n y.cuts)) front.firsts ∙ ap (λ (l : List (List ℕ)). last_cut x.firsts l) cuts in
    count_by_cut (with_cuts n y) (earlier_book n y later) ∙ ap (λ (l : List ℕ). sum l) same ∙ sym (count_by_cut (with_cuts n x) (earlier_book n x book))

cuts_more : (x y : Book) → IsFront x y → length x.cuts ≤ length y.cuts
cuts_more x y front = omega (arith, ap (λ (l : List (List ℕ)). length l) front.cuts.1, length-append x.cuts front.cuts.0)

-- with one cut more all was judged that was judged before that
pub before_one : (x y : Book) → IsBook x → IsBook y → IsFront x y → length y.cuts ≤ length x.cuts + 1 → judged_count (before_last y) ≤ judged_count x
before_one x y book later front few =
    let n = length y.cuts - 1 in
    omega (arith, earlier_same n x y book later front (omega (arith, few)), earlier_few n x book)

-- and with no more as much as before
pub before_same : (x y : Book) → IsBook x → IsBook y → IsFront x y → length y.cuts ≡ length x.cuts → judged_count (before_last y) ≡ judged_count (before_last x)
before_same x y book later front same =
    ap (λ (n : ℕ). judged_count (with_cuts (n - 1) y)) same ∙ earlier_same (length x.cuts - 1) x y book later front (omega arith)

-- where all is printed nothing is left
pub none_unprinted : (kind : LineKind) (x : Book) (p : ℕ) (text : List ℕ) → judged_count x ≤ p → IsPrefixOf (unprinted kind p x) text
none_unprinted kind x p text few =
    subst (λ (l : List ℕ). IsPrefixOf l text) (sym (ap (judged_lines kind) (drop_all (p - gone x) (judged x) (omega (arith, few))))) (text, refl)

-- a text that was printed up to a place behind the last cut but one has all before that
pub text_before : (kind : LineKind) (y : Book) (p q : ℕ) (text : List ℕ) → IsBook y → p ≤ q → judged_count (before_last y) ≤ q → text ++ unprinted kind q y ≡ unprinted kind p y
    → IsPrefixOf (unprinted kind p (before_last y)) text
text_before kind y p q text book le few prints =
    let z = before_last y in
    let front = judged_front z y (earlier_book (length y.cuts - 1) y book) (earlier_front (length y.cuts - 1) y) in
    let a = p - gone y in
    let b = q - gone y in
    let rises : a ≤ b = omega (arith, le) in
    let fits : length (judged z) ≤ b = omega (arith, few) in
    let begins : IsPrefixOf (drop a (judged z)) (span a b (judged y)) =
    subst (λ (l : List Judged). IsPrefixOf (drop a (judged z)) (span a b l)) (sym front.1) (span_front a b (judged z) front.0 rises fits) in
    subst (λ (t : List ℕ). IsPrefixOf (unprinted kind p z) t) (sym (text_is kind a b (judged y) text rises prints)) (lines_prefix kind (drop a (judged z)) (span a b (judged y)) begins)

-- so has one with another behind it that has what is left of it
pub text_before_both : (kind : LineKind) (z : Book) (p q : ℕ) (one two : List ℕ) → IsBook z → p ≤ q → one ++ unprinted kind q z ≡ unprinted kind p z
    → IsPrefixOf (unprinted kind q (before_last z)) two → IsPrefixOf (unprinted kind p (before_last z)) (one ++ two)
text_before_both kind z p q one two book le prints part =
    let w = before_last z in
    let more = unprinted_more kind w z (earlier_book (length z.cuts - 1) z book) (earlier_front (length z.cuts - 1) z) in
    ⊎_elim
    (λ short.
    let left : one ++ unprinted kind q w ≡ unprinted kind p w =
    append_cancel_right (one ++ unprinted kind q w) (unprinted kind p w) more.0
    (append_assoc one (unprinted kind q w) more.0 ∙ ap (λ (l : List ℕ). one ++ l) (sym (more.1 q (omega (arith, short)))) ∙ prints ∙ more.1 p (omega (arith, short, le))) in
    (part.0, ap (λ (l : List ℕ). one ++ l) part.1 ∙ sym (append_assoc one (unprinted kind q w) part.0) ∙ ap (λ (l : List ℕ). l ++ part.0) left))
    (λ all.
    let first = text_before kind z p q one book le all prints in
    (first.0 ++ two, ap (λ (l : List ℕ). l ++ two) first.1 ∙ append_assoc (unprinted kind p w) first.0 two))
    (cases_lt q (judged_count w))
