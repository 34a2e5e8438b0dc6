-- Where the first line feed stands: what a search found, and what more bytes change.
use Rattle.std.proofs.Common.{◌≡◌, ◌≢◌, ℕ, suc, min, ◌+◌, ◌-◌, ◌<◌, ◌≤◌, Bool, true, false, cond, not, eqb, inl, inr, List, [], ◌∷◌, ◌++◌, Option, Some, None, IfSome, IfNone, length, take, drop, get_or, refl, sym, ap, ◌∙◌, subst, arith, append-nil, append_assoc, length-append, length-take}
use Rattle.std.proofs.Math.Seq.{take-add}
use Rattle.std.specs.Io.KnownBytes.{Keeps, Consumes, IsAtEnd, prepend_known}
use Rattle.std.proofs.lemmas.Bool.{false_from_ne_true, eqb-false, cases_lt}
use Rattle.std.proofs.lemmas.Bool.Decides.{nat_tests}
use Rattle.std.proofs.lemmas.List.{get_or-take, take-append-le, drop-append-le, length-take-le, take-take, drop_all, drop-drop, drop-take}
use Rattle.std.proofs.lemmas.List.Folds.{prefix_len-append, length-prefix_len}
use Rattle.std.proofs.lemmas.List.Sums.{position_or_len_is, passes_at_first, prefix_len-le-length}
use Rattle.std.specs.List.{slice_range, AllByRecursion, position_or_len, before_first, after_first}
use Rattle.memchr.specs.Find.{IsFirstByte, is_byte}
use Rattle.irl_base.specs.Limits.{max_text}
use Rattle.irl_io.specs.Lines.{lines, is_line_feed, IsLine}
use Rattle.irl_io.specs.Steps.{TakesLine, RefusesLine, OfKnown}
use Rattle.irl_io.specs.Lookahead.{HasLine}
use Rattle.irl_io.proofs.LineLemmas.{lines_first}

-- the search among the first m bytes found the first line feed of all
pub found_first : (bytes : List ℕ) (m n : ℕ) → m ≤ length bytes → IsFirstByte (is_byte 10) (take m bytes) (Some n) → (n < m) × (n ≡ position_or_len is_line_feed bytes)
found_first bytes m n within found =
    let long : length (take m bytes) ≡ m = length-take-le m bytes within in
    let here : n < m = omega (arith, found.0.high) in
    let before : (k : ℕ) → k < n → eqb (get_or bytes k 0) 10 ≡ false = λ k below.
    false_from_ne_true _ (λ is. found.0.before k (omega arith) below (ap (λ x. eqb x 10) (get_or-take m bytes k 0 (omega arith)) ∙ is)) in
    let at : eqb (get_or bytes n 0) 10 ≡ true = ap (λ x. eqb x 10) (sym (get_or-take m bytes n 0 here)) ∙ found.1 in
    (here, sym (position_or_len_is is_line_feed bytes n 0 (omega arith) before (λ _. at)))

-- the search among the first m bytes found none
pub found_none : (bytes : List ℕ) (m : ℕ) → m ≤ length bytes → IsFirstByte (is_byte 10) (take m bytes) None → m ≤ position_or_len is_line_feed bytes
found_none bytes m within found =
    let p = position_or_len is_line_feed bytes in
    let long : length (take m bytes) ≡ m = length-take-le m bytes within in
    elim (cases_lt p m) [
      | inl below ↦ absurd (found p (omega arith) (omega arith) (ap (λ x. eqb x 10) (get_or-take m bytes p 0 below) ∙ passes_at_first is_line_feed bytes 0 (omega arith)))
      | inr above ↦ above
    ]

-- bytes behind change nothing where a line feed is there
pub first-append : (ahead left : List ℕ) → position_or_len is_line_feed ahead < length ahead → position_or_len is_line_feed (ahead ++ left) ≡ position_or_len is_line_feed ahead
first-append ahead left there = grind (arith, nat_tests, prefix_len-append (λ b. not (is_line_feed b)) ahead left)

-- nor do they make a line shorter
pub first-append-le : (ahead left : List ℕ) → position_or_len is_line_feed ahead ≤ position_or_len is_line_feed (ahead ++ left)
first-append-le ahead left = grind (arith, nat_tests, prefix_len-append (λ b. not (is_line_feed b)) ahead left, prefix_len-le-length (λ b. not (is_line_feed b)) ahead)

pub not_nil : (ahead left : List ℕ) → 0 < length ahead → ahead ++ left ≢ []
not_nil ahead left some e = absurd (omega (arith, ap length e, length-append ahead left))

takes : (line before after : List ℕ) → before ≢ [] → line ≡ before_first is_line_feed before → after ≡ after_first is_line_feed before → TakesLine line before after
takes line before after some first rest =
    record {
      some = some;
      first = first;
      rest = rest;
      law = lines_first before some ∙ ap (λ l. l ∷ lines (after_first is_line_feed before)) (sym first) ∙ ap (λ l. line ∷ lines l) (sym rest);
    }

-- a line with its line feed was taken from what was read ahead
pub takes_ended : (ahead left line new : List ℕ) (n : ℕ) → n ≡ position_or_len is_line_feed ahead → n < length ahead → line ≡ take n ahead → new ≡ drop (n + 1) ahead
    → TakesLine line (ahead ++ left) (new ++ left)
takes_ended ahead left line new n first there line_is new_is =
    let some : ahead ++ left ≢ [] = not_nil ahead left (omega arith) in
    let same : position_or_len is_line_feed (ahead ++ left) ≡ n = first-append ahead left (omega arith) ∙ sym first in
    let first_is : line ≡ before_first is_line_feed (ahead ++ left) = line_is ∙ sym (take-append-le n ahead left (omega arith)) ∙ ap (λ k. take k (ahead ++ left)) (sym same) in
    let back : new ++ left ≡ after_first is_line_feed (ahead ++ left) = ap (λ l. l ++ left) new_is ∙ sym (drop-append-le (n + 1) ahead left (omega arith))
    ∙ ap (λ k. drop (k + 1) (ahead ++ left)) (sym same) in
    takes line (ahead ++ left) (new ++ left) some first_is back

-- the last line was taken: all that was read ahead
pub takes_last : (ahead left line new : List ℕ) (n : ℕ) → n ≡ position_or_len is_line_feed ahead → n ≡ length ahead → 0 < n → left ≡ [] → line ≡ take n ahead → new ≡ drop n ahead
    → TakesLine line (ahead ++ left) (new ++ left)
takes_last ahead left line new n first all some end line_is new_is =
    let whole : ahead ++ left ≡ ahead = ap (λ l. ahead ++ l) end ∙ append-nil ahead in
    let none : new ++ left ≡ [] = ap (λ l. l ++ left) (new_is ∙ drop_all n ahead (omega arith)) ∙ end in
    let back : drop (position_or_len is_line_feed ahead + 1) ahead ≡ [] = drop_all _ ahead (omega arith) in
    let first_is : line ≡ before_first is_line_feed ahead = line_is ∙ ap (λ k. take k ahead) first in
    takes line (ahead ++ left) (new ++ left) (not_nil ahead left (omega arith)) (subst (λ l. line ≡ before_first is_line_feed l) (sym whole) first_is)
    (subst (λ l. new ++ left ≡ after_first is_line_feed l) (sym whole) (none ∙ sym back))

whole_before : (feed : Bool) (b p : ℕ) (bytes : List ℕ) → eqb b 10 ≡ feed → AllByRecursion (λ x. x ≢ 10) (take p bytes) → AllByRecursion (λ x. x ≢ 10) (take (cond (not feed) (1 + p) 0) (b ∷ bytes))
whole_before true b p bytes test later = tt
whole_before false b p bytes test later =
    let one : 1 + p ≡ suc p = omega arith in
    subst (λ k. AllByRecursion (λ x. x ≢ 10) (take k (b ∷ bytes))) (sym one) (eqb-false b 10 test, later)

-- no byte before the first line feed is one
pub whole_first : (bytes : List ℕ) → AllByRecursion (λ b. b ≢ 10) (before_first is_line_feed bytes)
whole_first [] = tt
whole_first (b ∷ bytes) = whole_before (eqb b 10) b (position_or_len is_line_feed bytes) bytes refl (whole_first bytes)

-- what stands before the first line feed is a line, where it is short
pub is_line : (ahead line : List ℕ) (n : ℕ) → n ≡ position_or_len is_line_feed ahead → n ≤ max_text → line ≡ take n ahead → IsLine line
is_line ahead line n first short line_is =
    record {
      short = omega (arith, ap length line_is, length-take n ahead);
      whole = subst (AllByRecursion (λ b. b ≢ 10)) (sym (line_is ∙ ap (λ k. take k ahead) first)) (whole_first ahead);
    }

-- what a search among as many bytes as a line may have, and one more, says of all
pub found_if : (bytes : List ℕ) (m : ℕ) (r : Option ℕ) → m ≡ min (length bytes) (max_text + 1) → IsFirstByte (is_byte 10) (take m bytes) r
    → IfSome r (λ n. (n ≡ position_or_len is_line_feed bytes) × (n < length bytes) × (n ≤ max_text))
found_if bytes m None upto found = tt
found_if bytes m (Some n) upto found =
    let first : (n < m) × (n ≡ position_or_len is_line_feed bytes) = found_first bytes m n (omega arith) found in
    (first.1, omega (arith, first.0), omega (arith, first.0))

pub none_if : (bytes : List ℕ) (m : ℕ) (r : Option ℕ) → m ≡ min (length bytes) (max_text + 1) → IsFirstByte (is_byte 10) (take m bytes) r
    → IfNone r (m ≤ position_or_len is_line_feed bytes)
none_if bytes m None upto found = found_none bytes m (omega arith) found
none_if bytes m (Some n) upto found = tt

-- the last line is all that was read ahead
pub all_first : (old new : List ℕ) → min (length old) (max_text + 1) ≤ position_or_len is_line_feed old → length old ≤ max_text → new ≡ old → length old ≡ position_or_len is_line_feed new
all_first old new none short same = rw same (omega (arith, prefix_len-le-length (λ b. not (is_line_feed b)) old))

-- a piece was read behind what was read ahead
pub filled : (a b : Option (List ℕ)) (held now : List ℕ) (k n : ℕ) → take k now ≡ held → Consumes a b (take n (drop k now)) → Keeps (prepend_known held a) (prepend_known (take (k + n) now) b)
filled None b held now k n moved read = tt
filled (Some x) None held now k n moved read = absurd read
filled (Some x) (Some y) held now k n moved read =
    ap (λ l. l ++ y) (take-add k n now) ∙ append_assoc (take k now) (take n (drop k now)) y ∙ ap (λ l. take k now ++ l) (sym read) ∙ ap (λ l. l ++ x) moved

-- the first of the bytes between two places, and the rest
pub slice_first : (items : List ℕ) (start end n : ℕ) → n ≤ end - start → take (start + n - start) (drop start items) ≡ take n (slice_range items start end)
slice_first items start end n within =
    let count : start + n - start ≡ n = omega arith in
    ap (λ k. take k (drop start items)) count ∙ sym (take-take n (end - start) (drop start items) within)

pub slice_back : (items : List ℕ) (start end n : ℕ) → n ≤ end - start → slice_range items (start + n) end ≡ drop n (slice_range items start end)
slice_back items start end n within =
    let count : end - start ≡ n + (end - (start + n)) = omega arith in
    sym (ap (λ k. drop n (take k (drop start items))) count ∙ drop-take n (end - (start + n)) (drop start items) ∙ ap (take (end - (start + n))) (drop-drop n start items))

-- a fact of what was read ahead and of what the source has left is one of the bytes left
pub of_left : (P : List ℕ → List ℕ → Type 0) (b a : Option (List ℕ)) (old ahead new : List ℕ) → Keeps (prepend_known old b) (prepend_known ahead a)
    → ((left : List ℕ) → a ≡ Some left → P (ahead ++ left) (new ++ left)) → OfKnown P (prepend_known old b) (prepend_known new a)
of_left P None a old ahead new kept fact = tt
of_left P (Some x) None old ahead new kept fact = absurd kept
of_left P (Some x) (Some y) old ahead new kept fact = subst (λ l. P l (new ++ y)) kept (fact y refl)

at_end : (a : Option (List ℕ)) (left : List ℕ) → a ≡ Some left → IsAtEnd a → left ≡ []
at_end None left is end = absurd (cc)
at_end (Some x) left is end = (cc)

-- a step that gave a line
pub takes_line : (b a : Option (List ℕ)) (old ahead shown items : List ℕ) (start end size whole : ℕ) → Keeps (prepend_known old b) (prepend_known ahead a) → shown ≡ items
    → slice_range items start end ≡ ahead → HasLine size whole ahead a → OfKnown (TakesLine (take (start + size - start) (drop start shown))) (prepend_known old b)
    (prepend_known (slice_range items (start + whole) end) a)
takes_line b a old ahead shown items start end size whole kept same view has =
    let fits : length ahead ≤ end - start = omega (arith, ap length view, length-take (end - start) (drop start items)) in
    let size_fits : size ≤ end - start = elim has.ended [ inl e ↦ omega (arith, has.within) | inr e ↦ omega (arith, has.within, e.0) ] in
    let line_is : take (start + size - start) (drop start shown) ≡ take size ahead = ap (λ l. take (start + size - start) (drop start l)) same ∙ slice_first items start end size size_fits
    ∙ ap (take size) view in
    let new_is : slice_range items (start + whole) end ≡ drop whole ahead = slice_back items start end whole (omega (arith, has.within)) ∙ ap (drop whole) view in
    of_left _ b a old ahead _ kept (λ left known. elim has.ended [
      | inl e ↦ takes_ended ahead left _ _ size has.first (omega (arith, has.within, e)) line_is (new_is ∙ ap (λ k. drop k ahead) e)
      | inr e ↦ takes_last ahead left _ _ size has.first (sym e.0 ∙ e.1) (omega (arith, has.some, e.0)) (at_end a left known e.2) line_is (new_is ∙ ap (λ k. drop k ahead) e.0)
    ])

-- what such a step gave
pub gives_line : (a : Option (List ℕ)) (ahead shown items : List ℕ) (start end size whole : ℕ) → shown ≡ items → slice_range items start end ≡ ahead → HasLine size whole ahead a
    → IsLine (take (start + size - start) (drop start shown))
gives_line a ahead shown items start end size whole same view has =
    let fits : length ahead ≤ end - start = omega (arith, ap length view, length-take (end - start) (drop start items)) in
    let size_fits : size ≤ end - start = elim has.ended [ inl e ↦ omega (arith, has.within) | inr e ↦ omega (arith, has.within, e.0) ] in
    is_line ahead _ size has.first has.short (ap (λ l. take (start + size - start) (drop start l)) same ∙ slice_first items start end size size_fits ∙ ap (take size) view)

-- a step that refused a line which is too long
pub refuses_long : (b a : Option (List ℕ)) (old ahead new : List ℕ) (n : ℕ) → Keeps (prepend_known old b) (prepend_known ahead a) → new ≡ ahead → max_text < position_or_len is_line_feed ahead
    → OfKnown (RefusesLine n) (prepend_known old b) (prepend_known new a)
refuses_long b a old ahead new n kept same long =
    of_left (RefusesLine n) b a old ahead new kept (λ left known. record {
      some = not_nil ahead left (omega (arith, prefix_len-le-length (λ b. not (is_line_feed b)) ahead));
      too_much = inl (omega (arith, first-append-le ahead left, length-prefix_len (λ b. not (is_line_feed b)) (ahead ++ left)));
      same = ap (λ l. l ++ left) same;
    })
