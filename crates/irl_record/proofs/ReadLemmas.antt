-- The reading of a tape, one line after another.
use Rattle.std.proofs.Common.{◌≡◌, ◌∙◌, ℕ, ◌+◌, ◌<◌, ◌≤◌, Bool, true, false, ◌||◌, nat_lt, List, [], ◌∷◌, length, Option, Some, None, Ok, Err, refl, ap, arith, inl, inr}
use Rattle.std.specs.Prelude.{Result, OnOk}
use Rattle.std.proofs.lemmas.Bool.Decides.{nat_tests}
use Rattle.std.proofs.lemmas.Bool.{cond-true, cond-false}
use Rattle.std.specs.List.{before_first}
use Rattle.std.specs.Io.KnownBytes.{prepend_known}
use Rattle.irl_base.specs.Limits.{max_text}
use Rattle.irl_io.specs.Lines.{lines, most_lines, is_line_feed, IsLine}
use Rattle.irl_io.specs.Steps.{OfKnown, Progress, TakesLine, RefusesLine}
use Rattle.irl_io.proofs.LineLemmas.{lines_first}
use Rattle.irl_record.specs.Reading.{Reading, next, is_over, or_refused, whole, tape_from, tape_of}

-- what known bytes become
pub of_some : (P : List ℕ → List ℕ → Type 0) (b : List ℕ) (x : Option (List ℕ)) → OfKnown P (Some b) x → (a : List ℕ) × (x ≡ Some a) × P b a
of_some P b None h = absurd h
of_some P b (Some a) h = (a, refl, h)

nothing_behind : (ahead : List ℕ) (left : Option (List ℕ)) → prepend_known ahead left ≡ Some [] → left ≡ Some []
nothing_behind ahead None h = absurd (let e = h in cc)
nothing_behind [] (Some bytes) h = h
nothing_behind (b ∷ ahead) (Some bytes) h = absurd (let e = h in cc)

-- nothing is left where nothing is, behind what was read ahead
pub nothing_left : (ahead : List ℕ) (left : Option (List ℕ)) (both : List ℕ) → prepend_known ahead left ≡ Some both → both ≡ [] → left ≡ Some []
nothing_left ahead left both h none = nothing_behind ahead left (h ∙ ap (λ (b : List ℕ). Some b) none)

-- what holds anyway
pub on_ok : {T E : Type 0} (r : Result T E) (P : Type 0) → P → OnOk r P
on_ok (Ok x) P p = p
on_ok (Err e) P p = tt

-- What is left of a tape reads as the whole does, where the source tells it.
abbrev pub ReadsOn : Bool → Option (List ℕ) → Reading → Progress → Option (List ℕ) → Type 0
ReadsOn pages told reading progress left = (bytes : List ℕ) → told ≡ Some bytes → (rest : List ℕ) × (prepend_known progress.ahead left ≡ Some rest)
    × (tape_of pages bytes ≡ tape_from pages (progress.number + 1) reading (lines rest))

nat_lt-false : (a b : ℕ) → b ≤ a → nat_lt a b ≡ false
nat_lt-false a b h = grind (arith, nat_tests)

nat_lt-true : (a b : ℕ) → a < b → nat_lt a b ≡ true
nat_lt-true a b h = grind (arith, nat_tests)

or-left : (a b : Bool) → a ≡ true → (a || b) ≡ true
or-left a b p = rw p refl

or-right : (a b : Bool) → b ≡ true → (a || b) ≡ true
or-right true b p = refl
or-right false b p = p

or-false : (a b : Bool) → a ≡ false → b ≡ false → (a || b) ≡ false
or-false a b p q = rw (p, q) refl

within_limits : (n : ℕ) (line : List ℕ) → IsLine line → n < most_lines → is_over (n + 1) line ≡ false
within_limits n line is few = or-false _ _ (nat_lt-false max_text (length line) is.short) (nat_lt-false most_lines (n + 1) (omega arith))

-- a line that is given and taken
pub line_taken : (pages : Bool) (n : ℕ) (reading after : Reading) (line before rest : List ℕ) → TakesLine line before rest → IsLine line → n < most_lines → next pages reading line ≡ Some after
    → tape_from pages (n + 1) reading (lines before) ≡ tape_from pages (n + 1 + 1) after (lines rest)
line_taken pages n reading after line before rest takes is few taken =
    ap (tape_from pages (n + 1) reading) takes.law
    ∙ cond-false _ (Err (n + 1)) _ (within_limits n line is few)
    ∙ ap (λ o. or_refused (n + 1) o (λ r. tape_from pages (n + 1 + 1) r (lines rest))) taken

-- a line that is given and refused
pub line_refused : (pages : Bool) (n : ℕ) (reading : Reading) (line before rest : List ℕ) → TakesLine line before rest → IsLine line → n < most_lines → next pages reading line ≡ None
    → tape_from pages (n + 1) reading (lines before) ≡ Err (n + 1)
line_refused pages n reading line before rest takes is few refused =
    ap (tape_from pages (n + 1) reading) takes.law
    ∙ cond-false _ (Err (n + 1)) _ (within_limits n line is few)
    ∙ ap (λ o. or_refused (n + 1) o (λ r. tape_from pages (n + 1 + 1) r (lines rest))) refused

-- a line that is not given
pub line_over : (pages : Bool) (n : ℕ) (reading : Reading) (before after : List ℕ) → RefusesLine (n + 1) before after → tape_from pages (n + 1) reading (lines before) ≡ Err (n + 1)
line_over pages n reading before after refuses =
    let first = before_first is_line_feed before in
    let over : is_over (n + 1) first ≡ true =
    elim refuses.too_much [
      | inl long ↦ or-left _ _ (nat_lt-true max_text (length first) long)
      | inr last ↦ or-right _ _ (nat_lt-true most_lines (n + 1) (omega (arith, last)))
    ] in
    ap (tape_from pages (n + 1) reading) (lines_first before refuses.some)
    ∙ cond-true _ (Err (n + 1)) _ over

-- no line is left
pub no_line : (pages : Bool) (n : ℕ) (reading : Reading) (before : List ℕ) → before ≡ [] → tape_from pages n reading (lines before) ≡ whole n reading
no_line pages n reading before none = ap (λ b. tape_from pages n reading (lines b)) none
