-- The lines of an input, one step after another.
use Rattle.std.proofs.Common.{◌≡◌, ◌≢◌, ◌∙◌, append-nil, ℕ, ◌+◌, ◌<◌, ◌≤◌, Bool, true, false, ◌||◌, nat_lt, List, [], ◌∷◌, ◌++◌, length, Option, Some, None, refl, sym, ap, append_assoc, arith, inl, inr, subst}
use Rattle.std.proofs.lemmas.Bool.Decides.{nat_tests}
use Rattle.std.specs.Option.{is_none}
use Rattle.std.specs.Prelude.{unwrap_or}
use Rattle.std.specs.List.{before_first}
use Rattle.irl_base.specs.Limits.{max_text}
use Rattle.irl_io.specs.Lines.{lines, most_lines, is_line_feed, IsLine}
use Rattle.std.specs.Io.KnownBytes.{prepend_known}
use Rattle.irl_offer.specs.Tuple.{Tuple}
use Rattle.irl_io.specs.Steps.{Progress, OfKnown, TakesLine, RefusesLine}
use Rattle.irl_top.specs.Session.{ReadsOn, ReadsOnTold, EndsTold, RefusesTold, HasRead}
use Rattle.irl_top.specs.declared.line.LineKind.{LineKind}
use Rattle.irl_top.specs.declared.ending.Ending.{Ending}
use Rattle.irl_top.specs.declared.ending.Ending.TheVariants.{Done, LineRefused}
use Rattle.irl_io.proofs.LineLemmas.{lines_first}
use Rattle.irl_top.specs.Input.{is_refused, line_offers, refused_from, offered_from}

-- what known bytes become
pub of_some : (P : List ℕ → List ℕ → Type 0) (b : List ℕ) (x : Option (List ℕ)) → OfKnown P (Some b) x → (a : List ℕ) × (x ≡ Some a) × P b a
of_some P b None h = absurd h
of_some P b (Some a) h = (a, refl, h)

nat_lt-false : (a b : ℕ) → b ≤ a → nat_lt a b ≡ false
nat_lt-false a b h = grind (arith, nat_tests)

nat_lt-true : (a b : ℕ) → a < b → nat_lt a b ≡ true
nat_lt-true a b h = grind (arith, nat_tests)

or-left : (a b : Bool) → a ≡ true → (a || b) ≡ true
or-left a b p = rw p refl

or-right : (a b : Bool) → b ≡ true → (a || b) ≡ true
or-right true b p = refl
or-right false b p = p

or-false : (a b : Bool) → a ≡ false → b ≡ false → (a || b) ≡ false
or-false a b p q = rw (p, q) refl

-- a line that is given is refused only where it is none of its kind
pub refused_as : (kind : LineKind) (n : ℕ) (line : List ℕ) → IsLine line → n < most_lines → is_refused kind (n + 1) line ≡ is_none (line_offers kind line)
refused_as kind n line is few =
    let fits : (nat_lt max_text (length line) || nat_lt most_lines (n + 1)) ≡ false = or-false _ _ (nat_lt-false max_text (length line) is.short) (nat_lt-false most_lines (n + 1) (omega arith)) in
    ap (λ (b : Bool). b || is_none (line_offers kind line)) fits

-- what a line that is given offers, and where it is refused
pub offered_line : (kind : LineKind) (n : ℕ) (line before after : List ℕ) (news : List Tuple) → TakesLine line before after → IsLine line → n < most_lines → line_offers kind line ≡ Some news
    → offered_from kind (n + 1) (lines before) ≡ news ++ offered_from kind (n + 1 + 1) (lines after)
offered_line kind n line before after news takes is few offers =
    let first = ap (λ (o : Option (List Tuple)). unwrap_or o [] ++ offered_from kind (n + 1 + 1) (lines after)) offers in
    rw (takes.law, refused_as kind n line is few, offers) first

pub refused_line : (kind : LineKind) (n : ℕ) (line before after : List ℕ) (news : List Tuple) → TakesLine line before after → IsLine line → n < most_lines → line_offers kind line ≡ Some news
    → refused_from kind (n + 1) (lines before) ≡ refused_from kind (n + 1 + 1) (lines after)
refused_line kind n line before after news takes is few offers = rw (takes.law, refused_as kind n line is few, offers) refl

pub bad_line : (kind : LineKind) (n : ℕ) (line before after : List ℕ) → TakesLine line before after → IsLine line → n < most_lines → line_offers kind line ≡ None
    → (offered_from kind (n + 1) (lines before) ≡ []) × (refused_from kind (n + 1) (lines before) ≡ Some (n + 1))
bad_line kind n line before after takes is few offers = (rw (takes.law, refused_as kind n line is few, offers) refl, rw (takes.law, refused_as kind n line is few, offers) refl)

-- a line that is not given is the first that is refused
pub first_refused : (kind : LineKind) (n : ℕ) (before after : List ℕ) → RefusesLine (n + 1) before after → (offered_from kind (n + 1) (lines before) ≡ [])
    × (refused_from kind (n + 1) (lines before) ≡ Some (n + 1))
first_refused kind n before after refuses =
    let first = before_first is_line_feed before in
    let much : (nat_lt max_text (length first) || nat_lt most_lines (n + 1)) ≡ true =
    elim refuses.too_much [
      | inl long ↦ or-left _ _ (nat_lt-true max_text (length first) long)
      | inr last ↦ or-right _ _ (nat_lt-true most_lines (n + 1) (omega (arith, last)))
    ] in
    let bad : is_refused kind (n + 1) first ≡ true = ap (λ (b : Bool). b || is_none (line_offers kind first)) much in
    (rw (lines_first before refuses.some, bad) refl, rw (lines_first before refuses.some, bad) refl)

-- a reader that has read nothing
abbrev pub start : Progress
start = record { ahead = []; number = 0 }

-- two stretches of reading are one
pub reads_both : (kind : LineKind) (a b c : Progress) (x y z : List ℕ) (xs ys : List Tuple) → ReadsOn kind a b x y xs → ReadsOn kind b c y z ys → ReadsOn kind a c x z (xs ++ ys)
reads_both kind a b c x y z xs ys h k = record {
  offers = h.offers ∙ ap (λ (l : List Tuple). xs ++ l) k.offers ∙ sym (append_assoc xs ys (offered_from kind (c.number + 1) (lines z)));
  refuses = h.refuses ∙ k.refuses;
}

pub told_both : (kind : LineKind) (a b c : Progress) (x y z : Option (List ℕ)) (xs ys : List Tuple) → ReadsOnTold kind a b x y xs → ReadsOnTold kind b c y z ys → ReadsOnTold kind a c x z (xs ++ ys)
told_both kind a b c x y z xs ys first second = λ before tells.
    let one = first before tells in
    let two = second one.0 one.1 in
    (two.0, two.1, reads_both kind a b c before one.0 two.0 xs ys one.2 two.2)

pub told_none : (kind : LineKind) (a : Progress) (x : Option (List ℕ)) → ReadsOnTold kind a a x x []
told_none kind a x = λ before tells. (before, tells, record { offers = refl; refuses = refl })

-- ---- a line that was read
line_read : (kind : LineKind) (old new : Progress) (line before after : List ℕ) (news : List Tuple) → TakesLine line before after → IsLine line → old.number < most_lines → new.number ≡ old.number + 1
    → line_offers kind line ≡ Some news → ReadsOn kind old new before after news
line_read kind old new line before after news takes is few number offers = record {
  offers = offered_line kind old.number line before after news takes is few offers ∙ ap (λ (n : ℕ). news ++ offered_from kind (n + 1) (lines after)) (sym number);
  refuses = refused_line kind old.number line before after news takes is few offers ∙ ap (λ (n : ℕ). refused_from kind (n + 1) (lines after)) (sym number);
}

-- behind lines that offered nothing
pub line_told : (kind : LineKind) (a b c : Progress) (x y z : Option (List ℕ)) (line : List ℕ) (news : List Tuple) → ReadsOnTold kind a b x y []
    → OfKnown (TakesLine line) (prepend_known b.ahead y) (prepend_known c.ahead z) → IsLine line → b.number < most_lines → c.number ≡ b.number + 1 → line_offers kind line ≡ Some news
    → ReadsOnTold kind a c x z news
line_told kind a b c x y z line news reads step is few number offers = told_both kind a b c x y z [] news reads (λ before tells.
    let moved = of_some (TakesLine line) before _ (subst (λ (known : Option (List ℕ)). OfKnown (TakesLine line) known (prepend_known c.ahead z)) tells step) in
    (moved.0, moved.1, line_read kind b c line before moved.0 news moved.2 is few number offers))

pub line_refused : (kind : LineKind) (a b : Progress) (ahead : List ℕ) (x y z : Option (List ℕ)) (line : List ℕ) → ReadsOnTold kind a b x y []
    → OfKnown (TakesLine line) (prepend_known b.ahead y) (prepend_known ahead z) → IsLine line → b.number < most_lines → line_offers kind line ≡ None → RefusesTold kind a x (b.number + 1)
line_refused kind a b ahead x y z line reads step is few none = λ before tells.
    let so_far = reads before tells in
    let moved = of_some (TakesLine line) so_far.0 _ (subst (λ (known : Option (List ℕ)). OfKnown (TakesLine line) known (prepend_known ahead z)) so_far.1 step) in
    let bad = bad_line kind b.number line so_far.0 moved.0 moved.2 is few none in
    (so_far.2.offers ∙ bad.0, so_far.2.refuses ∙ bad.1)

-- no byte was left, and none is
no_bytes : (ahead : List ℕ) (left : Option (List ℕ)) → prepend_known ahead left ≡ Some [] → left ≡ Some []
no_bytes ahead None h = let no : ⊥ = cc in absurd no
no_bytes [] (Some bytes) h = h
no_bytes (b ∷ ahead) (Some bytes) h = let no : ⊥ = cc in absurd no

pub of_end : (kind : LineKind) (old new : Progress) (before rest ahead : List ℕ) (left : Option (List ℕ)) → ReadsOn kind old new before rest []
    → OfKnown (λ x y. (x ≡ []) × (y ≡ [])) (Some rest) (prepend_known ahead left) → (left ≡ Some []) × (offered_from kind (old.number + 1) (lines before) ≡ [])
    × (refused_from kind (old.number + 1) (lines before) ≡ None)
of_end kind old new before rest ahead left reads ends =
    let moved = of_some (λ x y. (x ≡ []) × (y ≡ [])) rest (prepend_known ahead left) ends in
    let none : lines rest ≡ [] = ap lines moved.2.0 in (
      no_bytes ahead left (moved.1 ∙ ap (λ (l : List ℕ). Some l) moved.2.1),
      reads.offers ∙ ap (λ (l : List (List ℕ)). offered_from kind (new.number + 1) l) none,
      reads.refuses ∙ ap (λ (l : List (List ℕ)). refused_from kind (new.number + 1) l) none,
    )

-- ---- a whole input
pub read_some : (kind : LineKind) (now : Progress) (before left after : Option (List ℕ)) (news : List Tuple) (ending : Ending) → ReadsOnTold kind start now before left news → (ending ≢ Done)
    → ((n : ℕ) → ending ≡ LineRefused n → RefusesTold kind now left n) → HasRead kind news before after ending
read_some kind now before left after news ending reads not_done refuses = record {
  offers = λ input tells. let r = reads input (ap (prepend_known []) tells) in (offered_from kind (now.number + 1) (lines r.0), r.2.offers);
  done = λ is. absurd (not_done is);
  line = λ n is input tells.
      let r = reads input (ap (prepend_known []) tells) in
      let e = refuses n is r.0 r.1 in
      (sym (append-nil news) ∙ ap (λ (l : List Tuple). news ++ l) (sym e.0) ∙ sym r.2.offers, r.2.refuses ∙ e.1);
}

pub read_all : (kind : LineKind) (now : Progress) (before left after : Option (List ℕ)) (news : List Tuple) (ending : Ending) → ReadsOnTold kind start now before left news
    → EndsTold kind now left after → ((n : ℕ) → ending ≢ LineRefused n) → HasRead kind news before after ending
read_all kind now before left after news ending reads ends no_line = record {
  offers = λ input tells. let r = reads input (ap (prepend_known []) tells) in (offered_from kind (now.number + 1) (lines r.0), r.2.offers);
  done = λ is input tells.
      let r = reads input (ap (prepend_known []) tells) in
      let e = ends r.0 r.1 in
      (sym (append-nil news) ∙ ap (λ (l : List Tuple). news ++ l) (sym e.1) ∙ sym r.2.offers, e.0, r.2.refuses ∙ e.2);
  line = λ n is. absurd (no_line n is);
}
