-- Lines that are read as a tape are those of its items.
use Rattle.std.proofs.Common.{◌≡◌, ◌∙◌, ℕ, ◌+◌, ◌-◌, ◌*◌, ◌/◌, ◌%◌, ◌≤◌, Bool, true, false, ◌&&◌, ◌==◌, not, List, [], ◌∷◌, ◌++◌, length, take, drop, None, refl, sym, ap, arith, take-append-drop}
use Rattle.std.specs.Prelude.{nat_le, codes, bytes_eq}
use Rattle.std.specs.Char.{is_ascii_digit}
use Rattle.std.proofs.lemmas.Bool.{cond-true, cond-false, false≢true}
use Rattle.std.proofs.lemmas.Bool.Decides.{nat_tests}
use Rattle.std.proofs.lemmas.Slice.Eq.{bytes_eq-Decides}
use Rattle.irl_record.specs.Forms.{Form, form_of, is_skipped, begins, page_of, kind_of, is_status, status_of}
use Rattle.irl_record.specs.Forms as form
use Rattle.irl_record.specs.Parts.{Within, within_of}
use Rattle.irl_record.specs.Parts as within
use Rattle.irl_record.specs.Grammar.{Piece, Whole, Part, PageItem, head_line, three_digits, piece_line}
use Rattle.irl_record.proofs.ItemLemmas.{at_least_back, and-left, and-right, comment_form, suffix_form, seed_form, lost_form, page_line_form, page_form}

-- ---- what a line outside a page is, by its bytes

-- a page of which nothing but its first line came
abbrev pub empty_page : ℕ → Bool → List ℕ → PageItem
empty_page status html url = record { status = status; html = html; url = url; location = None; pieces = [] }

pub data Outside (line : List ℕ) : Type 0 where
  Skips : is_skipped line ≡ true → form_of line ≡ form.Skipped → Outside line
  Suffixes : (name : List ℕ) → line ≡ codes "suffix " ++ name → form_of line ≡ form.Suffix name → Outside line
  Seeds : (url : List ℕ) → line ≡ codes "seed " ++ url → form_of line ≡ form.Seed url → Outside line
  Opens : (status : ℕ) (html : Bool) (url : List ℕ) → line ≡ head_line (empty_page status html url) → 100 ≤ status → status ≤ 999 → form_of line ≡ form.Page status html url → Outside line
  Loses : (url : List ℕ) → line ≡ codes "lost " ++ url → form_of line ≡ form.Lost url → Outside line
  Says_nothing : form_of line ≡ form.Other → Outside line

begins_with : (word text : List ℕ) → begins word text ≡ true → text ≡ word ++ drop (length word) text
begins_with word text is =
    let same : word ≡ take (length word) text = (bytes_eq-Decides word (take (length word) text)).0 is in
    sym (take-append-drop (length word) text) ∙ ap (λ front. front ++ drop (length word) text) (sym same)

low : (b : ℕ) → is_ascii_digit b ≡ true → 48 ≤ b
low b is = grind (arith, nat_tests)

high : (b : ℕ) → is_ascii_digit b ≡ true → b ≤ 57
high b is = grind (arith, nat_tests)

not_48 : (a : ℕ) → 48 ≤ a → (a == 48) ≡ false → 49 ≤ a
not_48 a least other = grind (arith, nat_tests)

-- three digits of a number that they are
digits_back : (a b c : ℕ) → is_ascii_digit a ≡ true → is_ascii_digit b ≡ true → is_ascii_digit c ≡ true → three_digits (100 * (a - 48) + 10 * (b - 48) + (c - 48)) ≡ a ∷ b ∷ c ∷ []
digits_back a b c x y z =
    let la = low a x in let ha = high a x in let lb = low b y in let hb = high b y in let lc = low c z in let hc = high c z in
    let n = 100 * (a - 48) + 10 * (b - 48) + (c - 48) in
    let first : 48 + n / 100 ≡ a = omega arith in
    let second : 48 + n % 100 / 10 ≡ b = omega arith in
    let third : 48 + n % 100 % 10 ≡ c = omega arith in
    rw (first, second, third) refl

pub record HasStatus (text : List ℕ) : Type 0 where
  pub spelled : text ≡ three_digits (status_of text) ++ drop 3 text
  pub least : 100 ≤ status_of text
  pub most : status_of text ≤ 999

not-false : (b : Bool) → not b ≡ true → b ≡ false
not-false true h = absurd (false≢true h)
not-false false h = refl

long_enough : (text : List ℕ) → is_status text ≡ true → 3 ≤ length text
long_enough text is = at_least_back 3 (length text) (and-left _ _ (and-left _ _ (and-left _ _ (and-left _ _ is))))

pub has_status : (text : List ℕ) → is_status text ≡ true → HasStatus text
has_status [] is = absurd (false≢true is)
has_status (a ∷ []) is = let long = long_enough (a ∷ []) is in absurd (omega arith)
has_status (a ∷ b ∷ []) is = let long = long_enough (a ∷ b ∷ []) is in absurd (omega arith)
has_status (a ∷ b ∷ c ∷ text) is =
    let rest4 = and-left _ (not (a == 48)) is in
    let rest3 = and-left _ (is_ascii_digit c) rest4 in
    let rest2 = and-left _ (is_ascii_digit b) rest3 in
    let x : is_ascii_digit a ≡ true = and-right (nat_le 3 (length (a ∷ b ∷ c ∷ text))) _ rest2 in
    let y : is_ascii_digit b ≡ true = and-right (nat_le 3 (length (a ∷ b ∷ c ∷ text)) && is_ascii_digit a) _ rest3 in
    let z : is_ascii_digit c ≡ true = and-right (nat_le 3 (length (a ∷ b ∷ c ∷ text)) && is_ascii_digit a && is_ascii_digit b) _ rest4 in
    let other : (a == 48) ≡ false = not-false (a == 48) (and-right (nat_le 3 (length (a ∷ b ∷ c ∷ text)) && is_ascii_digit a && is_ascii_digit b && is_ascii_digit c) _ is) in
    let la = low a x in let ha = high a x in let lb = low b y in let hb = high b y in let lc = low c z in let hc = high c z in
    let above : 49 ≤ a = not_48 a la other in
    record {
      spelled = ap (λ (digits : List ℕ). digits ++ text) (sym (digits_back a b c x y z));
      least = omega arith;
      most = omega arith;
    }

other_form : (line : List ℕ) → is_skipped line ≡ false → begins (codes "suffix ") line ≡ false → begins (codes "seed ") line ≡ false → begins (codes "page ") line ≡ false
    → begins (codes "lost ") line ≡ false → form_of line ≡ form.Other
unfolding form_of
other_form line a b c d e = cond-false _ _ _ a ∙ cond-false _ _ _ b ∙ cond-false _ _ _ c ∙ cond-false _ _ _ d ∙ cond-false _ _ _ e

by_other_kind : (line rest : List ℕ) (status : ℕ) → line ≡ codes "page " ++ (three_digits status ++ rest) → 100 ≤ status → status ≤ 999 → form_of line ≡ kind_of status rest
    → begins (codes " html ") rest ≡ false → (b : Bool) → begins (codes " other ") rest ≡ b → Outside line
by_other_kind line rest status spelled least most is html true other =
    let url = drop 7 rest in
    let shape : line ≡ head_line (empty_page status false url) = spelled ∙ ap (λ (r : List ℕ). codes "page " ++ (three_digits status ++ r)) (begins_with (codes " other ") rest other) in
    Opens status false url shape least most (ap form_of shape ∙ page_form (empty_page status false url) least most)
by_other_kind line rest status spelled least most is html false other =
    Says_nothing (is ∙ cond-false _ _ _ html ∙ cond-false _ _ _ other)

by_kind : (line rest : List ℕ) (status : ℕ) → line ≡ codes "page " ++ (three_digits status ++ rest) → 100 ≤ status → status ≤ 999 → form_of line ≡ kind_of status rest → (b : Bool)
    → begins (codes " html ") rest ≡ b → Outside line
by_kind line rest status spelled least most is true html =
    let url = drop 6 rest in
    let shape : line ≡ head_line (empty_page status true url) = spelled ∙ ap (λ (r : List ℕ). codes "page " ++ (three_digits status ++ r)) (begins_with (codes " html ") rest html) in
    Opens status true url shape least most (ap form_of shape ∙ page_form (empty_page status true url) least most)
by_kind line rest status spelled least most is false html =
    by_other_kind line rest status spelled least most is html (begins (codes " other ") rest) refl

by_status : (line text : List ℕ) → line ≡ codes "page " ++ text → (b : Bool) → is_status text ≡ b → Outside line
by_status line text shape true is =
    let status = has_status text is in
    by_kind line (drop 3 text) (status_of text) (shape ∙ ap (λ (t : List ℕ). codes "page " ++ t) status.spelled) status.least status.most
    (ap form_of shape ∙ page_line_form text ∙ cond-true _ _ _ is) (begins (codes " html ") (drop 3 text)) refl
by_status line text shape false is = Says_nothing (ap form_of shape ∙ page_line_form text ∙ cond-false _ _ _ is)

by_lost : (line : List ℕ) → is_skipped line ≡ false → begins (codes "suffix ") line ≡ false → begins (codes "seed ") line ≡ false → begins (codes "page ") line ≡ false → (b : Bool)
    → begins (codes "lost ") line ≡ b → Outside line
by_lost line a c d e true is = let shape = begins_with (codes "lost ") line is in Loses (drop 5 line) shape (ap form_of shape ∙ lost_form (drop 5 line))
by_lost line a c d e false is = Says_nothing (other_form line a c d e is)

by_page : (line : List ℕ) → is_skipped line ≡ false → begins (codes "suffix ") line ≡ false → begins (codes "seed ") line ≡ false → (b : Bool) → begins (codes "page ") line ≡ b → Outside line
by_page line a c d true is = by_status line (drop 5 line) (begins_with (codes "page ") line is) (is_status (drop 5 line)) refl
by_page line a c d false is = by_lost line a c d is (begins (codes "lost ") line) refl

by_seed : (line : List ℕ) → is_skipped line ≡ false → begins (codes "suffix ") line ≡ false → (b : Bool) → begins (codes "seed ") line ≡ b → Outside line
by_seed line a c true is = let shape = begins_with (codes "seed ") line is in Seeds (drop 5 line) shape (ap form_of shape ∙ seed_form (drop 5 line))
by_seed line a c false is = by_page line a c is (begins (codes "page ") line) refl

by_suffix : (line : List ℕ) → is_skipped line ≡ false → (b : Bool) → begins (codes "suffix ") line ≡ b → Outside line
by_suffix line a true is = let shape = begins_with (codes "suffix ") line is in Suffixes (drop 7 line) shape (ap form_of shape ∙ suffix_form (drop 7 line))
by_suffix line a false is = by_seed line a is (begins (codes "seed ") line) refl

by_skipped : (line : List ℕ) (b : Bool) → is_skipped line ≡ b → Outside line
by_skipped line true is = Skips is (comment_form line is)
by_skipped line false is = by_suffix line is (begins (codes "suffix ") line) refl

pub view_outside : (line : List ℕ) → Outside line
view_outside line = by_skipped line (is_skipped line) refl

-- ---- what a line inside a page is, by its bytes

pub data Inside (line : List ℕ) : Type 0 where
  Gives : (piece : Piece) → line ≡ piece_line piece → Inside line
  Locates : (text : List ℕ) → line ≡ codes "to " ++ text → Inside line
  Ends : line ≡ codes "end" → Inside line
  Adds_nothing : within_of line ≡ within.Other → Inside line

other_within : (line : List ℕ) → begins (codes "|") line ≡ false → begins (codes "+") line ≡ false → begins (codes "to ") line ≡ false → bytes_eq line (codes "end") ≡ false
    → within_of line ≡ within.Other
unfolding within_of
other_within line a b c d = cond-false _ _ _ a ∙ cond-false _ _ _ b ∙ cond-false _ _ _ c ∙ cond-false _ _ _ d

by_end : (line : List ℕ) → begins (codes "|") line ≡ false → begins (codes "+") line ≡ false → begins (codes "to ") line ≡ false → (b : Bool) → bytes_eq line (codes "end") ≡ b → Inside line
by_end line a c d true is = Ends ((bytes_eq-Decides line (codes "end")).0 is)
by_end line a c d false is = Adds_nothing (other_within line a c d is)

by_location : (line : List ℕ) → begins (codes "|") line ≡ false → begins (codes "+") line ≡ false → (b : Bool) → begins (codes "to ") line ≡ b → Inside line
by_location line a c true is = Locates (drop 3 line) (begins_with (codes "to ") line is)
by_location line a c false is = by_end line a c is (bytes_eq line (codes "end")) refl

by_part : (line : List ℕ) → begins (codes "|") line ≡ false → (b : Bool) → begins (codes "+") line ≡ b → Inside line
by_part line a true is = Gives (Part (drop 1 line)) (begins_with (codes "+") line is)
by_part line a false is = by_location line a is (begins (codes "to ") line) refl

by_whole : (line : List ℕ) (b : Bool) → begins (codes "|") line ≡ b → Inside line
by_whole line true is = Gives (Whole (drop 1 line)) (begins_with (codes "|") line is)
by_whole line false is = by_part line is (begins (codes "+") line) refl

pub view_inside : (line : List ℕ) → Inside line
view_inside line = by_whole line (begins (codes "|") line) refl
