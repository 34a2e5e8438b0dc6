-- The value behind an attribute's name, read at a place: it is as the grammar says, and is the only one.
use Rattle.std.proofs.Common.{◌≡◌, ℕ, suc, ◌+◌, ◌-◌, ◌≤◌, Bool, true, false, cond, not, eqb, List, [], ◌∷◌, ◌++◌, length, drop, Option, Some, None, refl, ap, sym, ◌∙◌, subst, arith}
use Rattle.std.proofs.lemmas.Bool.{eqb-true, false≢true}
use Rattle.irl_scan.specs.declared.attribute.Ending.{Ending}
use Rattle.irl_scan.specs.declared.attribute.Ending.TheVariants.{Marked, PageEnd}
use Rattle.irl_scan.specs.declared.span.Span.{Span}
use Rattle.irl_scan.specs.Bytes.{is_space, is_quote, at_byte, UpTo, ends_bare_value}
use Rattle.irl_scan.specs.Page.{Value, Absent, Bare, Quoted, end_onto, value_onto, EndsBy, sign_follows, quote_follows, not_space, IsValue}
use Rattle.irl_scan.specs.Links.{value_span}
use Rattle.irl_scan.specs.Reading.{from, before, ending_of, first_is, quote_at, content_at, value_at, is_at}
use Rattle.irl_scan.proofs.Runs.{before-from, UpTo-read, from-UpTo, before-UpTo, stops_there, length-run}

-- ## What a test of the first byte says

pub first_is-cons : (q : ℕ) (xs : List ℕ) → first_is q xs ≡ true → xs ≡ q ∷ drop 1 xs
first_is-cons q [] h = absurd (false≢true h)
first_is-cons q (b ∷ bs) h = ap (λ x. x ∷ bs) (eqb-true b q h)

quote_cases : (b q : ℕ) (bs : List ℕ) (t : Bool) → is_quote b ≡ t → cond t (Some b) None ≡ Some q → (b ∷ bs ≡ q ∷ bs) × (is_quote q ≡ true)
quote_cases b q bs true t e = let same : b ≡ q = cc in (ap (λ x. x ∷ bs) same, ap is_quote (sym same) ∙ t)
quote_cases b q bs false t e = cc

pub quote_at-some : (q : ℕ) (xs : List ℕ) → quote_at xs ≡ Some q → (xs ≡ q ∷ drop 1 xs) × (is_quote q ≡ true)
quote_at-some q [] h = cc
quote_at-some q (b ∷ bs) h = quote_cases b q bs (is_quote b) refl h

no_quote_cases : (t : Bool) (b : ℕ) → cond t (Some b) None ≡ None → not (not t) ≡ false
no_quote_cases true b h = cc
no_quote_cases false b h = refl

pub quote_at-none : (xs : List ℕ) → quote_at xs ≡ None → quote_follows xs ≡ false
quote_at-none [] h = refl
quote_at-none (b ∷ bs) h = no_quote_cases (is_quote b) b h

none_cases : (t : Bool) (b : ℕ) → not (not t) ≡ false → cond t (Some b) None ≡ None
none_cases true b h = cc
none_cases false b h = refl

none_from : (xs : List ℕ) → quote_follows xs ≡ false → quote_at xs ≡ None
none_from [] h = refl
none_from (b ∷ bs) h = none_cases (is_quote b) b h

-- white space aside, `=` comes next
sign_cases : (t : Bool) (b : ℕ) (bs : List ℕ) → first_is 61 (from not_space bs) ≡ sign_follows bs → first_is 61 (cond (not t) (b ∷ bs) (from not_space bs)) ≡ cond t (sign_follows bs) (eqb b 61)
sign_cases true b bs h = h
sign_cases false b bs h = refl

pub sign_is : (xs : List ℕ) → first_is 61 (from not_space xs) ≡ sign_follows xs
sign_is [] = refl
sign_is (b ∷ bs) = sign_cases (is_space b) b bs (sign_is bs)

-- ## What is read, by its three cases

pub absent_read : (rest : List ℕ) → first_is 61 (from not_space rest) ≡ false → value_at rest ≡ (Absent, rest)
unfolding value_at
absent_read rest h = rw h refl

pub bare_read : (rest after value : List ℕ) → first_is 61 (from not_space rest) ≡ true → after ≡ drop 1 (from not_space rest) → value ≡ from not_space after → quote_at value ≡ None →
    value_at rest ≡ (Bare (before not_space rest) (before not_space after) (before (at_byte ends_bare_value) value), from (at_byte ends_bare_value) value)
unfolding value_at content_at
bare_read rest after value h a v q = rw (h, ← a, ← v, q) refl

pub quoted_read : (rest after value : List ℕ) (quote : ℕ) → first_is 61 (from not_space rest) ≡ true → after ≡ drop 1 (from not_space rest) → value ≡ from not_space after → quote_at value ≡ Some quote
    →
    value_at rest ≡ (
      Quoted (before not_space rest) (before not_space after) quote (before (is_at quote) (drop 1 value)) (ending_of (from (is_at quote) (drop 1 value))),
      drop 1 (from (is_at quote) (drop 1 value)),
    )
unfolding value_at content_at
quoted_read rest after value quote h a v q = rw (h, ← a, ← v, q) refl

-- ## Where it stands

-- a span of that many bytes
abbrev run_of : ℕ → ℕ → Span
run_of n start = record { start = start; end = start + n }

absent_span : (size : ℕ) (rest : List ℕ) → value_span (size - length rest) Absent ≡ record { start = size - length rest; end = size - length rest }
absent_span size rest =
    let pair : ℕ → ℕ → Span = λ s e. record { start = s; end = e } in
    let s : size - length rest + 0 ≡ size - length rest = omega arith in
    let e : size - length rest + 0 + 0 ≡ size - length rest = omega arith in
    ap (λ n. pair n (size - length rest + 0 + 0)) s ∙ ap (pair (size - length rest)) e

module _ (size : ℕ) (rest after value : List ℕ) (fits : length rest ≤ size) (h : first_is 61 (from not_space rest) ≡ true) (a : after ≡ drop 1 (from not_space rest)) (v : value ≡ from not_space after)
  where
    behind_sign : length (before not_space rest) + suc (length after) ≡ length rest
    behind_sign =
        ap (λ ys. length (before not_space rest) + suc (length ys)) a
        ∙ ap (λ ys. length (before not_space rest) + length ys) (sym (first_is-cons 61 (from not_space rest) h))
        ∙ length-run not_space rest

    behind_space : length (before not_space after) + length value ≡ length after
    behind_space = ap (λ ys. length (before not_space after) + length ys) v ∙ length-run not_space after

    bare_span : (bytes : List ℕ) → value_span (size - length rest) (Bare (before not_space rest) (before not_space after) bytes) ≡ record {
      start = size - length value;
      end = size - length value + length bytes;
    }
    bare_span bytes =
        let first = behind_sign in
        let second = behind_space in
        let start : size - length rest + (length (before not_space rest) + 1 + length (before not_space after)) ≡ size - length value = omega arith in
        ap (run_of (length bytes)) start

    quoted_span : (quote : ℕ) (bytes : List ℕ) (ending : Ending) → quote_at value ≡ Some quote
        → value_span (size - length rest) (Quoted (before not_space rest) (before not_space after) quote bytes ending) ≡ record {
          start = size - length (drop 1 value);
          end = size - length (drop 1 value) + length bytes;
        }
    quoted_span quote bytes ending q =
        let first = behind_sign in
        let second = behind_space in
        let third : length value ≡ suc (length (drop 1 value)) = ap length (quote_at-some quote value q).0 in
        let start : size - length rest + (length (before not_space rest) + 1 + length (before not_space after) + 1) ≡ size - length (drop 1 value) = omega arith in
        ap (run_of (length bytes)) start

-- what the places round it show
pub absent_stands : (size : ℕ) (rest : List ℕ) (place : ℕ) → first_is 61 (from not_space rest) ≡ false → place ≡ size - length rest →
    ◌≡◌ {A = Span} (record { start = place; end = place }) (value_span (size - length rest) (value_at rest).0)
absent_stands size rest place h is_place =
    let at : ℕ → Span = λ n. record { start = n; end = n } in
    ap at is_place ∙ sym (ap (λ r. value_span (size - length rest) r.0) (absent_read rest h) ∙ absent_span size rest)

module _ (size : ℕ) (rest after value : List ℕ) (start end : ℕ) (fits : length rest ≤ size) (h : first_is 61 (from not_space rest) ≡ true) (a : after ≡ drop 1 (from not_space rest))
    (v : value ≡ from not_space after) where
  pub bare_stands : quote_at value ≡ None → start ≡ size - length value → end ≡ size - length (from (at_byte ends_bare_value) value) →
      ◌≡◌ {A = Span} (record { start = start; end = end }) (value_span (size - length rest) (value_at rest).0)
  bare_stands q is_start is_end =
      let bytes = before (at_byte ends_bare_value) value in
      let first = behind_sign size rest after value fits h a v in
      let second = behind_space size rest after value fits h a v in
      let run = length-run (at_byte ends_bare_value) value in
      let e : end ≡ size - length value + length bytes = omega arith in
      let span : ℕ → ℕ → Span = λ s e. record { start = s; end = e } in
      ap (λ s. span s end) is_start ∙ ap (span (size - length value)) e
      ∙ sym (ap (λ r. value_span (size - length rest) r.0) (bare_read rest after value h a v q) ∙ bare_span size rest after value fits h a v bytes)

  pub quoted_stands : (quote : ℕ) → quote_at value ≡ Some quote → start ≡ size - length (drop 1 value) → end ≡ size - length (from (is_at quote) (drop 1 value)) →
      ◌≡◌ {A = Span} (record { start = start; end = end }) (value_span (size - length rest) (value_at rest).0)
  quoted_stands quote q is_start is_end =
      let bytes = before (is_at quote) (drop 1 value) in
      let first = behind_sign size rest after value fits h a v in
      let second = behind_space size rest after value fits h a v in
      let third : length value ≡ suc (length (drop 1 value)) = ap length (quote_at-some quote value q).0 in
      let run = length-run (is_at quote) (drop 1 value) in
      let e : end ≡ size - length (drop 1 value) + length bytes = omega arith in
      let span : ℕ → ℕ → Span = λ s e. record { start = s; end = e } in
      ap (λ s. span s end) is_start ∙ ap (span (size - length (drop 1 value))) e
      ∙ sym (ap (λ r. value_span (size - length rest) r.0) (quoted_read rest after value quote h a v q)
      ∙ quoted_span size rest after value fits h a v quote bytes (ending_of (from (is_at quote) (drop 1 value))) q)

-- ## What is read is as the grammar says

-- a mark of one byte, or the page's end
pub end_is : (mark : ℕ) (left : List ℕ) → at_byte (λ b. eqb b mark) left ≡ true → end_onto (mark ∷ []) (ending_of left) (drop 1 left) ≡ left
end_is mark [] h = refl
end_is mark (b ∷ bs) h = ap (λ x. x ∷ bs) (sym (eqb-true b mark h))

pub ends_by : (left : List ℕ) → EndsBy (ending_of left) (drop 1 left)
ends_by [] = refl
ends_by (b ∷ bs) = tt

-- the value and what is left, of that list
pub record IsReadOf (rest : List ℕ) (read : Value × List ℕ) : Type 0 where
  pub formed : IsValue read.0 read.1
  pub spelled : value_onto read.0 read.1 ≡ rest

bare_takes : (rest : List ℕ) → first_is 61 (from not_space rest) ≡ true → quote_at (from not_space (drop 1 (from not_space rest))) ≡ None → IsReadOf rest (value_at rest)
bare_takes rest h q =
    let space = before not_space rest in
    let after = drop 1 (from not_space rest) in
    let more = before not_space after in
    let value = from not_space after in
    let bytes = before (at_byte ends_bare_value) value in
    let left = from (at_byte ends_bare_value) value in
    let e1 : bytes ++ left ≡ value = before-from (at_byte ends_bare_value) value in
    let e2 : more ++ (bytes ++ left) ≡ after = ap (λ ys. more ++ ys) e1 ∙ before-from not_space after in
    let e3 : 61 ∷ (more ++ (bytes ++ left)) ≡ from not_space rest = ap (λ ys. 61 ∷ ys) e2 ∙ sym (first_is-cons 61 (from not_space rest) h) in
    let formed : IsValue (Bare space more bytes) left = (
      subst (UpTo not_space space) (sym e3) (UpTo-read not_space refl rest),
      subst (UpTo not_space more) (sym e1) (UpTo-read not_space refl after),
      ap quote_follows e1 ∙ quote_at-none value q,
      UpTo-read (at_byte ends_bare_value) refl value,
    ) in
    let spelled : value_onto (Bare space more bytes) left ≡ rest = ap (λ ys. space ++ ys) e3 ∙ before-from not_space rest in
    let read : IsReadOf rest (Bare space more bytes, left) = record { formed = formed; spelled = spelled } in
    subst (IsReadOf rest) (sym (bare_read rest after value h refl refl q)) read

quoted_takes : (rest : List ℕ) (quote : ℕ) → first_is 61 (from not_space rest) ≡ true → quote_at (from not_space (drop 1 (from not_space rest))) ≡ Some quote → IsReadOf rest (value_at rest)
quoted_takes rest quote h q =
    let space = before not_space rest in
    let after = drop 1 (from not_space rest) in
    let more = before not_space after in
    let value = from not_space after in
    let bytes = before (is_at quote) (drop 1 value) in
    let left = from (is_at quote) (drop 1 value) in
    let ends = end_onto (quote ∷ []) (ending_of left) (drop 1 left) in
    let e0 : ends ≡ left = end_is quote left (stops_there (is_at quote) refl (drop 1 value)) in
    let e1 : quote ∷ (bytes ++ ends) ≡ value =
    ap (λ ys. quote ∷ (bytes ++ ys)) e0 ∙ ap (λ ys. quote ∷ ys) (before-from (is_at quote) (drop 1 value)) ∙ sym (quote_at-some quote value q).0 in
    let e2 : more ++ quote ∷ (bytes ++ ends) ≡ after = ap (λ ys. more ++ ys) e1 ∙ before-from not_space after in
    let e3 : 61 ∷ (more ++ quote ∷ (bytes ++ ends)) ≡ from not_space rest = ap (λ ys. 61 ∷ ys) e2 ∙ sym (first_is-cons 61 (from not_space rest) h) in
    let formed : IsValue (Quoted space more quote bytes (ending_of left)) (drop 1 left) = (
      subst (UpTo not_space space) (sym e3) (UpTo-read not_space refl rest),
      subst (UpTo not_space more) (sym e1) (UpTo-read not_space refl after),
      (quote_at-some quote value q).1,
      subst (UpTo (is_at quote) bytes) (sym e0) (UpTo-read (is_at quote) refl (drop 1 value)),
      ends_by left,
    ) in
    let spelled : value_onto (Quoted space more quote bytes (ending_of left)) (drop 1 left) ≡ rest = ap (λ ys. space ++ ys) e3 ∙ before-from not_space rest in
    let read : IsReadOf rest (Quoted space more quote bytes (ending_of left), drop 1 left) = record { formed = formed; spelled = spelled } in
    subst (IsReadOf rest) (sym (quoted_read rest after value quote h refl refl q)) read

absent_takes : (rest : List ℕ) → first_is 61 (from not_space rest) ≡ false → IsReadOf rest (value_at rest)
absent_takes rest h =
    let read : IsReadOf rest (Absent, rest) = record { formed = sym (sign_is rest) ∙ h; spelled = refl } in
    subst (IsReadOf rest) (sym (absent_read rest h)) read

content_takes : (rest : List ℕ) → first_is 61 (from not_space rest) ≡ true → (q : Option ℕ) → quote_at (from not_space (drop 1 (from not_space rest))) ≡ q → IsReadOf rest (value_at rest)
content_takes rest h None e = bare_takes rest h e
content_takes rest h (Some quote) e = quoted_takes rest quote h e

takes_by : (rest : List ℕ) (t : Bool) → first_is 61 (from not_space rest) ≡ t → IsReadOf rest (value_at rest)
takes_by rest true h = content_takes rest h (quote_at (from not_space (drop 1 (from not_space rest)))) refl
takes_by rest false h = absent_takes rest h

pub value_takes : (rest : List ℕ) → IsReadOf rest (value_at rest)
value_takes rest = takes_by rest (first_is 61 (from not_space rest)) refl

-- ## What is as the grammar says is read

pub ending_again : (mark : ℕ) (ending : Ending) (rest : List ℕ) → EndsBy ending rest → (ending_of (end_onto (mark ∷ []) ending rest) ≡ ending) × (drop 1 (end_onto (mark ∷ []) ending rest) ≡ rest)
ending_again mark Marked rest h = (refl, refl)
ending_again mark PageEnd rest h = (ap ending_of h, ap (drop 1) h ∙ sym h)

bare_again : (space more bytes rest : List ℕ) → IsValue (Bare space more bytes) rest → value_at (value_onto (Bare space more bytes) rest) ≡ (Bare space more bytes, rest)
bare_again space more bytes rest h =
    let value = bytes ++ rest in
    let after = more ++ value in
    let all = space ++ 61 ∷ after in
    let f1 : from not_space all ≡ 61 ∷ after = from-UpTo not_space space (61 ∷ after) h.0 in
    let b1 : before not_space all ≡ space = before-UpTo not_space space (61 ∷ after) h.0 in
    let f2 : value ≡ from not_space after = sym (from-UpTo not_space more value h.1) in
    let b2 : before not_space after ≡ more = before-UpTo not_space more value h.1 in
    let f3 : from (at_byte ends_bare_value) value ≡ rest = from-UpTo (at_byte ends_bare_value) bytes rest h.3 in
    let b3 : before (at_byte ends_bare_value) value ≡ bytes = before-UpTo (at_byte ends_bare_value) bytes rest h.3 in
    let pair : List ℕ → List ℕ → List ℕ → List ℕ → Value × List ℕ = λ s m b r. (Bare s m b, r) in
    bare_read all after value (ap (first_is 61) f1) (sym (ap (drop 1) f1)) f2 (none_from value h.2)
    ∙ ap (λ s. pair s (before not_space after) (before (at_byte ends_bare_value) value) (from (at_byte ends_bare_value) value)) b1
    ∙ ap (λ m. pair space m (before (at_byte ends_bare_value) value) (from (at_byte ends_bare_value) value)) b2
    ∙ ap (λ b. pair space more b (from (at_byte ends_bare_value) value)) b3
    ∙ ap (λ r. pair space more bytes r) f3

quoted_again : (space more : List ℕ) (quote : ℕ) (bytes : List ℕ) (ending : Ending) (rest : List ℕ) → IsValue (Quoted space more quote bytes ending) rest
    → value_at (value_onto (Quoted space more quote bytes ending) rest) ≡ (Quoted space more quote bytes ending, rest)
quoted_again space more quote bytes ending rest h =
    let ends = end_onto (quote ∷ []) ending rest in
    let inner = bytes ++ ends in
    let value = quote ∷ inner in
    let after = more ++ value in
    let all = space ++ 61 ∷ after in
    let f1 : from not_space all ≡ 61 ∷ after = from-UpTo not_space space (61 ∷ after) h.0 in
    let b1 : before not_space all ≡ space = before-UpTo not_space space (61 ∷ after) h.0 in
    let f2 : value ≡ from not_space after = sym (from-UpTo not_space more value h.1) in
    let b2 : before not_space after ≡ more = before-UpTo not_space more value h.1 in
    let f3 : from (is_at quote) inner ≡ ends = from-UpTo (is_at quote) bytes ends h.3 in
    let b3 : before (is_at quote) inner ≡ bytes = before-UpTo (is_at quote) bytes ends h.3 in
    let again = ending_again quote ending rest h.4 in
    let pair : List ℕ → List ℕ → List ℕ → Ending → List ℕ → Value × List ℕ = λ s m b e r. (Quoted s m quote b e, r) in
    quoted_read all after value quote (ap (first_is 61) f1) (sym (ap (drop 1) f1)) f2 (ap (λ t. cond t (Some quote) None) h.2)
    ∙ ap (λ s. pair s (before not_space after) (before (is_at quote) inner) (ending_of (from (is_at quote) inner)) (drop 1 (from (is_at quote) inner))) b1
    ∙ ap (λ m. pair space m (before (is_at quote) inner) (ending_of (from (is_at quote) inner)) (drop 1 (from (is_at quote) inner))) b2
    ∙ ap (λ b. pair space more b (ending_of (from (is_at quote) inner)) (drop 1 (from (is_at quote) inner))) b3
    ∙ ap (λ u. pair space more bytes (ending_of u) (drop 1 u)) f3
    ∙ ap (λ e. pair space more bytes e (drop 1 ends)) again.0
    ∙ ap (λ r. pair space more bytes ending r) again.1

pub value_again : (v : Value) (rest : List ℕ) → IsValue v rest → value_at (value_onto v rest) ≡ (v, rest)
value_again Absent rest h = absent_read rest (sign_is rest ∙ h)
value_again (Bare space more bytes) rest h = bare_again space more bytes rest h
value_again (Quoted space more quote bytes ending) rest h = quoted_again space more quote bytes ending rest h

-- two values in front of one list are the same
pub one_value : (v w : Value) (r s : List ℕ) → IsValue v r → IsValue w s → value_onto v r ≡ value_onto w s → (v ≡ w) × (r ≡ s)
one_value v w r s h k e =
    let same : (v, r) ≡ (w, s) = sym (value_again v r h) ∙ ap value_at e ∙ value_again w s k in
    (ap (λ p. p.0) same, ap (λ p. p.1) same)
