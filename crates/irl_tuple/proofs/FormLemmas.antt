-- A line has an offer exactly where it is one of the forms.
use Rattle.std.proofs.Common.{◌≡◌, ℕ, ◌^◌, ◌<◌, Bool, true, false, cond, List, [], ◌∷◌, ◌++◌, length, take, drop, Some, None, All, sym, ap, ◌∙◌, refl, append-nil, take-append-drop, lit≤}
use Rattle.std.specs.Prelude.{codes, Option}
use Rattle.std.proofs.lemmas.Slice.Eq.{bytes_eq-Decides}
use Rattle.std.specs.Fmt.{decimal}
use Rattle.std.specs.Str.Parse.{digits_value}
use Rattle.irl_offer.specs.declared.offer.Op.TheVariants as op
use Rattle.irl_offer.specs.Tuple.{Tuple}
use Rattle.irl_tuple.specs.Forms.{Form, Check, Update, Both, spaced, line_of, IsKey, IsForm, offer_of, IsTupleLine}
use Rattle.irl_tuple.specs.Tuples.{◌>>=◌, key_of, value_of, cut, aux_of, tuple, check_of, update_of, both_of, begins, tuple_of}
use Rattle.irl_tuple.proofs.CutLemmas.{IsNoSpace, cut-at, cut-none, joined, joined-cut}
use Rattle.irl_tuple.proofs.DigitLemmas.{no_space, key_some, key_from, key_digits_all, value_some, value_from, decimal_digits_all}

-- ---- from a form to its offer

spaceless_key : (digits : List ℕ) → IsKey digits → All IsNoSpace digits
spaceless_key digits key = no_space 16 digits (lit≤ tt) (key_digits_all digits key)

spaceless_value : (n : ℕ) → n < 2 ^ 64 → All IsNoSpace (decimal n)
spaceless_value n fits = no_space 10 (decimal n) (lit≤ tt) (decimal_digits_all n fits)

-- what stands behind the value
abbrev behind : List ℕ → Option (List ℕ)
behind [] = None
behind (b ∷ bytes) = Some (b ∷ bytes)

cut-spaced : (front aux : List ℕ) → All IsNoSpace front → cut (front ++ spaced aux) ≡ (front, behind aux)
cut-spaced front [] none = ap cut (append-nil front) ∙ cut-none front none
cut-spaced front (b ∷ bytes) none = cut-at front (b ∷ bytes) none

aux_of-behind : (aux : List ℕ) → aux_of (behind aux) ≡ Some aux
aux_of-behind [] = refl
aux_of-behind (b ∷ bytes) = refl

check_form : (digits : List ℕ) → IsKey digits → check_of digits ≡ Some (offer_of (Check digits))
unfolding check_of
check_form digits key = ap (λ k. k >>= λ key. Some (tuple op.Check key 0 [])) (key_from digits key)

-- the parts of an update, one after another
abbrev updated : List ℕ × Option (List ℕ) → Option Tuple
updated parts = key_of parts.0 >>= λ key. parts.1 >>= λ rest. value_of rest >>= λ value. Some (tuple op.Update key value [])

update_form : (digits : List ℕ) (value : ℕ) → IsKey digits → value < 2 ^ 64 → update_of (digits ++ 32 ∷ decimal value) ≡ Some (offer_of (Update digits value))
unfolding update_of
update_form digits value key fits =
    ap updated (cut-at digits (decimal value) (spaceless_key digits key))
    ∙ ap (λ k. k >>= λ key. value_of (decimal value) >>= λ value. Some (tuple op.Update key value [])) (key_from digits key)
    ∙ ap (λ v. v >>= λ value. Some (tuple op.Update (digits_value 16 digits) value [])) (value_from value fits)

abbrev both_parts : ℕ → List ℕ × Option (List ℕ) → Option Tuple
both_parts key parts = value_of parts.0 >>= λ value. aux_of parts.1 >>= λ aux. Some (tuple op.Both key value aux)

abbrev both_told : List ℕ × Option (List ℕ) → Option Tuple
both_told parts = key_of parts.0 >>= λ key. parts.1 >>= λ rest. both_parts key (cut rest)

both_form : (digits : List ℕ) (value : ℕ) (aux : List ℕ) → IsKey digits → value < 2 ^ 64 → both_of (digits ++ 32 ∷ (decimal value ++ spaced aux)) ≡ Some (offer_of (Both digits value aux))
unfolding both_of
both_form digits value aux key fits =
    let rest = decimal value ++ spaced aux in
    ap both_told (cut-at digits rest (spaceless_key digits key))
    ∙ ap (λ k. k >>= λ key. both_parts key (cut rest)) (key_from digits key)
    ∙ ap (both_parts (digits_value 16 digits)) (cut-spaced (decimal value) aux (spaceless_value value fits))
    ∙ ap (λ v. v >>= λ value. aux_of (behind aux) >>= λ aux. Some (tuple op.Both (digits_value 16 digits) value aux)) (value_from value fits)
    ∙ ap (λ a. a >>= λ aux. Some (tuple op.Both (digits_value 16 digits) value aux)) (aux_of-behind aux)

of_form : (form : Form) → IsForm form → tuple_of (line_of form) ≡ Some (offer_of form)
unfolding tuple_of
of_form (Check digits) valid = check_form digits valid
of_form (Update digits value) valid = update_form digits value valid.0 valid.1
of_form (Both digits value aux) valid = both_form digits value aux valid.0 valid.1

pub from_line : (line : List ℕ) (offer : Tuple) → IsTupleLine line offer → tuple_of line ≡ Some offer
from_line line offer is = ap tuple_of is.written ∙ of_form is.form is.valid ∙ ap (λ o. Some o) (sym is.offers)

-- ---- from an offer to its form

-- what a step gave, and what came of it
bind_some : {A B : Type 0} (r : Option A) (f : A → Option B) (y : B) → (r >>= f) ≡ Some y → (x : A) × (r ≡ Some x) × (f x ≡ Some y)
bind_some None f y is = let no : ⊥ = cc in absurd no
bind_some (Some x) f y is = (x, refl, is)

some_same : {A : Type 0} (x y : A) → ◌≡◌ {A = Option A} (Some x) (Some y) → x ≡ y
some_same x y e = cc

begins_with : (word text : List ℕ) → begins word text ≡ true → text ≡ word ++ drop (length word) text
begins_with word text is =
    let same : word ≡ take (length word) text = (bytes_eq-Decides word (take (length word) text)).0 is in
    sym (take-append-drop (length word) text) ∙ ap (λ front. front ++ drop (length word) text) (sym same)

joined_of : (parts : List ℕ × Option (List ℕ)) (front rest : List ℕ) → parts.0 ≡ front → parts.1 ≡ Some rest → joined parts ≡ front ++ 32 ∷ rest
joined_of (first, None) front rest is_front is_rest = let no : ⊥ = cc in absurd no
joined_of (first, Some second) front rest is_front is_rest = ap (λ f. f ++ 32 ∷ second) is_front ∙ ap (λ r. front ++ 32 ∷ r) (some_same _ _ is_rest)

joined_is : (text front rest : List ℕ) → (cut text).0 ≡ front → (cut text).1 ≡ Some rest → text ≡ front ++ 32 ∷ rest
joined_is text front rest first second = sym (joined-cut text) ∙ joined_of (cut text) front rest first second

to_check : (line text : List ℕ) (offer : Tuple) → line ≡ codes "c " ++ text → check_of text ≡ Some offer → IsTupleLine line offer
unfolding check_of
to_check line text offer shape is =
    let key = bind_some (key_of text) _ offer is in
    let digits = key_some text key.0 key.1 in
    record {
      form = Check text;
      valid = digits.0;
      written = shape;
      offers = sym (some_same _ _ key.2) ∙ ap (λ k. tuple op.Check k 0 []) (sym digits.1);
    }

to_update : (line text : List ℕ) (offer : Tuple) → line ≡ codes "u " ++ text → update_of text ≡ Some offer → IsTupleLine line offer
unfolding update_of
to_update line text offer shape is =
    let key = bind_some (key_of (cut text).0) _ offer is in
    let rest = bind_some (cut text).1 _ offer key.2 in
    let value = bind_some (value_of rest.0) _ offer rest.2 in
    let digits = key_some (cut text).0 key.0 key.1 in
    let number = value_some rest.0 value.0 value.1 in
    record {
      form = Update (cut text).0 value.0;
      valid = (digits.0, number.1);
      written = shape ∙ ap (λ t. codes "u " ++ t) (joined_is text (cut text).0 rest.0 refl rest.1 ∙ ap (λ r. (cut text).0 ++ 32 ∷ r) number.0);
      offers = sym (some_same _ _ value.2) ∙ ap (λ k. tuple op.Update k value.0 []) (sym digits.1);
    }

-- what stands behind the value, by the text that it gives
rest_is : (parts : List ℕ × Option (List ℕ)) (aux : List ℕ) → aux_of parts.1 ≡ Some aux → joined parts ≡ parts.0 ++ spaced aux
rest_is (front, None) aux is = let none : aux ≡ [] = sym (some_same _ _ is) in sym (ap (λ a. front ++ spaced a) none ∙ append-nil front)
rest_is (front, Some []) aux is = let no : ⊥ = cc in absurd no
rest_is (front, Some (b ∷ bytes)) aux is = ap (λ a. front ++ spaced a) (some_same _ _ is)

to_both : (line text : List ℕ) (offer : Tuple) → line ≡ codes "b " ++ text → both_of text ≡ Some offer → IsTupleLine line offer
unfolding both_of
to_both line text offer shape is =
    let key = bind_some (key_of (cut text).0) _ offer is in
    let rest = bind_some (cut text).1 _ offer key.2 in
    let value = bind_some (value_of (cut rest.0).0) _ offer rest.2 in
    let aux = bind_some (aux_of (cut rest.0).1) _ offer value.2 in
    let digits = key_some (cut text).0 key.0 key.1 in
    let number = value_some (cut rest.0).0 value.0 value.1 in
    let whole : rest.0 ≡ decimal value.0 ++ spaced aux.0 = sym (joined-cut rest.0) ∙ rest_is (cut rest.0) aux.0 aux.1 ∙ ap (λ f. f ++ spaced aux.0) number.0 in
    record {
      form = Both (cut text).0 value.0 aux.0;
      valid = (digits.0, number.1);
      written = shape ∙ ap (λ t. codes "b " ++ t) (joined_is text (cut text).0 rest.0 refl rest.1 ∙ ap (λ r. (cut text).0 ++ 32 ∷ r) whole);
      offers = sym (some_same _ _ aux.2) ∙ ap (λ k. tuple op.Both k value.0 aux.0) (sym digits.1);
    }

by_both : (line : List ℕ) (offer : Tuple) (test : Bool) → begins (codes "b ") line ≡ test → cond test (both_of (drop 2 line)) None ≡ Some offer → IsTupleLine line offer
by_both line offer true is found = to_both line (drop 2 line) offer (begins_with (codes "b ") line is) found
by_both line offer false is found = let no : ⊥ = cc in absurd no

by_update : (line : List ℕ) (offer : Tuple) (test : Bool) → begins (codes "u ") line ≡ test
    → cond test (update_of (drop 2 line)) (cond (begins (codes "b ") line) (both_of (drop 2 line)) None) ≡ Some offer → IsTupleLine line offer
by_update line offer true is found = to_update line (drop 2 line) offer (begins_with (codes "u ") line is) found
by_update line offer false is found = by_both line offer (begins (codes "b ") line) refl found

by_check : (line : List ℕ) (offer : Tuple) (test : Bool) → begins (codes "c ") line ≡ test
    → cond test (check_of (drop 2 line)) (cond (begins (codes "u ") line) (update_of (drop 2 line)) (cond (begins (codes "b ") line) (both_of (drop 2 line)) None)) ≡ Some offer
    → IsTupleLine line offer
by_check line offer true is found = to_check line (drop 2 line) offer (begins_with (codes "c ") line is) found
by_check line offer false is found = by_update line offer (begins (codes "u ") line) refl found

pub to_line : (line : List ℕ) (offer : Tuple) → tuple_of line ≡ Some offer → IsTupleLine line offer
unfolding tuple_of
to_line line offer found = by_check line offer (begins (codes "c ") line) refl found
