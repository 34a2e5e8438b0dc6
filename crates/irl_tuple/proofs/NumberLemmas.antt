-- Numbers by their digits, while these are read from the highest on.
use Rattle.std.proofs.Common.{◌≡◌, ℕ, ◌+◌, ◌*◌, ◌^◌, ◌<◌, ◌≤◌, Bool, true, false, cond, nat_lt, List, length, get_or, take, Some, None, sym, ap, ◌∙◌, refl, arith}
use Rattle.std.proofs.lemmas.Bool.{cond-true, cond-false, and_from, and_right}
use Rattle.std.proofs.lemmas.Bool.Decides.{nat_tests}
use Rattle.std.proofs.lemmas.Int.Digits.{digits_value_more}
use Rattle.std.proofs.lemmas.List.{take_all}
use Rattle.std.proofs.lemmas.List.Folds.{list_all_more}
use Rattle.std.proofs.lemmas.Str.Parse.{digits_value-take-le}
use Rattle.std.specs.Char.{digit_value}
use Rattle.std.specs.List.{list_all}
use Rattle.std.specs.Str.Parse.{digits_value}
use Rattle.irl_tuple.specs.Tuples.{is_digit_of, number_of}

-- a byte that is a digit, and its value
pub digit_is : (test : Bool) (d v : ℕ) → Some d ≡ cond test (Some v) None → (test ≡ true) × (d ≡ v)
digit_is true d v e = (refl, cc)
digit_is false d v e = let no : ⊥ = cc in absurd no

-- one more digit
pub number_more : (radix : ℕ) (bs : List ℕ) (i n r d : ℕ) → i < length bs → n ≡ digits_value radix (take i bs) → r ≡ radix → d ≡ digit_value (get_or bs i 0)
    → n * r + d ≡ digits_value radix (take (i + 1) bs)
number_more radix bs i n r d inside is radix_is digit =
    ap (λ k. k * r + d) is ∙ ap (λ k. digits_value radix (take i bs) * k + d) radix_is ∙ ap (λ k. digits_value radix (take i bs) * radix + k) digit
    ∙ sym (digits_value_more radix bs i inside)

pub digits_more : (radix : ℕ) (bs : List ℕ) (i : ℕ) → i < length bs → list_all (is_digit_of radix) (take i bs) ≡ true → is_digit_of radix (get_or bs i 0) ≡ true
    → list_all (is_digit_of radix) (take (i + 1) bs) ≡ true
digits_more radix bs i inside before here = list_all_more (is_digit_of radix) bs i 0 inside ∙ and_from _ _ before here

-- the first digits have a number that doesn't fit
pub number_fails : (radix : ℕ) (bs : List ℕ) (i : ℕ) → 1 ≤ radix → 2 ^ 64 ≤ digits_value radix (take i bs) → number_of radix bs ≡ None
number_fails radix bs i some great =
    let most : 2 ^ 64 ≤ digits_value radix bs = omega (arith, great, digits_value-take-le radix bs i some) in
    let test : nat_lt (digits_value radix bs) (2 ^ 64) ≡ false = grind (arith, nat_tests) in
    cond-false _ _ _ (and_right _ _ test)

-- all were read
pub number_is : (radix : ℕ) (bs : List ℕ) (i n : ℕ) → length bs ≤ i → list_all (is_digit_of radix) (take i bs) ≡ true → n ≡ digits_value radix (take i bs) → n < 2 ^ 64 → Some n ≡ number_of radix bs
number_is radix bs i n whole digits value fits =
    let all : take i bs ≡ bs = take_all i bs whole in
    let is : n ≡ digits_value radix bs = value ∙ ap (digits_value radix) all in
    let test : nat_lt (digits_value radix bs) (2 ^ 64) ≡ true = grind (arith, nat_tests) in
    ap (λ v. Some v) is ∙ sym (cond-true _ _ _ (and_from _ _ (sym (ap (list_all (is_digit_of radix)) all) ∙ digits) test))
