-- Keys and values by their digits, and back.
use Rattle.std.proofs.Common.{◌≡◌, ◌≢◌, ℕ, ◌^◌, ◌<◌, ◌≤◌, Bool, true, false, cond, nat_lt, ◌&&◌, ◌||◌, ◌==◌, not, List, [], ◌∷◌, length, get_or, Some, None, All, sym, ap, ◌∙◌, refl, arith, subst, inl, inr, lit<}
use Rattle.std.specs.Prelude.{nat_le, bytes_eq, codes, slice_index, Option}
use Rattle.std.proofs.lemmas.Bool.{cond-true, and_from, and_parts, or_cases, ltb-true, ne_eqb}
use Rattle.std.proofs.lemmas.Bool.Decides.{nat_tests}
use Rattle.std.proofs.lemmas.Option.{cond_some}
use Rattle.std.proofs.lemmas.Fmt.{digits_decimal, digits_value-decimal, decimal-digits_value, decimal_nonempty, first_decimal, decimal_digit}
use Rattle.std.proofs.lemmas.Int.Digits.{digits_value-lt}
use Rattle.std.proofs.lemmas.List.Elements.{All-nil, All-cons}
use Rattle.std.proofs.lemmas.List.Sums.{list_all-from_AllPass, AllPass-from_list_all}
use Rattle.std.proofs.lemmas.Slice.Eq.{bytes_eq-Decides}
use Rattle.std.proofs.lemmas.Str.Parse.{IsNumeralModel, numerals_by_value, tells_digits, digit_from_value}
use Rattle.std.proofs.Math.Nat.{pow-le-pow_right, eq-zero-or-pos}
use Rattle.std.specs.Char.{digit_value, is_digit, is_ascii_uppercase}
use Rattle.std.specs.Fmt.{decimal}
use Rattle.std.specs.Int.{IsInRange}
use Rattle.std.specs.List.{list_all, AllPass}
use Rattle.std.specs.Str.Parse.{AllDigits, digits_value}
use Rattle.irl_tuple.specs.Forms.{is_hex_digit, IsKey}
use Rattle.irl_tuple.specs.Tuples.{is_digit_of, number_of, key_of, value_of}
use Rattle.irl_tuple.proofs.CutLemmas.{IsNoSpace}

-- digits are those that `parse` takes
pub all_digits : (radix : ℕ) (ds : List ℕ) → list_all (is_digit_of radix) ds ≡ true → AllDigits radix ds
all_digits radix [] all = tt
all_digits radix (d ∷ ds) all =
    let parts = and_parts (is_digit_of radix d) (list_all (is_digit_of radix) ds) all in
    let here = and_parts (is_digit d radix) (not (is_ascii_uppercase d)) parts.0 in
    (ltb-true (digit_value d) radix here.0, all_digits radix ds parts.1)

-- and none of them is a space
pub no_space : (radix : ℕ) (ds : List ℕ) → radix ≤ 36 → AllDigits radix ds → All IsNoSpace ds
no_space radix [] most all = All-nil IsNoSpace
no_space radix (d ∷ ds) most all =
    let here : d ≢ 32 = λ e. absurd (omega (arith, subst (λ b. digit_value b < radix) e all.0)) in
    All-cons IsNoSpace d ds here (no_space radix ds most all.1)

-- decimal digits are no letters
not_upper : (d : ℕ) → digit_value d < 10 → is_digit_of 10 d ≡ true
not_upper d small =
    let range : IsInRange 48 57 d = digit_from_value d small in
    grind (arith, nat_tests)

all_decimal : (ds : List ℕ) → AllDigits 10 ds → list_all (is_digit_of 10) ds ≡ true
all_decimal [] all = refl
all_decimal (d ∷ ds) all = and_from _ _ (not_upper d all.0) (all_decimal ds all.1)

-- ---- numbers
pub number_some : (radix : ℕ) (ds : List ℕ) (n : ℕ) → number_of radix ds ≡ Some n → (list_all (is_digit_of radix) ds ≡ true) × (digits_value radix ds < 2 ^ 64) × (digits_value radix ds ≡ n)
number_some radix ds n is =
    let found = cond_some _ _ _ is in
    let both = and_parts _ _ found.0 in
    (both.0, ltb-true _ _ both.1, found.1)

pub number_from : (radix : ℕ) (ds : List ℕ) → list_all (is_digit_of radix) ds ≡ true → digits_value radix ds < 2 ^ 64 → number_of radix ds ≡ Some (digits_value radix ds)
number_from radix ds all fits =
    let test : nat_lt (digits_value radix ds) (2 ^ 64) ≡ true = grind (arith, nat_tests) in
    cond-true _ _ _ (and_from _ _ all test)

-- ---- keys
same_bool : (a b : Bool) → (a ≡ true → b ≡ true) → (b ≡ true → a ≡ true) → a ≡ b
same_bool true b to from = sym (to refl)
same_bool false true to from = from refl
same_bool false false to from = refl

within : (m n : ℕ) → (nat_le m n) ≡ true → m ≤ n
within m n is = grind (arith, nat_tests)

within_back : (m n : ℕ) → m ≤ n → (nat_le m n) ≡ true
within_back m n is = grind (arith, nat_tests)

chosen : {A : Type 0} (b : Bool) (o : Option A) (y : A) → cond b o None ≡ Some y → (b ≡ true) × (o ≡ Some y)
chosen true o y is = (refl, is)
chosen false o y is = let no : ⊥ = cc in absurd no

-- the digits as they are written are those that are read
hex_digit_is : (b : ℕ) → is_digit_of 16 b ≡ is_hex_digit b
hex_digit_is b = same_bool _ _ (λ is. grind (arith, nat_tests)) (λ is. grind (arith, nat_tests))

all_same : (ds : List ℕ) → list_all (is_digit_of 16) ds ≡ list_all is_hex_digit ds
all_same [] = refl
all_same (d ∷ ds) = rw (hex_digit_is d, all_same ds) refl

all_hex : (ds : List ℕ) → IsKey ds → list_all (is_digit_of 16) ds ≡ true
all_hex ds key = all_same ds ∙ list_all-from_AllPass is_hex_digit ds key.each

pub hex_from : (ds : List ℕ) → list_all (is_digit_of 16) ds ≡ true → AllPass is_hex_digit ds
hex_from ds all = AllPass-from_list_all is_hex_digit ds (sym (all_same ds) ∙ all)

pub key_some : (ds : List ℕ) (key : ℕ) → key_of ds ≡ Some key → IsKey ds × (digits_value 16 ds ≡ key)
key_some ds key is =
    let read = chosen _ _ _ is in
    let lengths = and_parts _ _ read.0 in
    let number = number_some 16 ds key read.1 in (
      record {
        some = within _ _ lengths.0;
        few = within _ _ lengths.1;
        each = hex_from ds number.0;
      },
      number.2,
    )

pub key_digits_all : (ds : List ℕ) → IsKey ds → AllDigits 16 ds
key_digits_all ds key = all_digits 16 ds (all_hex ds key)

pub key_from : (ds : List ℕ) → IsKey ds → key_of ds ≡ Some (digits_value 16 ds)
key_from ds key =
    let below : digits_value 16 ds < 16 ^ length ds = digits_value-lt 16 ds (key_digits_all ds key) in
    let most : 16 ^ length ds ≤ 16 ^ 16 = pow-le-pow_right (lit< tt) key.few in
    let fits : digits_value 16 ds < 2 ^ 64 = omega arith in
    cond-true _ _ _ (and_from _ _ (within_back 1 _ key.some) (within_back _ 16 key.few)) ∙ number_from 16 ds (all_hex ds key) fits

-- ---- values
own : IsNumeralModel (AllDigits 10) (digits_value 10)
own = numerals_by_value _ tells_digits

pub decimal_digits_all : (n : ℕ) → n < 2 ^ 64 → AllDigits 10 (decimal n)
decimal_digits_all n fits = digits_decimal own n fits

pub value_some : (ds : List ℕ) (n : ℕ) → value_of ds ≡ Some n → (ds ≡ decimal n) × (n < 2 ^ 64)
value_some ds n is =
    let read = chosen _ _ _ is in
    let number = number_some 10 ds n read.1 in
    let all = all_digits 10 ds number.0 in
    let form : (0 < length ds) × (get_or ds 0 0 ≡ 48 → length ds ≡ 1) =
    elim (or_cases _ _ read.0) [
      | inl zero ↦ let e : ds ≡ 48 ∷ [] = (bytes_eq-Decides ds (codes "0")).0 zero in
          subst (λ l. (0 < length l) × (get_or l 0 0 ≡ 48 → length l ≡ 1)) (sym e) (lit< tt, λ _. refl)
      | inr other ↦ let parts = and_parts _ _ other in
          (within _ _ parts.0, λ e. let no : ⊥ = grind (arith, nat_tests) in absurd no)
    ] in
    let same : decimal (digits_value 10 ds) ≡ ds = decimal-digits_value own ds all form.0 form.1 number.1 in
    (sym same ∙ ap decimal number.2, subst (λ v. v < 2 ^ 64) number.2 number.1)

or_right : (a b : Bool) → b ≡ true → (a || b) ≡ true
or_right true b is = refl
or_right false b is = is

canonical : (n : ℕ) → n < 2 ^ 64 → (bytes_eq (decimal n) (codes "0") || (nat_le 1 (length (decimal n)) && not (slice_index (decimal n) 0 == 48))) ≡ true
canonical n fits =
    elim (eq-zero-or-pos n) [
      | inl zero ↦ rw (zero, decimal_digit 0 (lit< tt)) refl
      | inr some ↦
          let many = decimal_nonempty n fits in
          let first = first_decimal n some fits in
          let other : (slice_index (decimal n) 0 == 48) ≡ false = ne_eqb _ _ (λ e. absurd (omega (arith, e, first))) in
          or_right _ _ (and_from _ _ (within_back 1 _ many) (ap not other))
    ]

pub value_from : (n : ℕ) → n < 2 ^ 64 → value_of (decimal n) ≡ Some n
value_from n fits =
    let value = digits_value-decimal own n fits in
    let all = all_decimal (decimal n) (decimal_digits_all n fits) in
    cond-true _ _ _ (canonical n fits) ∙ number_from 10 (decimal n) all (subst (λ v. v < 2 ^ 64) (sym value) fits) ∙ ap (λ v. Some v) value
