-- A key is read again from the digits in which it is told.
use Rattle.std.proofs.Common.{◌≡◌, ℕ, zero, suc, ◌+◌, ◌*◌, ◌/◌, ◌%◌, ◌^◌, ◌<◌, true, length, Some, refl, ap, ◌∙◌, arith, length-append}
use Rattle.std.proofs.lemmas.Bool.{and_from}
use Rattle.std.proofs.lemmas.Bool.Decides.{nat_tests}
use Rattle.std.proofs.lemmas.Int.Digits.{digits_value_push}
use Rattle.std.proofs.lemmas.List.Folds.{list_all-append}
use Rattle.std.specs.Char.{digit_char, digit_value}
use Rattle.std.specs.List.{list_all}
use Rattle.std.specs.Str.Parse.{digits_value}
use Rattle.irl_tuple.specs.Tuples.{is_digit_of, key_of}
use Rattle.irl_tuple.specs.Verdicts.{hex_digits, key_digits}
use Rattle.irl_tuple.proofs.DigitLemmas.{hex_from, key_from}

char_value : (d : ℕ) → d < 16 → digit_value (digit_char d) ≡ d
char_value d small = grind (arith, nat_tests)

char_digit : (d : ℕ) → d < 16 → is_digit_of 16 (digit_char d) ≡ true
char_digit d small = grind (arith, nat_tests)

hex-length : (count n : ℕ) → length (hex_digits count n) ≡ count
hex-length zero n = refl
hex-length (suc count) n = length-append (hex_digits count (n / 16)) _ ∙ ap (λ l. l + 1) (hex-length count (n / 16)) ∙ omega arith

hex-digits : (count n : ℕ) → list_all (is_digit_of 16) (hex_digits count n) ≡ true
hex-digits zero n = refl
hex-digits (suc count) n =
    list_all-append (is_digit_of 16) (hex_digits count (n / 16)) _
    ∙ and_from _ _ (hex-digits count (n / 16)) (and_from _ _ (char_digit (n % 16) (omega arith)) refl)

hex-value : (count n : ℕ) → n < 16 ^ count → digits_value 16 (hex_digits count n) ≡ n
hex-value zero n small = omega arith
hex-value (suc count) n small =
    let front : n / 16 < 16 ^ count = omega (arith, small) in
    digits_value_push 16 (hex_digits count (n / 16)) (digit_char (n % 16))
    ∙ ap (λ v. v * 16 + digit_value (digit_char (n % 16))) (hex-value count (n / 16) front)
    ∙ ap (λ v. n / 16 * 16 + v) (char_value (n % 16) (omega arith)) ∙ omega arith

pub key-again : (key : ℕ) → key < 2 ^ 64 → key_of (key_digits key) ≡ Some key
key-again key small =
    let long = hex-length 16 key in
    key_from (key_digits key) (record { some = omega (arith, long); few = omega (arith, long); each = hex_from (hex_digits 16 key) (hex-digits 16 key) })
    ∙ ap (λ k. Some k) (hex-value 16 key (omega (arith, small)))
