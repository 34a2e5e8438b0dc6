-- What a number's four digits are in print.
use Rattle.std.proofs.Common.{◌≡◌, ◌∙◌, ap, ℕ, ◌+◌, ◌-◌, ◌/◌, ◌%◌, ◌^◌, ◌<◌, ◌≤◌, false, [], ◌∷◌, ◌++◌, arith, ⊎_elim}
use Rattle.std.proofs.lemmas.Fmt.{decimal_digit, decimal_step}
use Rattle.std.specs.Fmt.{decimal, padded_integral, format_spec, char_count}
use Rattle.std.proofs.lemmas.Bool.{cases_lt}
use Rattle.irl_files.specs.Folder.{four_digits}

two : (n : ℕ) → 10 ≤ n → n < 100 → decimal n ≡ (48 + n / 10) ∷ (48 + n % 10) ∷ []
two n low high = decimal_step n low (omega arith) ∙ ap (λ front. front ++ (48 + n % 10) ∷ []) (decimal_digit (n / 10) (omega arith))

three : (n : ℕ) → 100 ≤ n → n < 1000 → decimal n ≡ (48 + n / 100) ∷ (48 + n / 10 % 10) ∷ (48 + n % 10) ∷ []
three n low high =
    let first : n / 10 / 10 ≡ n / 100 = omega arith in
    decimal_step n (omega arith) (omega arith)
    ∙ ap (λ front. front ++ (48 + n % 10) ∷ []) (two (n / 10) (omega arith) (omega arith))
    ∙ ap (λ digit. (48 + digit) ∷ (48 + n / 10 % 10) ∷ (48 + n % 10) ∷ []) first

four : (n : ℕ) → 1000 ≤ n → n < 10000 → decimal n ≡ four_digits n
four n low high =
    let first : n / 10 / 100 ≡ n / 1000 = omega arith in
    let second : n / 10 / 10 ≡ n / 100 = omega arith in
    decimal_step n (omega arith) (omega arith)
    ∙ ap (λ front. front ++ (48 + n % 10) ∷ []) (three (n / 10) (omega arith) (omega arith))
    ∙ (λ i. (48 + first i) ∷ (48 + second i % 10) ∷ (48 + n / 10 % 10) ∷ (48 + n % 10) ∷ [])

-- what `{:04}` writes of a number below 10,000
pub in_four : (n : ℕ) → n < 10000 → padded_integral (format_spec 32 0 4 4 (2 ^ 64 - 1)) false [] (decimal n) ≡ four_digits n
unfolding padded_integral char_count
in_four n high =
    let thousands : n < 1000 → n / 1000 ≡ 0 = λ small. omega arith in
    let hundreds : n < 100 → n / 100 % 10 ≡ 0 = λ small. omega arith in
    let tens : n < 10 → n / 10 % 10 ≡ 0 = λ small. omega arith in
    let ones : n < 10 → n % 10 ≡ n = λ small. omega arith in
    let tens_of_two : n < 100 → n / 10 % 10 ≡ n / 10 = λ small. omega arith in
    let hundreds_of_three : n < 1000 → n / 100 % 10 ≡ n / 100 = λ small. omega arith in
    ⊎_elim
    (λ small. rw (decimal_digit n small, thousands (omega arith), hundreds (omega arith), tens small, ones small))
    (λ above. ⊎_elim
    (λ small. rw (two n above small, thousands (omega arith), hundreds small, tens_of_two small))
    (λ above. ⊎_elim
    (λ small. rw (three n above small, thousands small, hundreds_of_three small))
    (λ above. rw (four n above high))
    (cases_lt n 1000))
    (cases_lt n 100))
    (cases_lt n 10)
