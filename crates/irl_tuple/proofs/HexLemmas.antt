-- The bytes of a verdict's line, one piece after another.
use Rattle.std.proofs.Common.{◌≡◌, ℕ, zero, suc, ◌-◌, ◌/◌, ◌%◌, ◌<◌, List, [], ◌∷◌, ◌++◌, Ok, Err, ap, ◌∙◌, arith, append_assoc}
use Rattle.std.specs.Prelude.{Result, OnOk, is_ok, if◌then◌else◌}
use Rattle.std.specs.Char.{digit_char}
use Rattle.irl_tuple.specs.Verdicts.{hex_digits}

-- the last digit, and those before it
hex_digits_step : (count n : ℕ) → 0 < count → hex_digits (count - 1) (n / 16) ++ digit_char (n % 16) ∷ [] ≡ hex_digits count n
hex_digits_step zero n some = absurd (omega (arith, some))
hex_digits_step (suc count) n some = ap (λ k. hex_digits k (n / 16) ++ digit_char (n % 16) ∷ []) (let same : suc count - 1 ≡ count = omega arith in same)

pub hex_pushed : {T E : Type 0} (r : Result T E) (count n digit : ℕ) (old front new : List ℕ) → 0 < count → front ≡ old ++ hex_digits (count - 1) (n / 16) → digit ≡ digit_char (n % 16)
    → new ≡ (if is_ok r then front ++ digit ∷ [] else front) → OnOk r (new ≡ old ++ hex_digits count n)
hex_pushed (Ok x) count n digit old front new some before last is =
    is ∙ ap (λ f. f ++ digit ∷ []) before ∙ ap (λ d. (old ++ hex_digits (count - 1) (n / 16)) ++ d ∷ []) last
    ∙ append_assoc old (hex_digits (count - 1) (n / 16)) (digit_char (n % 16) ∷ []) ∙ ap (λ l. old ++ l) (hex_digits_step count n some)
hex_pushed (Err e) count n digit old front new some before last is = tt

-- a word, a key, a space and a value
pub known_pushed : {T E : Type 0} (r : Result T E) (word key value a b c d new : List ℕ) → b ≡ a ++ word → c ≡ b ++ key → d ≡ c ++ 32 ∷ [] → new ≡ (if is_ok r then d ++ value else d)
    → OnOk r (new ≡ a ++ (word ++ (key ++ 32 ∷ value)))
known_pushed (Ok x) word key value a b c d new first second third is =
    is ∙ ap (λ l. l ++ value) (third ∙ ap (λ l. l ++ 32 ∷ []) (second ∙ ap (λ l. l ++ key) first))
    ∙ append_assoc ((a ++ word) ++ key) (32 ∷ []) value ∙ append_assoc (a ++ word) key (32 ∷ value) ∙ append_assoc a word (key ++ 32 ∷ value)
known_pushed (Err e) word key value a b c d new first second third is = tt
