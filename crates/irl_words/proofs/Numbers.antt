-- Numbers that a reader of a command line's values gives.
use Rattle.std.proofs.Common.{◌≡◌, ◌<◌, ◌≤◌, ◌^◌, ℕ, List, Option, Some, None, Result, Ok, Err, IfSome, refl, ap, arith, option_map, unwrap_or}
use Rattle.std.specs.Str.Parse.{ParsesUnsigned, digits_value, without_leading_plus}
use Rattle.clap.specs.Words.{IsUnsignedIn, ReadsOne, Row, one_of}
use Rattle.irl_words.specs.Words.{number_in}

-- a value that is a number of at most k bits is read as that number
pub number_read : {E : Type 0} (G : List ℕ → Result ℕ E → Type 0) (k most : ℕ) (value : Option (List ℕ)) (r : Option ℕ)
    → (value ≡ None → r ≡ None) → ((t : List ℕ) → value ≡ Some t → ReadsOne G t r)
    → ((u : List ℕ) (x : Result ℕ E) → G u x → ParsesUnsigned k 10 u x) → most < 2 ^ k → IfSome value (IsUnsignedIn 0 most)
    → r ≡ option_map (λ t. digits_value 10 (without_leading_plus t)) value
number_read {E} G k most None r none some only fits range = none refl
number_read {E} G k most (Some t) r none some only fits range = go r (some t refl)
  where
    go : (o : Option ℕ) → ReadsOne G t o → o ≡ Some (digits_value 10 (without_leading_plus t))
    go (Some v) h = ap (λ n. Some n) (only t (Ok v) h).1
    go None h =
        let small : digits_value 10 (without_leading_plus t) < 2 ^ k = omega arith in
        absurd (only t (Err h.0) h.1 (range.0, small))

-- a number that is named lies in its range, where the default does
pub number_in_range : (option : List ℕ) (least most default : ℕ) (rows : List Row) → IfSome (one_of option rows) (IsUnsignedIn least most) → least ≤ default → default ≤ most
    → (least ≤ unwrap_or (number_in option rows) default) × (unwrap_or (number_in option rows) default ≤ most)
number_in_range option least most default rows range low high = go (one_of option rows) range
  where
    go : (o : Option (List ℕ)) → IfSome o (IsUnsignedIn least most)
        → (least ≤ unwrap_or (option_map (λ t. digits_value 10 (without_leading_plus t)) o) default) × (unwrap_or (option_map (λ t. digits_value 10 (without_leading_plus t)) o) default ≤ most)
    go None h = (low, high)
    go (Some t) h = (h.2, h.3)
