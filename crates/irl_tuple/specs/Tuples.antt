-- What a tuple line offers: `c KEY`, `u KEY VALUE`, `b KEY VALUE` or `b KEY VALUE AUX`. `Forms` has the same as it is
-- written.
use Rattle.std.specs.Prelude.{ℕ, ◌^◌, nat_eq, nat_lt, nat_le, Bool, ◌&&◌, ◌||◌, ◌==◌, not, if◌then◌else◌, List, [], ◌∷◌, length, drop, slice_index, bytes_eq, codes, Option, None, Some}
use Rattle.std.specs.Char.{is_digit, is_ascii_uppercase}
use Rattle.std.specs.List.{starts_with, list_all}
use Rattle.std.specs.Str.Parse.{digits_value}
use Rattle.irl_offer.specs.declared.offer.Op.{Op}
use Rattle.irl_offer.specs.declared.offer.Op.TheVariants.{Check, Update, Both}
use Rattle.irl_offer.specs.Tuple.{Tuple}

-- goes on where there is something
infixl 10 ◌>>=◌
abbrev pub ◌>>=◌ : {A B : Type 0} → Option A → (A → Option B) → Option B
None >>= f = None
(Some x) >>= f = f x

-- a digit of this radix, where a letter is lower-case
abbrev pub is_digit_of : ℕ → ℕ → Bool
is_digit_of radix b = is_digit b radix && not (is_ascii_uppercase b)

-- the number that digits write, if they are digits and it has at most 64 bits
abbrev pub number_of : ℕ → List ℕ → Option ℕ
number_of radix digits =
    if list_all (is_digit_of radix) digits && nat_lt (digits_value radix digits) (2 ^ 64) then Some
    (digits_value radix digits) else None

-- KEY: 1 to 16 hexadecimal digits
abbrev pub key_of : List ℕ → Option ℕ
key_of digits = if nat_le 1 (length digits) && nat_le (length digits) 16 then number_of 16 digits else None

-- VALUE: `0`, or decimal digits of which the first isn't 0
abbrev pub value_of : List ℕ → Option ℕ
value_of digits =
    if bytes_eq digits (codes "0") || (nat_le 1 (length digits) && not (slice_index digits 0 == 48)) then number_of 10
    digits else None

-- the bytes before the first space, and those behind it where there is one
unfoldable pub cut : List ℕ → List ℕ × Option (List ℕ)
cut [] = ([], None)
cut (b ∷ bytes) =
    let later = cut bytes in
    if b == 32 then ([], Some bytes) else (b ∷ later.0, later.1)

-- AUX, which has at least one byte where a space stands before it
abbrev pub aux_of : Option (List ℕ) → Option (List ℕ)
aux_of None = Some []
aux_of (Some []) = None
aux_of (Some (b ∷ bytes)) = Some (b ∷ bytes)

abbrev pub tuple : Op → ℕ → ℕ → List ℕ → Tuple
tuple op key value aux = record { op = op; key = key; value = value; from = 0; aux = aux }

-- the offer of each form, by what stands behind its letter and a space
unfoldable pub check_of : List ℕ → Option Tuple
check_of text = do
  key ← key_of text
  Some (tuple Check key 0 [])

unfoldable pub update_of : List ℕ → Option Tuple
update_of text = do
  key ← key_of (cut text).0
  rest ← (cut text).1
  value ← value_of rest
  Some (tuple Update key value [])

unfoldable pub both_of : List ℕ → Option Tuple
both_of text = do
  key ← key_of (cut text).0
  rest ← (cut text).1
  value ← value_of (cut rest).0
  aux ← aux_of (cut rest).1
  Some (tuple Both key value aux)

-- the text begins with this word
abbrev pub begins : List ℕ → List ℕ → Bool
begins word text = starts_with nat_eq text word

-- the offer of a line, if it is a tuple line
unfoldable pub tuple_of : List ℕ → Option Tuple
tuple_of line =
    if begins (codes "c ") line then check_of (drop 2 line)
    else (if begins (codes "u ") line then update_of (drop 2 line)
    else (if begins (codes "b ") line then both_of (drop 2 line)
    else None))
