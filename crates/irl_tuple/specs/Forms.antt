-- Tuple lines as they are written: which bytes are one, and which offer they give.
use Rattle.std.specs.Prelude.{◌≡◌, ℕ, ◌^◌, ◌<◌, ◌≤◌, Bool, ◌||◌, List, [], ◌∷◌, ◌++◌, length, codes}
use Rattle.std.specs.Fmt.{decimal}
use Rattle.std.specs.Int.{is_in_range}
use Rattle.std.specs.List.{AllPass}
use Rattle.std.specs.Str.Parse.{digits_value}
use Rattle.irl_offer.specs.declared.offer.Op.TheVariants as op
use Rattle.irl_offer.specs.Tuple.{Tuple}
use Rattle.irl_tuple.specs.Tuples.{tuple}

-- `c KEY` by the digits of KEY, `u KEY VALUE` by these and the value, `b KEY VALUE AUX` by these and AUX, which may be
-- empty
pub data Form : Type 0 where
  Check : List ℕ → Form
  Update : List ℕ → ℕ → Form
  Both : List ℕ → ℕ → List ℕ → Form

-- a text behind a space, or nothing where it is empty
abbrev pub spaced : List ℕ → List ℕ
spaced [] = []
spaced (b ∷ bytes) = 32 ∷ b ∷ bytes

-- the bytes of a line
abbrev pub line_of : Form → List ℕ
line_of (Check digits) = codes "c " ++ digits
line_of (Update digits value) = codes "u " ++ (digits ++ 32 ∷ decimal value)
line_of (Both digits value aux) = codes "b " ++ (digits ++ 32 ∷ (decimal value ++ spaced aux))

-- a lower-case hexadecimal digit: 0 to 9, a to f
abbrev pub is_hex_digit : ℕ → Bool
is_hex_digit b = is_in_range 48 57 b || is_in_range 97 102 b

-- KEY has 1 to 16 of them
pub record IsKey (digits : List ℕ) : Type 0 where
  pub some : 1 ≤ length digits
  pub few : length digits ≤ 16
  pub each : AllPass is_hex_digit digits

-- and VALUE has at most 64 bits
abbrev pub IsForm : Form → Type 0
IsForm (Check digits) = IsKey digits
IsForm (Update digits value) = IsKey digits × (value < 2 ^ 64)
IsForm (Both digits value aux) = IsKey digits × (value < 2 ^ 64)

-- the offer of a line
abbrev pub offer_of : Form → Tuple
offer_of (Check digits) = tuple op.Check (digits_value 16 digits) 0 []
offer_of (Update digits value) = tuple op.Update (digits_value 16 digits) value []
offer_of (Both digits value aux) = tuple op.Both (digits_value 16 digits) value aux

-- the line is a tuple line, and this is its offer
pub record IsTupleLine (line : List ℕ) (offer : Tuple) : Type 0 where
  pub form : Form
  pub valid : IsForm form
  pub written : line ≡ line_of form
  pub offers : offer ≡ offer_of form
