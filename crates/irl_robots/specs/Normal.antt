-- The form in which paths are compared (RFC 9309, section 2.2.2; percent triplets are those of RFC 3986, section 2.1).
-- RFC 9309 also encodes octets of the reserved range. This profile leaves them as they are written, so that a
-- reserved octet and its triplet differ.
use Rattle.std.specs.Prelude.{ℕ, ◌+◌, ◌*◌, ◌/◌, ◌%◌, List, [], ◌∷◌, ◌++◌, Bool, false, ◌&&◌, ◌||◌, ◌==◌, nat_lt, if◌then◌else◌}
use Rattle.std.specs.Char.{digit_value, is_digit, to_ascii_uppercase, is_ascii_alphanumeric}

-- letters, digits, `-`, `.`, `_` and `~` (RFC 3986, section 2.3)
abbrev pub is_unreserved : ℕ → Bool
is_unreserved c = is_ascii_alphanumeric c || (c == 45) || (c == 46) || (c == 95) || (c == 126)

-- the upper-case hexadecimal digit that writes a number below 16
abbrev pub hex_digit : ℕ → ℕ
hex_digit n = if nat_lt n 10 then 48 + n else 55 + n

-- `%` and two hexadecimal digits
abbrev pub is_triplet : ℕ → ℕ → ℕ → Bool
is_triplet percent high low = (percent == 37) && is_digit high 16 && is_digit low 16

-- whether a path begins with a triplet
abbrev pub begins_triplet : List ℕ → Bool
begins_triplet [] = false
begins_triplet (c ∷ []) = false
begins_triplet (c ∷ d ∷ []) = false
begins_triplet (c ∷ d ∷ e ∷ cs) = is_triplet c d e

-- the octet that the digits of a triplet stand for
abbrev pub triplet_value : ℕ → ℕ → ℕ
triplet_value high low = 16 * digit_value high + digit_value low

-- a triplet of an unreserved octet is that octet, any other has its digits in upper case
abbrev pub normal_triplet : ℕ → ℕ → List ℕ
normal_triplet high low =
    if is_unreserved (triplet_value high low)
    then triplet_value high low ∷ []
    else 37 ∷ to_ascii_uppercase high ∷ to_ascii_uppercase low ∷ []

-- an octet above 127 is its triplet, any other stays
abbrev pub normal_octet : ℕ → List ℕ
normal_octet c = if nat_lt 127 c then 37 ∷ hex_digit (c / 16) ∷ hex_digit (c % 16) ∷ [] else c ∷ []

-- a path or a pattern as it is compared; a `%` without two hexadecimal digits stays
unfoldable pub normal : List ℕ → List ℕ
normal [] = []
normal (c ∷ []) = normal_octet c
normal (c ∷ d ∷ []) = normal_octet c ++ normal_octet d
normal (c ∷ d ∷ e ∷ cs) =
    if is_triplet c d e then normal_triplet d e ++ normal cs else normal_octet c ++ normal (d ∷ e ∷ cs)
