-- The pay-level domain of a host, by a suffix text: what its owner pays a registry for.
use Rattle.std.specs.Prelude.{ℕ, ◌+◌, ◌-◌, Bool, ◌&&◌, ◌||◌, ◌==◌, nat_lt, List, [], ◌∷◌, take, length, slice_index, Option, Some, None, if◌then◌else◌}
use Rattle.std.specs.Char.{is_ascii_digit}
use Rattle.std.specs.List.{list_all}
use Rattle.irl_pld.specs.Cut.{cut}
use Rattle.irl_pld.specs.Names.{is_listed}

-- ---- the host

-- the host without `:` and a port: up to the bracket that closes it, or to the first `:`
abbrev pub without_port : List ℕ → List ℕ
without_port host =
    if slice_index host 0 == 91 then take (length (cut 93 host).0 + 1) host else (cut 58 host).0

-- the host without one dot at its end
abbrev pub without_last_dot : List ℕ → List ℕ
without_last_dot host =
    if slice_index host (length host - 1) == 46 then take (length host - 1) host else host

-- the host alone
abbrev pub bare : List ℕ → List ℕ
bare host = without_last_dot (without_port host)

-- what follows each dot of a host, the longest first
abbrev pub tails : List ℕ → List (List ℕ)
tails [] = []
tails (b ∷ bytes) = if b == 46 then bytes ∷ tails bytes else tails bytes

-- the tails of a host whose first tail this is, if it has one
abbrev pub tails_left : Option (List ℕ) → List (List ℕ)
tails_left None = []
tails_left (Some tail) = tail ∷ tails tail

-- the last of the list, or `first` where it is empty
abbrev pub last_of : List ℕ → List (List ℕ) → List ℕ
last_of first [] = first
last_of first (next ∷ others) = last_of next others

-- what follows the last dot of a host, or the host
abbrev pub last_label : List ℕ → List ℕ
last_label host = last_of host (tails host)

-- one digit or more, and nothing else
abbrev pub is_number : List ℕ → Bool
is_number label = nat_lt 0 (length label) && list_all is_ascii_digit label

-- ---- the domain

-- an address: it begins with `[`, or its last label is a number
abbrev pub is_address : List ℕ → Bool
is_address host = slice_index host 0 == 91 || is_number (last_label host)

-- Among a host and its tails the one with one label more than the longest that is listed.
-- Where none is listed, the one with two labels. A host of one label stays.
abbrev pub one_more : (List ℕ → Bool) → List ℕ → List (List ℕ) → List ℕ
one_more listed whole [] = whole
one_more listed whole (tail ∷ []) = whole
one_more listed whole (tail ∷ next ∷ others) =
    if listed tail then whole else one_more listed tail (next ∷ others)

-- the domain of a host alone: an address and a listed name are their own
abbrev pub domain_of : (List ℕ → Bool) → List ℕ → List ℕ
domain_of listed host =
    if is_address host || listed host then host else one_more listed host (tails host)

-- the pay-level domain of a host with or without a port
unfoldable pub pld_of : List ℕ → List ℕ → List ℕ
pld_of text host = domain_of (is_listed text) (bare host)
