-- Texts of URLs that are seen to be canonical without a parse: the URL Standard leaves each of their parts as it is.
use Rattle.std.specs.Prelude.{ℕ, Bool, true, not, ◌&&◌, ◌||◌, ◌==◌, nat_le, List, [], ◌∷◌, take, drop, length, slice_index, codes, bytes_eq, Option, Some, None, if◌then◌else◌}
use Rattle.std.specs.Char.{is_ascii_digit, is_ascii_lowercase, is_ascii_alphanumeric}
use Rattle.std.specs.List.{list_all}
use Rattle.url.specs.Input.{split_once, rsplit_once}
use Rattle.irl_base.specs.Limits.{max_text}

-- ---- the host

-- a lower-case letter, a digit, `-` or `.`: none of them is forbidden in a domain, and none is put in lower case
-- (sections 3.2 and 3.3)
abbrev pub is_host_byte : ℕ → Bool
is_host_byte b = is_ascii_lowercase b || is_ascii_digit b || b == 45 || b == 46

-- a letter follows the last dot, or begins a host without dots: the host ends in no number, so it is no IPv4 address
-- (section 3.5)
abbrev pub is_named : List ℕ → Bool
is_named host = is_ascii_lowercase (slice_index (rsplit_once 46 host).1 0)

abbrev pub is_plain_host : List ℕ → Bool
is_plain_host host = is_named host && list_all is_host_byte host

-- ---- what follows the host

-- one of `!$%&()*+,-./:;=?@_~`
abbrev pub is_mark : ℕ → Bool
is_mark b =
    b == 33 || (nat_le 36 b && nat_le b 38) || (nat_le 40 b && nat_le b 47)
    || b == 58 || b == 59 || b == 61 || b == 63 || b == 64 || b == 95 || b == 126

-- `?`, which ends a path, or a byte that neither the path nor the query of an http URL escapes (section 1.3)
abbrev pub is_target_byte : ℕ → Bool
is_target_byte b = is_ascii_alphanumeric b || is_mark b

-- the byte can stand behind that one: no segment begins with `.` or `%`, as each dot segment does (section 4.1)
abbrev pub may_follow : ℕ → ℕ → Bool
may_follow before b = not (before == 47) || (not (b == 46) && not (b == 37))

-- these bytes can stand behind that one
abbrev pub is_plain_behind : ℕ → List ℕ → Bool
is_plain_behind before [] = true
is_plain_behind before (b ∷ bytes) = is_target_byte b && may_follow before b && is_plain_behind b bytes

-- ---- the text

-- the host, where a slash and plain bytes follow it
abbrev pub host_before : List ℕ → Option (List ℕ) → Option (List ℕ)
host_before host None = None
host_before host (Some target) = if is_plain_host host && is_plain_behind 47 target then Some host else None

-- the host in front of the first slash
abbrev pub host_in_front : List ℕ → Option (List ℕ)
host_in_front rest = host_before (split_once 47 rest).0 (split_once 47 rest).1

-- the host of a text that is plainly canonical
unfoldable pub sight_of : List ℕ → Option (List ℕ)
sight_of text =
    if nat_le (length text) max_text && bytes_eq (take 7 text) (codes "http://")
    then host_in_front (drop 7 text)
    else None
