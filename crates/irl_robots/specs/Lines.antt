-- The lines of a robots file and what each says (RFC 9309, section 2.2; its section 2.5 on the limit).
use Rattle.std.specs.Prelude.{ℕ, List, [], ◌∷◌, length, take, drop, Bool, true, false, ◌&&◌, ◌||◌, ◌==◌, nat_eq, nat_lt, if◌then◌else◌, codes}
use Rattle.std.specs.List.{starts_with, position_or_len, before_first, after_first}
use Rattle.std.specs.Str.{str_eq_ignore_ascii_case}
use Rattle.irl_base.specs.Blanks.{trim}
use Rattle.irl_base.specs.Limits.{max_robots}

-- the byte order mark of UTF-8
abbrev pub mark : List ℕ
mark = 239 ∷ 187 ∷ 191 ∷ []

abbrev pub without_mark : List ℕ → List ℕ
without_mark bytes = if starts_with nat_eq bytes mark then drop 3 bytes else bytes

-- The part of a file that counts: its first 500 KiB, the least that RFC 9309 asks for, without a byte order mark at
-- the front. The mark is one of the bytes that are counted.
unfoldable pub text_of : List ℕ → List ℕ
text_of bytes = without_mark (take max_robots bytes)

abbrev pub is_line_end : ℕ → Bool
is_line_end c = (c == 10) || (c == 13)

abbrev pub begins_with_line_feed : List ℕ → Bool
begins_with_line_feed [] = false
begins_with_line_feed (c ∷ cs) = c == 10

-- puts an octet before the first line
abbrev pub onto_first : ℕ → List (List ℕ) → List (List ℕ)
onto_first c [] = (c ∷ []) ∷ []
onto_first c (line ∷ lines) = (c ∷ line) ∷ lines

-- the lines of a text: each ends at CR LF, at CR, at LF or at the text's end, and its end is no part of it
unfoldable pub lines : List ℕ → List (List ℕ)
lines [] = []
lines (c ∷ cs) =
    if c == 10
    then [] ∷ lines cs
    else (if c == 13
    then (if begins_with_line_feed cs then lines cs else [] ∷ lines cs)
    else onto_first c (lines cs))

-- what follows the line end that a text begins with
abbrev pub after_end : List ℕ → List ℕ
after_end [] = []
after_end (c ∷ cs) = if (c == 13) && begins_with_line_feed cs then drop 1 cs else cs

-- what a line says: a user-agent line with its value, an allow (true) or disallow line with its value, or nothing
-- that counts here
pub data Line : Type 0 where
  Agent : List ℕ → Line
  Access : Bool → List ℕ → Line
  Other : Line

-- the fields that count, without regard to case
abbrev pub field : List ℕ → List ℕ → Line
field name value =
    if str_eq_ignore_ascii_case name (codes "user-agent")
    then Agent value
    else (if str_eq_ignore_ascii_case name (codes "allow")
    then Access true value
    else (if str_eq_ignore_ascii_case name (codes "disallow")
    then Access false value
    else Other))

-- From `#` on a line is a comment.
abbrev pub without_comment : List ℕ → List ℕ
without_comment line = before_first (λ c. c == 35) line

-- A field's name stands before the first `:` and its value behind it, both without blanks at their ends.
abbrev pub said : List ℕ → Line
said content =
    if nat_lt (position_or_len (λ c. c == 58) content) (length content)
    then field (trim (before_first (λ c. c == 58) content)) (trim (after_first (λ c. c == 58) content))
    else Other

-- what a line of the file says
unfoldable pub line_of : List ℕ → Line
line_of line = said (without_comment line)
