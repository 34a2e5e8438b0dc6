-- What the scanner's own functions read at a place. Private contracts alone speak of it: the proofs show that it is the
-- one cut of the page, and the one reading of a value.
use Rattle.std.specs.Prelude.{ℕ, ◌≡◌, ◌+◌, ◌*◌, ◌≤◌, Bool, false, ◌&&◌, ◌||◌, ◌==◌, not, nat_lt, nat_eq, List, [], ◌∷◌, length, take, drop, Option, Some, None, codes, if◌then◌else◌}
use Rattle.std.specs.List.{starts_with}
use Rattle.std.specs.Char.{digit_value}
use Rattle.irl_scan.specs.declared.attribute.Ending.{Ending}
use Rattle.irl_scan.specs.declared.attribute.Ending.TheVariants.{Marked, PageEnd}
use Rattle.irl_scan.specs.declared.span.Span.{Span}
use Rattle.irl_scan.specs.declared.kind.Kind.{Kind}
use Rattle.irl_scan.specs.declared.piece.Found.{Found}
use Rattle.irl_scan.specs.declared.piece.Found.TheVariants as found
use Rattle.irl_scan.specs.declared.reference.Radix.{Radix}
use Rattle.irl_scan.specs.declared.reference.Radix.TheVariants.{Ten, Sixteen}
use Rattle.irl_scan.specs.Bytes.{is_gap, ends_attribute_name, ends_bare_value, is_quote, at_byte}
use Rattle.irl_scan.specs.Page.{Value, Absent, Bare, Quoted, Attribute, Piece, end_onto, attributes_onto, piece_onto, tag_end_onto, AreAttributes, IsGap, EndsBy, IsPiece, not_space, Cut}
use Rattle.irl_scan.specs.Links.{IsWithin, first_span, found_at, links_from, base_from}
use Rattle.irl_scan.specs.Text.{Item, Reads, text_of}

-- what is left from the first place at which the test holds, and what stands before it
abbrev pub from : (List ℕ → Bool) → List ℕ → List ℕ
from stops [] = []
from stops (b ∷ bs) = if stops (b ∷ bs) then b ∷ bs else from stops bs

abbrev pub before : (List ℕ → Bool) → List ℕ → List ℕ
before stops [] = []
before stops (b ∷ bs) = if stops (b ∷ bs) then [] else b ∷ before stops bs

abbrev pub radix_of : Radix → ℕ
radix_of Ten = 10
radix_of Sixteen = 16

-- where runs end: at a byte that is neither white space nor `/`,
abbrev pub not_gap : List ℕ → Bool
not_gap = at_byte (λ b. not (is_gap b))

-- at that byte,
abbrev pub is_at : ℕ → List ℕ → Bool
is_at byte = at_byte (λ b. b == byte)

-- and at a byte that is no digit
abbrev pub not_digit : Radix → List ℕ → Bool
not_digit radix = at_byte (λ b. not (nat_lt (digit_value b) (radix_of radix)))

-- so many bytes stand before the first place at which the test holds
pub record IsRun (stops : List ℕ → Bool) (xs : List ℕ) (n : ℕ) : Type 0 where
  pub within : n ≤ length xs
  pub front : take n xs ≡ before stops xs
  pub back : drop n xs ≡ from stops xs

abbrev pub ending_of : List ℕ → Ending
ending_of [] = PageEnd
ending_of (b ∷ bs) = Marked

-- it begins with that byte
abbrev pub first_is : ℕ → List ℕ → Bool
first_is byte [] = false
first_is byte (b ∷ bs) = b == byte

-- the quote that it begins with
abbrev pub quote_at : List ℕ → Option ℕ
quote_at [] = None
quote_at (b ∷ bs) = if is_quote b then Some b else None

-- behind the space before it, the sign and the space after it
unfoldable pub content_at : List ℕ → List ℕ → List ℕ → Option ℕ → Value × List ℕ
content_at space after value None = (
  Bare space after (before (at_byte ends_bare_value) value),
  from (at_byte ends_bare_value) value,
)
content_at space after value (Some quote) = (
  Quoted space after quote (before (is_at quote) (drop 1 value)) (ending_of (from (is_at quote) (drop 1 value))),
  drop 1 (from (is_at quote) (drop 1 value)),
)

-- the value behind an attribute's name, and what is left
unfoldable pub value_at : List ℕ → Value × List ℕ
value_at rest =
    if first_is 61 (from not_space rest) then
    content_at (before not_space rest) (before not_space (drop 1 (from not_space rest)))
    (from not_space (drop 1 (from not_space rest))) (quote_at (from not_space (drop 1 (from not_space rest))))
    else (Absent, rest)

-- an attribute's name, of at least one byte, and what is left behind it
abbrev pub name_of : List ℕ → List ℕ
name_of [] = []
name_of (b ∷ bs) = b ∷ before (at_byte ends_attribute_name) bs

abbrev pub behind_name : List ℕ → List ℕ
behind_name rest = from (at_byte ends_attribute_name) (drop 1 rest)

-- the first that there is
abbrev pub or_first : Option Span → Option Span → Option Span
or_first None second = second
or_first (Some first) second = Some first

-- the inside of a tag: attributes as far as its end, of which this is the first that is wanted
pub record ReadsInside (kind : Kind) (place : ℕ) (inside : List ℕ) (first : Option Span) (ending : Ending)
    (rest : List ℕ) : Type 0 where
  pub attributes : List Attribute
  pub gap : List ℕ
  pub spelled : inside ≡ attributes_onto attributes (tag_end_onto gap ending rest)
  pub each : AreAttributes attributes (tag_end_onto gap ending rest)
  pub gap_ends : IsGap gap (end_onto (codes ">") ending rest)
  pub ends : EndsBy ending rest
  pub first_is : first ≡ first_span kind place attributes

-- a piece that begins at that place, and what it gives
pub record Takes (place : ℕ) (page : List ℕ) (found : Found) (rest : List ℕ) : Type 0 where
  pub piece : Piece
  pub spelled : page ≡ piece_onto piece rest
  pub formed : IsPiece piece rest
  pub gives : found ≡ found_at place piece

-- pieces from that place to the page's end, and what they give
pub record Gives (place : ℕ) (page : List ℕ) (spans : List Span) (base : Option Span) : Type 0 where
  pub pieces : List Piece
  pub cut : Cut page pieces
  pub spans_are : spans ≡ links_from place pieces
  pub base_is : base ≡ base_from place pieces

abbrev pub found_within : ℕ → Found → Type 0
found_within size found.Nothing = Unit {0}
found_within size (found.Link span) = IsWithin size span
found_within size (found.Base span) = IsWithin size span

-- ## References

-- the number below 128 that the digits write behind those of n
abbrev pub number_from : ℕ → ℕ → List ℕ → Option ℕ
number_from radix n [] = Some n
number_from radix n (c ∷ cs) =
    if nat_lt (digit_value c) radix && nat_lt (n * radix + digit_value c) 128 then number_from radix
    (n * radix + digit_value c) cs else None

abbrev pub most_digits : Radix → ℕ
most_digits Ten = 7
most_digits Sixteen = 6

-- what is left behind the `;`
abbrev pub closed : List ℕ → List ℕ → Option ℕ → Option (ℕ × List ℕ)
closed digits behind None = None
closed digits behind (Some n) = Some (n, drop 1 behind)

-- a number and its `;`
unfoldable pub number_at : Radix → List ℕ → Option (ℕ × List ℕ)
number_at radix rest =
    if (length (before (not_digit radix) rest) == 0 || nat_lt (most_digits radix)
    (length (before (not_digit radix) rest))) || not (first_is 59 (from (not_digit radix) rest)) then None
    else closed (before (not_digit radix) rest) (from (not_digit radix) rest)
    (number_from (radix_of radix) 0 (before (not_digit radix) rest))

-- the byte that a reference at the front stands for, and what is left
unfoldable pub reference_at : List ℕ → Option (ℕ × List ℕ)
reference_at rest =
    if not (first_is 38 rest) then None else
    (if starts_with nat_eq rest (codes "&amp;") then Some (38, drop 5 rest) else
    (if starts_with nat_eq rest (codes "&lt;") then Some (60, drop 4 rest) else
    (if starts_with nat_eq rest (codes "&gt;") then Some (62, drop 4 rest) else
    (if starts_with nat_eq rest (codes "&quot;") then Some (34, drop 6 rest) else
    (if starts_with nat_eq rest (codes "&apos;") then Some (39, drop 6 rest) else
    (if starts_with nat_eq rest (codes "&#x") || starts_with nat_eq rest (codes "&#X") then number_at Sixteen
    (drop 3 rest) else
    (if starts_with nat_eq rest (codes "&#") then number_at Ten (drop 2 rest) else None)))))))

-- what the value reads as
pub record HasText (value text : List ℕ) : Type 0 where
  pub items : List Item
  pub reads : Reads value items
  pub text_is : text ≡ text_of items
