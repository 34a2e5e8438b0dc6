-- The links of a page, and its base: read off its cut into pieces. A place is how many bytes of the page stand before
-- it.
use Rattle.std.specs.Prelude.{ℕ, ◌+◌, ◌≤◌, List, [], ◌∷◌, ◌++◌, length, Option, Some, None, if◌then◌else◌}
use Rattle.irl_scan.specs.declared.attribute.Ending.{Ending}
use Rattle.irl_scan.specs.declared.attribute.Ending.TheVariants.{Marked, PageEnd}
use Rattle.irl_scan.specs.declared.span.Span.{Span}
use Rattle.irl_scan.specs.declared.kind.Kind.{Kind}
use Rattle.irl_scan.specs.declared.kind.Kind.TheVariants.{Anchor, Frame, Base, Script, Style, Other}
use Rattle.irl_scan.specs.declared.piece.Found.{Found}
use Rattle.irl_scan.specs.declared.piece.Found.TheVariants as found
use Rattle.irl_scan.specs.Bytes.{kind_of, wants}
use Rattle.irl_scan.specs.Page.{Value, Absent, Bare, Quoted, Attribute, Piece, Letter, Comment, Skipped, Markup, attribute_onto, piece_onto}

-- how many bytes stand between an attribute's name and the bytes of its value
abbrev pub sign_length : Value → ℕ
sign_length Absent = 0
sign_length (Bare before after value) = length before + 1 + length after
sign_length (Quoted before after quote value ending) = length before + 1 + length after + 1

-- the bytes of a value, without quotes
abbrev pub value_bytes : Value → List ℕ
value_bytes Absent = []
value_bytes (Bare before after value) = value
value_bytes (Quoted before after quote value ending) = value

-- where the value stands, if the attribute's name ends at that place
abbrev pub value_span : ℕ → Value → Span
value_span place v = record { start = place + sign_length v; end = place + sign_length v + length (value_bytes v) }

-- the same, if the attribute begins at that place
abbrev pub attribute_span : ℕ → Attribute → Span
attribute_span place a = value_span (place + length a.gap + length a.name) a.value

-- where the first value that the tag wants stands, if its attributes begin at that place
abbrev pub first_span : Kind → ℕ → List Attribute → Option Span
first_span kind place [] = None
first_span kind place (a ∷ more) =
    if wants kind a.name then Some (attribute_span place a) else first_span kind (place + length (attribute_onto a []))
    more

-- A link is the first `href` of `a` and `area` and the first `src` of `frame` and `iframe`; the base is a first `href`
-- of `base`.
abbrev pub found_as : Kind → Option Span → Found
found_as kind None = found.Nothing
found_as Anchor (Some span) = found.Link span
found_as Frame (Some span) = found.Link span
found_as Base (Some span) = found.Base span
found_as Script (Some span) = found.Nothing
found_as Style (Some span) = found.Nothing
found_as Other (Some span) = found.Nothing

-- a tag that the page's end cuts off gives nothing
abbrev pub found_in : Ending → Kind → Option Span → Found
found_in Marked kind first = found_as kind first
found_in PageEnd kind first = found.Nothing

-- what a piece that begins at that place gives
abbrev pub found_at : ℕ → Piece → Found
found_at place (Letter b) = found.Nothing
found_at place (Comment body ending) = found.Nothing
found_at place (Skipped sign body ending) = found.Nothing
found_at place (Markup t) = found_in t.ending (kind_of t.name)
    (first_span (kind_of t.name) (place + 1 + length t.name) t.attributes)

abbrev pub link_of : Found → List Span
link_of found.Nothing = []
link_of (found.Link span) = span ∷ []
link_of (found.Base span) = []

-- a base comes before that of what follows
abbrev pub base_or : Found → Option Span → Option Span
base_or found.Nothing others = others
base_or (found.Link span) others = others
base_or (found.Base span) others = Some span

-- the links of pieces that begin at that place, in order
abbrev pub links_from : ℕ → List Piece → List Span
links_from place [] = []
links_from place (p ∷ more) = link_of (found_at place p) ++ links_from (place + length (piece_onto p [])) more

-- the first base in pieces that begin at that place
abbrev pub base_from : ℕ → List Piece → Option Span
base_from place [] = None
base_from place (p ∷ more) = base_or (found_at place p) (base_from (place + length (piece_onto p [])) more)

-- the span lies within a page of that size, and not backwards
pub record IsWithin (size : ℕ) (span : Span) : Type 0 where
  pub forward : span.start ≤ span.end
  pub inside : span.end ≤ size

abbrev pub links_of : List Piece → List Span
links_of pieces = links_from 0 pieces

abbrev pub base_of : List Piece → Option Span
base_of pieces = base_from 0 pieces
