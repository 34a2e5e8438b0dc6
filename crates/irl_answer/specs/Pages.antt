-- The links of a page as texts. A page has exactly one cut into pieces, and a value exactly one text (`one_cut` and
-- `one_text` of irl_scan), so that the links and the base of a page are functions of it.
use Rattle.std.specs.Prelude.{ℕ, List, length, slice_range, Option}
use Rattle.std.specs.Option.{option_map}
use Rattle.std.proofs.Common.{le_refl}
use Rattle.irl_scan.specs.declared.span.Span.{Span}
use Rattle.irl_scan.specs.Page.{Piece, Cut}
use Rattle.irl_scan.specs.Links.{links_of, base_of}
use Rattle.irl_scan.specs.Text.{Item, Reads, text_of}
use Rattle.irl_scan.proofs.Exists.{some_cut}
use Rattle.irl_scan.proofs.References.{some_text}

-- the cut of a page into pieces: its type says all of it, as there is no other
pub cut_of : (page : List ℕ) → (pieces : List Piece) × Cut page pieces
cut_of page =
    let some = some_cut (length page) (length page) page (le_refl (length page)) (le_refl (length page)) in
    (some.gives.pieces, some.gives.cut)

-- the reading of a value as bytes and references: its type says all that counts, as every other has the same text
pub reading_of : (value : List ℕ) → (items : List Item) × Reads value items
reading_of value =
    let some = some_text (length value) value (le_refl (length value)) in
    (some.has.items, some.has.reads)

-- the text of the value that stands in a span of a page
abbrev pub text_at : List ℕ → Span → List ℕ
text_at page span = text_of (reading_of (slice_range page span.start span.end)).0

-- where the links of a page stand, in order
abbrev pub spans_on : List ℕ → List Span
spans_on page = links_of (cut_of page).0

-- the text of its base, if it has one
abbrev pub base_text : List ℕ → Option (List ℕ)
base_text page = option_map (text_at page) (base_of (cut_of page).0)
