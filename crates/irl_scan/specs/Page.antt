-- A page, cut into text, comments, skipped markup and tags with the raw text behind them, and each tag into its name
-- and its attributes. The pieces joined are the page, and each of them goes as far as the grammar says, which what
-- stands behind it shows. The grammar is the project's own, after the tokenization of HTML (WHATWG HTML, section
-- 13.2.5) but simpler: what is said here is all that there is.
use Rattle.std.specs.Prelude.{ℕ, ◌≡◌, Bool, true, false, ◌&&◌, ◌||◌, ◌==◌, not, List, [], ◌∷◌, ◌++◌, length, take, drop, nat_eq, codes, if◌then◌else◌}
use Rattle.std.specs.List.{starts_with}
use Rattle.std.specs.Char.{is_ascii_alphabetic}
use Rattle.irl_scan.specs.declared.kind.Kind.{Kind}
use Rattle.irl_scan.specs.declared.kind.Kind.TheVariants.{Anchor, Frame, Base, Script, Style, Other}
use Rattle.irl_scan.specs.declared.attribute.Ending.{Ending}
use Rattle.irl_scan.specs.declared.attribute.Ending.TheVariants.{Marked, PageEnd}
use Rattle.irl_scan.specs.declared.piece.Opening.{Opening}
use Rattle.irl_scan.specs.declared.piece.Opening.TheVariants as opens
use Rattle.irl_scan.specs.Bytes.{is_space, is_gap, ends_tag_name, ends_attribute_name, ends_bare_value, is_quote, is_name, kind_of, at_byte, UpTo}

-- what follows an attribute's name
pub data Value : Type 0 where
  -- no `=`: the value is empty, at the end of the name
  Absent : Value
  -- white space, `=`, white space, and the value
  Bare : List ℕ → List ℕ → List ℕ → Value
  -- white space, `=`, white space, a quote, the value, and the same quote again
  Quoted : List ℕ → List ℕ → ℕ → List ℕ → Ending → Value

-- an attribute of a tag, with the white space and `/` before it
pub record Attribute : Type 0 where
  pub gap : List ℕ
  pub name : List ℕ
  pub value : Value

-- `<`, a name, attributes, white space and `/`, and `>`; behind `script` and `style` the text that is skipped
pub record Tag : Type 0 where
  pub name : List ℕ
  pub attributes : List Attribute
  pub gap : List ℕ
  pub ending : Ending
  pub raw : List ℕ

pub data Piece : Type 0 where
  -- a byte of text
  Letter : ℕ → Piece
  -- `<!--`, a body, and `-->`
  Comment : List ℕ → Ending → Piece
  -- `<`, the `!`, `?` or `/` behind it, a body, and `>`
  Skipped : ℕ → List ℕ → Ending → Piece
  Markup : Tag → Piece

-- ## How each is spelled, in front of what follows it

-- the mark, unless the page ends first
abbrev pub end_onto : List ℕ → Ending → List ℕ → List ℕ
end_onto mark Marked rest = mark ++ rest
end_onto mark PageEnd rest = rest

abbrev pub value_onto : Value → List ℕ → List ℕ
value_onto Absent rest = rest
value_onto (Bare before after value) rest = before ++ 61 ∷ (after ++ (value ++ rest))
value_onto (Quoted before after quote value ending) rest = before ++ 61
    ∷ (after ++ quote ∷ (value ++ end_onto (quote ∷ []) ending rest))

abbrev pub attribute_onto : Attribute → List ℕ → List ℕ
attribute_onto a rest = a.gap ++ (a.name ++ value_onto a.value rest)

abbrev pub attributes_onto : List Attribute → List ℕ → List ℕ
attributes_onto [] rest = rest
attributes_onto (a ∷ more) rest = attribute_onto a (attributes_onto more rest)

-- what stands in a tag behind its attributes, and the rest of the page
abbrev pub tag_end_onto : List ℕ → Ending → List ℕ → List ℕ
tag_end_onto gap ending rest = gap ++ end_onto (codes ">") ending rest

abbrev pub tag_onto : Tag → List ℕ → List ℕ
tag_onto t rest = 60 ∷ (t.name ++ attributes_onto t.attributes (tag_end_onto t.gap t.ending (t.raw ++ rest)))

abbrev pub piece_onto : Piece → List ℕ → List ℕ
piece_onto (Letter b) rest = b ∷ rest
piece_onto (Comment body ending) rest = codes "<!--" ++ (body ++ end_onto (codes "-->") ending rest)
piece_onto (Skipped sign body ending) rest = 60 ∷ sign ∷ (body ++ end_onto (codes ">") ending rest)
piece_onto (Markup t) rest = tag_onto t rest

abbrev pub joined : List Piece → List ℕ
joined [] = []
joined (p ∷ more) = piece_onto p (joined more)

-- ## What begins at a place, and how far it goes

-- a letter stands at that many bytes from here
abbrev pub has_letter_at : ℕ → List ℕ → Bool
has_letter_at n page = not (at_byte (λ b. not (is_ascii_alphabetic b)) (drop n page))

-- `<!--` begins a comment. `<!` otherwise, `<?`, and `</` before a letter begin what is skipped. `<` before a letter
-- begins a tag. All else is text.
abbrev pub opening : List ℕ → Opening
opening page =
    if starts_with nat_eq page (codes "<!--") then opens.Comment else
    (if starts_with nat_eq page (codes "<!") || starts_with nat_eq page (codes "<?") then opens.Skipped else
    (if starts_with nat_eq page (codes "</") && has_letter_at 2 page then opens.Skipped else
    (if starts_with nat_eq page (codes "<") && has_letter_at 1 page then opens.Tag else opens.Text)))

-- without its mark a piece ends only with the page
abbrev pub EndsBy : Ending → List ℕ → Type 0
EndsBy Marked rest = Unit {0}
EndsBy PageEnd rest = rest ≡ []

-- whether, white space aside, `=` comes next
abbrev pub sign_follows : List ℕ → Bool
sign_follows [] = false
sign_follows (b ∷ bs) = if is_space b then sign_follows bs else b == 61

-- it begins with a quote
abbrev pub quote_follows : List ℕ → Bool
quote_follows bs = not (at_byte (λ b. not (is_quote b)) bs)

abbrev pub not_space : List ℕ → Bool
not_space = at_byte (λ b. not (is_space b))

-- A value in quotes goes up to the same quote; any other goes up to white space or `>`, and may be empty.
abbrev pub IsValue : Value → List ℕ → Type 0
IsValue Absent rest = sign_follows rest ≡ false
IsValue (Bare before after value) rest =
    UpTo not_space before (61 ∷ (after ++ (value ++ rest)))
    × UpTo not_space after (value ++ rest)
    × (quote_follows (value ++ rest) ≡ false)
    × UpTo (at_byte ends_bare_value) value rest
IsValue (Quoted before after quote value ending) rest =
    UpTo not_space before (61 ∷ (after ++ quote ∷ (value ++ end_onto (quote ∷ []) ending rest)))
    × UpTo not_space after (quote ∷ (value ++ end_onto (quote ∷ []) ending rest))
    × (is_quote quote ≡ true)
    × UpTo (at_byte (λ b. b == quote)) value (end_onto (quote ∷ []) ending rest)
    × EndsBy ending rest

-- An attribute's name has at least one byte, which isn't `>` and may be `=`.
abbrev pub IsAttributeName : List ℕ → List ℕ → Type 0
IsAttributeName [] rest = ⊥
IsAttributeName (b ∷ name) rest = ((b == 62) ≡ false) × UpTo (at_byte ends_attribute_name) name rest

-- white space and `/`, as far as they go
abbrev pub IsGap : List ℕ → List ℕ → Type 0
IsGap gap rest = UpTo (at_byte (λ b. not (is_gap b))) gap rest

pub record IsAttribute (a : Attribute) (rest : List ℕ) : Type 0 where
  pub gap : IsGap a.gap (a.name ++ value_onto a.value rest)
  pub name : IsAttributeName a.name (value_onto a.value rest)
  pub value : IsValue a.value rest

abbrev pub AreAttributes : List Attribute → List ℕ → Type 0
AreAttributes [] rest = Unit {0}
AreAttributes (a ∷ more) rest = IsAttribute a (attributes_onto more rest) × AreAttributes more rest

-- `</`, that name, and white space, `/` or `>` stand there
abbrev pub closes : List ℕ → List ℕ → Bool
closes word page =
    starts_with nat_eq page (codes "</") && is_name word (take (length word) (drop 2 page))
    && not (at_byte (λ b. not (ends_tag_name b)) (drop (length word) (drop 2 page)))

-- there the text behind a tag `script` or `style` ends
abbrev pub is_raw_end : List ℕ → List ℕ → Bool
is_raw_end word [] = true
is_raw_end word (b ∷ bs) = closes word (b ∷ bs)

-- behind any other tag nothing is skipped
abbrev pub ends_raw : Kind → List ℕ → Bool
ends_raw Script page = is_raw_end (codes "script") page
ends_raw Style page = is_raw_end (codes "style") page
ends_raw Anchor page = true
ends_raw Frame page = true
ends_raw Base page = true
ends_raw Other page = true

pub record IsTag (t : Tag) (rest : List ℕ) : Type 0 where
  pub opens : opening (tag_onto t rest) ≡ opens.Tag
  pub name : UpTo (at_byte ends_tag_name) t.name
      (attributes_onto t.attributes (tag_end_onto t.gap t.ending (t.raw ++ rest)))
  pub attributes : AreAttributes t.attributes (tag_end_onto t.gap t.ending (t.raw ++ rest))
  pub gap : IsGap t.gap (end_onto (codes ">") t.ending (t.raw ++ rest))
  pub ending : EndsBy t.ending (t.raw ++ rest)
  pub raw : UpTo (ends_raw (kind_of t.name)) t.raw rest

-- a comment ends where `-->` stands first
abbrev pub ends_comment : List ℕ → Bool
ends_comment [] = true
ends_comment (b ∷ bs) = starts_with nat_eq (b ∷ bs) (codes "-->")

-- markup that is skipped, and a tag, end with `>`
abbrev pub ends_markup : List ℕ → Bool
ends_markup = at_byte (λ b. b == 62)

abbrev pub IsPiece : Piece → List ℕ → Type 0
IsPiece (Letter b) rest = opening (b ∷ rest) ≡ opens.Text
IsPiece (Comment body ending) rest =
    UpTo ends_comment body (end_onto (codes "-->") ending rest) × EndsBy ending rest
IsPiece (Skipped sign body ending) rest =
    (opening (60 ∷ sign ∷ (body ++ end_onto (codes ">") ending rest)) ≡ opens.Skipped)
    × UpTo ends_markup body (end_onto (codes ">") ending rest)
    × EndsBy ending rest
IsPiece (Markup t) rest = IsTag t rest

abbrev pub ArePieces : List Piece → Type 0
ArePieces [] = Unit {0}
ArePieces (p ∷ more) = IsPiece p (joined more) × ArePieces more

-- the page is these pieces
pub record Cut (page : List ℕ) (pieces : List Piece) : Type 0 where
  pub whole : page ≡ joined pieces
  pub each : ArePieces pieces
