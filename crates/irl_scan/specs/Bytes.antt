-- The bytes and names that the grammar of a page speaks of.
use Rattle.std.specs.Prelude.{ℕ, ◌≡◌, Bool, true, false, ◌||◌, ◌==◌, List, [], ◌∷◌, ◌++◌, codes, if◌then◌else◌}
use Rattle.std.specs.Char.{is_ascii_whitespace}
use Rattle.std.specs.Str.{str_eq_ignore_ascii_case}
use Rattle.irl_scan.specs.declared.kind.Kind.{Kind}
use Rattle.irl_scan.specs.declared.kind.Kind.TheVariants.{Anchor, Frame, Base, Script, Style, Other}

-- White space is tab, LF, FF, CR and space: the ASCII whitespace of the WHATWG Infra standard.
abbrev pub is_space : ℕ → Bool
is_space b = is_ascii_whitespace b

-- what stands between the attributes of a tag: white space and `/`
abbrev pub is_gap : ℕ → Bool
is_gap b = is_space b || b == 47

-- a tag's name ends at white space, `/` or `>`
abbrev pub ends_tag_name : ℕ → Bool
ends_tag_name b = is_gap b || b == 62

-- an attribute's name ends there, too, and at `=`
abbrev pub ends_attribute_name : ℕ → Bool
ends_attribute_name b = ends_tag_name b || b == 61

-- a value without quotes ends at white space or `>`
abbrev pub ends_bare_value : ℕ → Bool
ends_bare_value b = is_space b || b == 62

-- `"` or `'`
abbrev pub is_quote : ℕ → Bool
is_quote b = b == 34 || b == 39

-- Names are compared without regard to the case of letters.
abbrev pub is_name : List ℕ → List ℕ → Bool
is_name word name = str_eq_ignore_ascii_case name word

-- what a tag's name makes of it
abbrev pub kind_of : List ℕ → Kind
kind_of name =
    if is_name (codes "a") name || is_name (codes "area") name then Anchor else
    (if is_name (codes "frame") name || is_name (codes "iframe") name then Frame else
    (if is_name (codes "base") name then Base else
    (if is_name (codes "script") name then Script else
    (if is_name (codes "style") name then Style else Other))))

-- whether an attribute of that name holds the URL of the tag
abbrev pub wants : Kind → List ℕ → Bool
wants Anchor name = is_name (codes "href") name
wants Frame name = is_name (codes "src") name
wants Base name = is_name (codes "href") name
wants Script name = false
wants Style name = false
wants Other name = false

-- A run of bytes ends where a test of what is left of the page holds, and with the page at the latest. A test of the
-- byte that stands there:
abbrev pub at_byte : (ℕ → Bool) → List ℕ → Bool
at_byte test [] = true
at_byte test (b ∷ bs) = test b

-- The body goes up to the first place, in it and in the rest behind it, at which the test holds.
abbrev pub UpTo : (List ℕ → Bool) → List ℕ → List ℕ → Type 0
UpTo stops [] rest = stops rest ≡ true
UpTo stops (b ∷ body) rest = (stops (b ∷ (body ++ rest)) ≡ false) × UpTo stops body rest
