-- The text of an attribute's value: its bytes, with some of HTML's character references (WHATWG HTML, section 13.1.4)
-- replaced once, where they stand for a byte below 128.
use Rattle.std.specs.Prelude.{ℕ, ◌≡◌, ◌<◌, ◌≤◌, ◌⊎◌, List, [], ◌∷◌, ◌++◌, length, codes}
use Rattle.std.specs.Str.Parse.{AllDigits, digits_value}

-- what stands for a byte: a name, or the byte's number in decimal or, behind an `x` or `X`, hexadecimal digits
pub data Reference : Type 0 where
  Amp : Reference
  Lt : Reference
  Gt : Reference
  Quot : Reference
  Apos : Reference
  Decimal : List ℕ → Reference
  Hexadecimal : ℕ → List ℕ → Reference

-- how it is spelled, in front of what follows it
abbrev pub reference_onto : Reference → List ℕ → List ℕ
reference_onto Amp rest = codes "&amp;" ++ rest
reference_onto Lt rest = codes "&lt;" ++ rest
reference_onto Gt rest = codes "&gt;" ++ rest
reference_onto Quot rest = codes "&quot;" ++ rest
reference_onto Apos rest = codes "&apos;" ++ rest
reference_onto (Decimal digits) rest = codes "&#" ++ (digits ++ (codes ";" ++ rest))
reference_onto (Hexadecimal sign digits) rest = codes "&#" ++ sign ∷ (digits ++ (codes ";" ++ rest))

-- the byte that it stands for
abbrev pub reference_value : Reference → ℕ
reference_value Amp = 38
reference_value Lt = 60
reference_value Gt = 62
reference_value Quot = 34
reference_value Apos = 39
reference_value (Decimal digits) = digits_value 10 digits
reference_value (Hexadecimal sign digits) = digits_value 16 digits

-- digits of a number below 128, at least one and at most so many
pub record IsNumber (radix most : ℕ) (digits : List ℕ) : Type 0 where
  pub all : AllDigits radix digits
  pub some : 0 < length digits
  pub few : length digits ≤ most
  pub small : digits_value radix digits < 128

-- one to seven decimal digits, or one to six hexadecimal ones
abbrev pub IsReference : Reference → Type 0
IsReference Amp = Unit {0}
IsReference Lt = Unit {0}
IsReference Gt = Unit {0}
IsReference Quot = Unit {0}
IsReference Apos = Unit {0}
IsReference (Decimal digits) = IsNumber 10 7 digits
IsReference (Hexadecimal sign digits) = ((sign ≡ 120) ⊎ (sign ≡ 88)) × IsNumber 16 6 digits

-- a byte that stands for itself, or a reference
pub data Item : Type 0 where
  Plain : ℕ → Item
  Replaced : Reference → Item

abbrev pub item_onto : Item → List ℕ → List ℕ
item_onto (Plain b) rest = b ∷ rest
item_onto (Replaced r) rest = reference_onto r rest

abbrev pub items_joined : List Item → List ℕ
items_joined [] = []
items_joined (i ∷ more) = item_onto i (items_joined more)

-- A byte stands for itself where no reference begins with it.
abbrev pub IsItem : Item → List ℕ → Type 0
IsItem (Plain b) rest = (r : Reference) (more : List ℕ) → IsReference r → b ∷ rest ≡ reference_onto r more → ⊥
IsItem (Replaced r) rest = IsReference r

abbrev pub AreItems : List Item → Type 0
AreItems [] = Unit {0}
AreItems (i ∷ more) = IsItem i (items_joined more) × AreItems more

-- the value is these bytes and references
pub record Reads (value : List ℕ) (items : List Item) : Type 0 where
  pub whole : value ≡ items_joined items
  pub each : AreItems items

-- What is replaced isn't read again.
abbrev pub text_of : List Item → List ℕ
text_of [] = []
text_of (Plain b ∷ more) = b ∷ text_of more
text_of (Replaced r ∷ more) = reference_value r ∷ text_of more
