-- A tape as the records that it is made of, each of one line or more. `Reading` has the same line by line.
use Rattle.std.specs.Prelude.{◌≡◌, ℕ, ◌+◌, ◌/◌, ◌%◌, ◌⊎◌, Bool, true, false, ◌&&◌, nat_le, List, [], ◌∷◌, ◌++◌, length, map, Option, None, Some, option_map, option_and_then, if◌then◌else◌, codes}
use Rattle.std.specs.List.{flat_map}
use Rattle.irl_base.specs.Limits.{max_page}
use Rattle.irl_offer.specs.Replies.{Received}
use Rattle.irl_record.specs.declared.record.Record.TheVariants as record_of
use Rattle.irl_record.specs.Forms.{is_skipped}
use Rattle.irl_record.specs.Reading.{blank, is_over, new_web, with_record, with_seed, with_suffix}
use Rattle.irl_record.specs.Taped.{Taped}

-- a line of a page's body: `|BYTES`, which is a line of it, or `+BYTES`, which has no line feed behind it
pub data Piece : Type 0 where
  Whole : List ℕ → Piece
  Part : List ℕ → Piece

abbrev pub piece_line : Piece → List ℕ
piece_line (Whole bytes) = 124 ∷ bytes
piece_line (Part bytes) = 43 ∷ bytes

abbrev pub piece_bytes : Piece → List ℕ
piece_bytes (Whole bytes) = bytes ++ 10 ∷ []
piece_bytes (Part bytes) = bytes

-- a page as a tape has it
pub record PageItem : Type 0 where
  pub status : ℕ
  pub html : Bool
  pub url : List ℕ
  pub location : Option (List ℕ)
  pub pieces : List Piece

-- a number below 1,000 in three digits
abbrev pub three_digits : ℕ → List ℕ
three_digits n = (48 + n / 100) ∷ (48 + n % 100 / 10) ∷ (48 + n % 100 % 10) ∷ []

-- `page STATUS KIND URL`
abbrev pub head_line : PageItem → List ℕ
head_line page = codes "page " ++ three_digits page.status ++ (if page.html then codes " html " else codes " other ")
    ++ page.url

-- at most one `to TEXT`
abbrev pub location_lines : Option (List ℕ) → List (List ℕ)
location_lines None = []
location_lines (Some text) = (codes "to " ++ text) ∷ []

-- what a tape is made of: an empty line or a comment, a suffix, a seed, a page, a lost URL
pub data Item : Type 0 where
  Comment : List ℕ → Item
  Suffix : List ℕ → Item
  Seed : List ℕ → Item
  Page : PageItem → Item
  Lost : List ℕ → Item

-- the lines of each
abbrev pub item_lines : Item → List (List ℕ)
item_lines (Comment line) = line ∷ []
item_lines (Suffix name) = (codes "suffix " ++ name) ∷ []
item_lines (Seed url) = (codes "seed " ++ url) ∷ []
item_lines (Page page) = head_line page ∷ (location_lines page.location ++ map piece_line page.pieces ++ codes "end"
    ∷ [])
item_lines (Lost url) = (codes "lost " ++ url) ∷ []

abbrev pub reply_of : PageItem → Received
reply_of page = record {
  status = page.status;
  location = page.location;
  html = page.html;
  body = flat_map piece_bytes page.pieces;
}

-- its status is from 100 to 999, and its body is not too long
abbrev pub is_page : PageItem → Bool
is_page page = nat_le 100 page.status && nat_le page.status 999 && nat_le (length (reply_of page).body) max_page

-- a tape with one more item, if it may come there: no URL is recorded twice, and where `pages` is false none
abbrev pub with_item : Bool → Taped → Item → Option Taped
with_item pages tape (Comment line) = if is_skipped line then Some tape else None
with_item pages tape (Suffix name) = with_suffix tape name
with_item pages tape (Seed url) = with_seed tape url
with_item pages tape (Page page) =
    if pages && is_page page
    then option_map (λ text. with_record tape text (record_of.Page (reply_of page))) (new_web tape.records page.url)
    else None
with_item pages tape (Lost url) =
    if pages then option_map (λ text. with_record tape text record_of.Lost) (new_web tape.records url) else None

abbrev pub with_items : Bool → Taped → List Item → Option Taped
with_items pages tape [] = Some tape
with_items pages tape (item ∷ items) = option_and_then (λ after. with_items pages after items)
    (with_item pages tape item)

-- the lines are those of such items, and this is their tape
pub record IsTape (pages : Bool) (lines : List (List ℕ)) (tape : Taped) : Type 0 where
  pub items : List Item
  pub written : lines ≡ flat_map item_lines items
  pub taken : with_items pages blank items ≡ Some tape

-- a tape may begin with these lines
abbrev pub Begins : Bool → List (List ℕ) → Type 0
Begins pages lines = (more : List (List ℕ)) × (tape : Taped) × IsTape pages (lines ++ more) tape

-- no line is over a limit, where the first has this number
abbrev pub AreWithin : ℕ → List (List ℕ) → Type 0
AreWithin number [] = Unit {0}
AreWithin number (line ∷ lines) = (is_over number line ≡ false) × AreWithin (number + 1) lines

-- The line behind these is refused: it is over a limit, or no tape begins with them and it; or they are all, and no
-- tape.
abbrev pub IsRefused : Bool → List (List ℕ) → List (List ℕ) → Type 0
IsRefused pages front [] = (tape : Taped) → ¬ (IsTape pages front tape)
IsRefused pages front (line ∷ rest) = (is_over (length front + 1) line ≡ true) ⊎ (¬ (Begins pages (front ++ line ∷ [])))

-- line n, from 1, is the first that is refused
pub record IsRefusedAt (pages : Bool) (lines : List (List ℕ)) (n : ℕ) : Type 0 where
  pub front : List (List ℕ)
  pub rest : List (List ℕ)
  pub split : lines ≡ front ++ rest
  pub number : n ≡ length front + 1
  pub within : AreWithin 1 front
  pub begins : Begins pages front
  pub refused : IsRefused pages front rest
