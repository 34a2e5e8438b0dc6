-- What a line of a tape says outside its pages: the code's `Line`, which borrows from it, with the bytes themselves.
use Rattle.std.specs.Prelude.{ℕ, ◌+◌, ◌-◌, ◌*◌, List, drop, length, slice_index, Bool, true, false, ◌&&◌, ◌||◌, ◌==◌, nat_eq, nat_le, not, if◌then◌else◌, codes}
use Rattle.std.specs.Char.{is_ascii_digit}
use Rattle.std.specs.List.{starts_with}
use Rattle.irl_record.specs.declared.lines.Line.{Line}
use Rattle.irl_record.specs.declared.lines.Line.TheVariants as line

-- a line that is skipped, `suffix NAME`, `seed URL`, `page STATUS KIND URL` by its status, whether the kind is html and
-- its URL, `lost URL`, or none of them
pub data Form : Type 0 where
  Skipped : Form
  Suffix : List ℕ → Form
  Seed : List ℕ → Form
  Page : ℕ → Bool → List ℕ → Form
  Lost : List ℕ → Form
  Other : Form

-- the text begins with this word
abbrev pub begins : List ℕ → List ℕ → Bool
begins word text = starts_with nat_eq text word

-- three digits, the first of them not 0: from 100 to 999
abbrev pub is_status : List ℕ → Bool
is_status text =
    nat_le 3 (length text) && is_ascii_digit (slice_index text 0) && is_ascii_digit (slice_index text 1)
    && is_ascii_digit (slice_index text 2) && not (slice_index text 0 == 48)

-- the number of three digits
abbrev pub status_of : List ℕ → ℕ
status_of text = 100 * (slice_index text 0 - 48) + 10 * (slice_index text 1 - 48) + (slice_index text 2 - 48)

-- what stands behind the status: KIND and URL
abbrev pub kind_of : ℕ → List ℕ → Form
kind_of status text =
    if begins (codes " html ") text then Page status true (drop 6 text)
    else (if begins (codes " other ") text then Page status false (drop 7 text)
    else Other)

-- what stands behind `page `
abbrev pub page_of : List ℕ → Form
page_of text = if is_status text then kind_of (status_of text) (drop 3 text) else Other

-- a line that begins a record, or none
abbrev pub record_of : List ℕ → Form
record_of text =
    if begins (codes "page ") text then page_of (drop 5 text)
    else (if begins (codes "lost ") text then Lost (drop 5 text)
    else Other)

-- an empty line or a comment
abbrev pub is_skipped : List ℕ → Bool
is_skipped text = length text == 0 || begins (codes "#") text

-- what a line outside a page says
unfoldable pub form_of : List ℕ → Form
form_of text =
    if is_skipped text then Skipped
    else (if begins (codes "suffix ") text then Suffix (drop 7 text)
    else (if begins (codes "seed ") text then Seed (drop 5 text)
    else record_of text))

-- the same as the code has it
abbrev pub form : Line → Form
form line.Skipped = Skipped
form (line.Suffix name) = Suffix name.now
form (line.Seed url) = Seed url.now
form (line.Page head) = Page head.status head.html head.url.now
form (line.Lost url) = Lost url.now
form line.Other = Other
