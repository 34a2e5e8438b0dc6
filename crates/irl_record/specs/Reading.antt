-- The tape of some bytes, or the line at which they are refused.
use Rattle.std.specs.Prelude.{ℕ, ◌+◌, Bool, ◌||◌, nat_lt, List, [], ◌∷◌, ◌++◌, length, Option, None, Some, is_some, option_map, option_and_then, Result, Ok, Err, if◌then◌else◌}
use Rattle.irl_base.specs.Limits.{max_text}
use Rattle.irl_key.specs.declared.canon.Canon.{Canon}
use Rattle.irl_key.specs.declared.canon.Canon.TheVariants.{Web, NotHttp, Bad, TooLong}
use Rattle.irl_key.specs.Links.{canon_of}
use Rattle.irl_io.specs.Lines.{lines, most_lines}
use Rattle.irl_record.specs.declared.record.Record.{Record}
use Rattle.irl_record.specs.declared.record.Record.TheVariants as record_of
use Rattle.irl_record.specs.Forms.{Form, form_of, Skipped, Suffix, Seed, Page, Lost, Other}
use Rattle.irl_record.specs.Parts.{Within, within_of, Location, Whole, Piece, End, Other as Neither}
use Rattle.irl_record.specs.Opened.{Opened, opened, with_location, with_body}
use Rattle.irl_record.specs.Names.{with_name}
use Rattle.irl_record.specs.Taped.{Taped, Records, record_at}

-- a tape so far, and the page inside which it ends, if it ends inside one
pub record Reading : Type 0 where
  pub tape : Taped
  pub page : Option Opened

-- outside a page
abbrev pub outside : Taped → Reading
outside tape = record { tape = tape; page = None }

-- inside a page
abbrev pub inside : Taped → Opened → Reading
inside tape page = record { tape = tape; page = Some page }

-- the canonical http text of a URL, if it has one
abbrev pub web_of : Canon → Option (List ℕ)
web_of (Web text) = Some text
web_of NotHttp = None
web_of Bad = None
web_of TooLong = None

-- the canonical http text of a URL, if it has one and the tape has no record of it yet
abbrev pub new_web : Records → List ℕ → Option (List ℕ)
new_web records url =
    option_and_then (λ text. if is_some (record_at records text) then None else Some text) (web_of (canon_of None url))

-- the tape after a line `suffix NAME`, if it is taken
abbrev pub with_suffix : Taped → List ℕ → Option Taped
with_suffix tape name = option_map (λ text. record tape { suffixes = text }) (with_name tape.suffixes name)

-- the tape after a line `seed URL`, if it is taken
abbrev pub with_seed : Taped → List ℕ → Option Taped
with_seed tape url = option_map (λ text. record tape { seeds = tape.seeds ++ text ∷ [] }) (web_of (canon_of None url))

-- the tape with one more record, behind the others
abbrev pub with_record : Taped → List ℕ → Record → Taped
with_record tape url recorded = record tape { records = tape.records ++ (url, recorded) ∷ [] }

-- A line outside a page, and whether pages may be recorded at all.
abbrev pub takes : Bool → Taped → Form → Option Reading
takes pages tape Skipped = Some (outside tape)
takes pages tape (Suffix name) = option_map outside (with_suffix tape name)
takes pages tape (Seed url) = option_map outside (with_seed tape url)
takes pages tape (Page status html url) =
    if pages then option_map (λ text. inside tape (opened status html text)) (new_web tape.records url) else None
takes pages tape (Lost url) =
    if pages then option_map (λ text. outside (with_record tape text record_of.Lost))
    (new_web tape.records url) else None
takes pages tape Other = None

-- A line inside a page. A Location may come first alone.
abbrev pub takes_within : Taped → Opened → Within → Option Reading
takes_within tape page (Location text) = option_map (inside tape) (with_location page text)
takes_within tape page (Whole bytes) = option_map (inside tape) (with_body page (bytes ++ 10 ∷ []))
takes_within tape page (Piece bytes) = option_map (inside tape) (with_body page bytes)
takes_within tape page End = Some (outside (with_record tape page.url (record_of.Page page.reply)))
takes_within tape page Neither = None

abbrev pub next_of : Bool → Taped → Option Opened → List ℕ → Option Reading
next_of pages tape None line = takes pages tape (form_of line)
next_of pages tape (Some page) line = takes_within tape page (within_of line)

-- a tape after one more line, if the line is taken
unfoldable pub next : Bool → Reading → List ℕ → Option Reading
next pages reading line = next_of pages reading.tape reading.page line

-- whether no input may have this line under this number: it is too long, or there were lines enough
abbrev pub is_over : ℕ → List ℕ → Bool
is_over number line = nat_lt max_text (length line) || nat_lt most_lines number

-- all of a tape was read before the line of this number: a page without `end` is refused there
abbrev pub whole : ℕ → Reading → Result Taped ℕ
whole number reading = if is_some reading.page then Err number else Ok reading.tape

-- goes on where a line is taken
abbrev pub or_refused : ℕ → Option Reading → (Reading → Result Taped ℕ) → Result Taped ℕ
or_refused number None after = Err number
or_refused number (Some reading) after = after reading

-- the tape, or the number of the first line that is refused, where the first of these lines has this number
abbrev pub tape_from : Bool → ℕ → Reading → List (List ℕ) → Result Taped ℕ
tape_from pages number reading [] = whole number reading
tape_from pages number reading (line ∷ rest) =
    if is_over number line then Err number
    else or_refused number (next pages reading line) (λ after. tape_from pages (number + 1) after rest)

-- an empty tape
abbrev pub blank : Taped
blank = record { suffixes = []; seeds = []; records = [] }

-- the tape that the bytes are, or the number of the first line that is refused, counted from 1
abbrev pub tape_of : Bool → List ℕ → Result Taped ℕ
tape_of pages bytes = tape_from pages 1 (outside blank) (lines bytes)
