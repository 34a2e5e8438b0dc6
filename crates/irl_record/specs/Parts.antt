-- What a line of a tape says inside a page: the code's `Part`, which borrows from it, with the bytes themselves.
use Rattle.std.specs.Prelude.{List, drop, bytes_eq, ℕ, if◌then◌else◌, codes}
use Rattle.irl_record.specs.declared.lines.Part.{Part}
use Rattle.irl_record.specs.declared.lines.Part.TheVariants as part
use Rattle.irl_record.specs.Forms.{begins}

-- `to TEXT`, `|BYTES`, `+BYTES`, `end`, or none of them
pub data Within : Type 0 where
  Location : List ℕ → Within
  Whole : List ℕ → Within
  Piece : List ℕ → Within
  End : Within
  Other : Within

-- what a line inside a page says
unfoldable pub within_of : List ℕ → Within
within_of text =
    if begins (codes "|") text then Whole (drop 1 text)
    else (if begins (codes "+") text then Piece (drop 1 text)
    else (if begins (codes "to ") text then Location (drop 3 text)
    else (if bytes_eq text (codes "end") then End
    else Other)))

-- the same as the code has it
abbrev pub within : Part → Within
within (part.Location text) = Location text.now
within (part.Whole bytes) = Whole bytes.now
within (part.Piece bytes) = Piece bytes.now
within part.End = End
within part.Other = Other
