-- What is printed of the offers that a run judged.
use Rattle.std.specs.Prelude.{ℕ, ◌+◌, ◌-◌, List, [], ◌∷◌, ◌++◌, length, drop, Option, None, Some}
use Rattle.std.specs.List.{flat_map}
use Rattle.irl_offer.specs.declared.offer.Verdict.{Verdict}
use Rattle.irl_offer.specs.declared.offer.Verdict.TheVariants.{Unique, Absent, Known}
use Rattle.irl_offer.specs.declared.receipt.Judged.{Judged}
use Rattle.irl_model.specs.Book.{Book, gone, judged, with_cuts}
use Rattle.irl_tuple.specs.Verdicts.{verdict_line}
use Rattle.irl_top.specs.declared.line.LineKind.{LineKind}
use Rattle.irl_top.specs.declared.line.LineKind.TheVariants.{Text as TextLine, Tuple as TupleLine}

-- a text and LF where it was judged Unique, and else nothing
abbrev pub line_if_unique : List ℕ → Option Verdict → List ℕ
line_if_unique text None = []
line_if_unique text (Some Unique) = text ++ 10 ∷ []
line_if_unique text (Some Absent) = []
line_if_unique text (Some (Known value)) = []

-- what is printed of one: a text that was judged Unique, or the verdict of a tuple
abbrev pub judged_line : LineKind → Judged → List ℕ
judged_line TextLine one = line_if_unique one.offer.aux one.verdict
judged_line TupleLine one = verdict_line one

-- what is printed of some, in order
abbrev pub judged_lines : LineKind → List Judged → List ℕ
judged_lines kind judged = flat_map (judged_line kind) judged

-- how many offers were judged, from the beginning of time
abbrev pub judged_count : Book → ℕ
judged_count book = gone book + length (judged book)

-- a book as it was before its last cut
abbrev pub before_last : Book → Book
before_last book = with_cuts (length book.cuts - 1) book

-- the judged offers of the second book past those of the first
abbrev pub judged_since : Book → Book → List Judged
judged_since x y = drop (judged_count x - gone y) (judged y)

-- the lines that a run prints of them
abbrev pub added : LineKind → Book → Book → List ℕ
added kind x y = judged_lines kind (judged_since x y)
