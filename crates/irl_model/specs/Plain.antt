-- The book of plain lists and cuts.
use Rattle.std.specs.Prelude.{ℕ, List, replicate}
use Rattle.std.specs.FinMap.{empty}
use Rattle.irl_offer.specs.declared.offer.Rule.{Rule}
use Rattle.irl_offer.specs.Tuple.{Tuple}
use Rattle.irl_model.specs.Book.{Book}

-- the book of these lists and these cuts, of which nothing is dropped
abbrev pub whole_book : ℕ → Rule → List (List Tuple) → List (List ℕ) → Book
whole_book buckets rule lists cuts = record {
  buckets = buckets;
  rule = rule;
  base = empty;
  dropped = 0;
  firsts = replicate buckets 0;
  lists = lists;
  cuts = cuts;
}
