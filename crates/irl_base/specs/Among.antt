-- Lists compared as multisets: in any order, each item as often as it stands there.
use Rattle.std.specs.Prelude.{List, ◌++◌}
use Rattle.std.specs.List.Sorted.{IsPermutation}

-- Counted with repeats, the first are among the second: with some rest they are the second in another order.
pub record IsAmong {X : Type 0} (xs ys : List X) : Type 0 where
  pub rest : List X
  pub is : IsPermutation (xs ++ rest) ys
