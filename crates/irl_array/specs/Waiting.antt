-- Offers that wait in memory to be flushed.
use Rattle.std.specs.Prelude.{ℕ, List}
use Rattle.irl_offer.specs.Tuple.{Tuple}

-- the offers in the order in which they were pushed, and the most that there may be
pub record Waiting : Type 0 where
  pub room : ℕ
  pub items : List Tuple
