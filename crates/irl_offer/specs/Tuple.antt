-- An offer as contracts see it (DRUM's tuple of key, value and auxiliary data, with its operation and source).
use Rattle.std.specs.Prelude.{ℕ, List}
use Rattle.irl_offer.specs.declared.offer.Op.{Op}

pub record Tuple : Type 0 where
  pub op : Op
  pub key : ℕ
  pub value : ℕ
  pub from : ℕ
  pub aux : List ℕ
