-- A reply as contracts see it (RFC 9110).
use Rattle.std.specs.Prelude.{ℕ, Bool, List, Option}

pub record Received : Type 0 where
  pub status : ℕ
  pub location : Option (List ℕ)
  pub html : Bool
  pub body : List ℕ
