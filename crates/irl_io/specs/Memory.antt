-- Sources and sinks in memory, as contracts see them.
use Rattle.std.specs.Prelude.{ℕ, List}

-- a source: the bytes that it will still give, how often it was called and which calls fail, counted from 0, and its
-- faults
pub record Reading : Type 0 where
  pub left : List ℕ
  pub calls : ℕ
  pub failing : List ℕ
  pub faults : ℕ

-- a sink: the bytes written so far, and the rest as of a source
pub record Writing : Type 0 where
  pub written : List ℕ
  pub calls : ℕ
  pub failing : List ℕ
  pub faults : ℕ
