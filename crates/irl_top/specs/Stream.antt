use Rattle.std.specs.Prelude.{ℕ, List, Option}

-- what a source or a sink tells at one moment, and how often it has failed
pub record Stream : Type 0 where
  pub bytes : Option (List ℕ)
  pub faults : ℕ
