-- The runs of octets between the `*` of a pattern, and where they stand in a path.
use Rattle.std.specs.Prelude.{◌≡◌, ◌≢◌, ℕ, ◌+◌, List, [], ◌∷◌, ◌++◌, length, drop}
use Rattle.memchr.specs.Find.{OccursAt, Nowhere, NoneBefore}

-- the octets are no `*`
abbrev pub AreLiteral : List ℕ → Type 0
AreLiteral [] = Unit {0}
AreLiteral (c ∷ cs) = (c ≢ 42) × AreLiteral cs

-- a pattern is a run of octets, its first `*` and the rest
pub record IsSplit (pattern run rest : List ℕ) : Type 0 where
  pub literal : AreLiteral run
  pub whole : pattern ≡ run ++ 42 ∷ rest

-- a run stands nowhere in a path
abbrev pub StandsNowhere : List ℕ → List ℕ → Type 0
StandsNowhere path run = Nowhere (OccursAt path run) 0 (length path + 1)

-- the octets are those behind the leftmost place of a run in a path
pub record IsPastFirst (path run behind : List ℕ) : Type 0 where
  pub place : ℕ
  pub first : NoneBefore (OccursAt path run) 0 (length path + 1) place
  pub stands : OccursAt path run place
  pub follows : behind ≡ drop (place + length run) path
