-- The connections of a link.
use Rattle.std.specs.Prelude.{◌≡◌, ℕ, List, [], ◌∷◌, ◌++◌, take, Option, None, Some, ⊤}
use Rattle.irl_http.specs.declared.link.Connection.{Connection}

-- the last of the connections, after a piece was written on it
abbrev pub written_on_last : List ℕ → List Connection → List Connection
written_on_last piece [] = []
written_on_last piece (c ∷ []) = record c { written = c.written ++ piece } ∷ []
written_on_last piece (c ∷ d ∷ others) = c ∷ written_on_last piece (d ∷ others)

-- P holds of known connections before and after: whether they are known stays as it is
abbrev pub OfKnown : (List Connection → List Connection → Type 0) → Option (List Connection) → Option (List Connection)
    → Type 0
OfKnown P None None = ⊤
OfKnown P None (Some after) = ⊥
OfKnown P (Some before) None = ⊥
OfKnown P (Some before) (Some after) = P before after

-- no connection was made, and nothing was written
abbrev pub StaySame : Option (List Connection) → Option (List Connection) → Type 0
StaySame before after = OfKnown (λ old new. new ≡ old) before after

-- a piece was written on the last one
abbrev pub WritesOnLast : List ℕ → Option (List Connection) → Option (List Connection) → Type 0
WritesOnLast piece before after = OfKnown (λ old new. new ≡ written_on_last piece old) before after

-- a prefix of a piece was: none of it, a part of it or all of it
abbrev pub WritesPart : List ℕ → Option (List Connection) → Option (List Connection) → Type 0
WritesPart piece before after = (n : ℕ) × WritesOnLast (take n piece) before after

-- Behind the connections before stands this one alone: it was made to this port, it gives these bytes, and this was
-- written on it.
abbrev pub HasExchange : ℕ → List ℕ → List ℕ → Option (List Connection) → Option (List Connection) → Type 0
HasExchange port gives piece before after =
    OfKnown (λ old new. new ≡ old ++ record { port = port; gives = gives; written = piece } ∷ []) before after

-- the bytes are these where they are told, and they are told wherever the connections are
abbrev pub IsTold : List ℕ → Option (List Connection) → Option (List ℕ) → Type 0
IsTold bytes connections (Some told) = told ≡ bytes
IsTold bytes None None = ⊤
IsTold bytes (Some made) None = ⊥

-- A connection was made to this port, on which nothing was written or read.
pub record Connects (port : ℕ) (before after : Option (List Connection)) (left written : Option (List ℕ)) : Type 0 where
  pub gives : List ℕ
  pub newest : HasExchange port gives [] before after
  pub all_left : IsTold gives after left
  pub none_written : IsTold [] after written
