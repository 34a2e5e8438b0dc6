-- A link in memory, as contracts see it.
use Rattle.std.specs.Prelude.{ℕ, ◌+◌, List, [], ◌∷◌, drop, Option, None, Some, is_some, Bool, true, ◌≡◌, ◌≤◌, length, ⊤, Vec, vec_len, vec_capacity}
use Rattle.irl_http.specs.declared.link.Connection.{Connection}
use Rattle.irl_http.specs.declared.mem_link.Current.{Current}

-- What the connections still to be made will give; the connections that were made; whether there is a current one, what
-- it has left, what it had left when it was last read, and what was written on it; how often the link was called and
-- which calls fail, counted from 0; its faults, and the moment of its clock.
pub record Linking : Type 0 where
  pub ahead : List (List ℕ)
  pub made : List Connection
  pub connected : Bool
  pub left : List ℕ
  pub left_at_read : List ℕ
  pub written : List ℕ
  pub calls : ℕ
  pub failing : List ℕ
  pub faults : ℕ
  pub moment : ℕ

-- a call of the clock: nothing but the moment may be another
abbrev pub OnlyMoment : Linking → Linking → Type 0
OnlyMoment old new = new ≡ record old { moment = new.moment }

-- the current connection, where there is one
abbrev pub as_made : Option Current → List Connection
as_made None = []
as_made (Some c) = record { port = c.port; gives = c.gives; written = c.written.items } ∷ []

abbrev pub left_of : Option Current → List ℕ
left_of None = []
left_of (Some c) = drop c.at c.gives

abbrev pub left_at_read_of : Option Current → List ℕ
left_at_read_of None = []
left_at_read_of (Some c) = drop c.read_at c.gives

abbrev pub written_of : Option Current → List ℕ
written_of None = []
written_of (Some c) = c.written.items

-- no more was read than it gives
abbrev pub at_within : Option Current → Type 0
at_within None = ⊤
at_within (Some c) = (c.read_at ≤ c.at) × (c.at ≤ length c.gives)

-- once there is a connection, there is room for each that a later one takes the place of
abbrev pub HasRoom : {A : Type 0} → Vec (List ℕ) A → Vec Connection A → Option Current → Type 0
HasRoom ahead past current = is_some current ≡ true → vec_len past + vec_len ahead ≤ vec_capacity past

-- a connection, or none, that is as it was
pub record IsSameCurrent (old new : Option Current) : Type 0 where
  pub some : is_some new ≡ is_some old
  pub made : as_made new ≡ as_made old
  pub left : left_of new ≡ left_of old
  pub left_at_read : left_at_read_of new ≡ left_at_read_of old
  pub written : written_of new ≡ written_of old
