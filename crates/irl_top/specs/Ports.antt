-- What ports tell: the connections that they made, and how often they failed.
use Rattle.std.specs.Prelude.{◌≡◌, ◌≤◌, ℕ, List, map, Option, Some, slice_get}
use Rattle.std.specs.List.{AllZip}
use Rattle.irl_http.specs.declared.link.Connection.{Connection}
use Rattle.irl_offer.specs.declared.reply.Answer.{Answer}
use Rattle.irl_offer.specs.declared.reply.Want.{Want}
use Rattle.irl_record.specs.Widening.{Answers}
use Rattle.irl_record.specs.Wired.{KeepsMade, Wired, by_wire, how_many}

-- what a port tells at one moment
pub record Port : Type 0 where
  pub connections : Option (List Connection)
  pub faults : ℕ

-- those of fetchers, by what their links tell
abbrev pub port_of : {P : Type 0} → (P → Option (List Connection)) → (P → ℕ) → Wired P → Port
port_of connections faults fetcher =
    record { connections = connections fetcher.port; faults = faults fetcher.port }

abbrev pub ports_of : {P : Type 0} → (P → Option (List Connection)) → (P → ℕ) → List (Wired P) → List Port
ports_of connections faults fetchers = map (port_of connections faults) fetchers

-- a fetcher that is aimed at this number of a port, by this agent, and stays otherwise
abbrev pub aimed : {P : Type 0} → ℕ → List ℕ → Wired P → Wired P
aimed number agent fetcher = record fetcher { number = number; agent = agent }

abbrev pub aimed_all : {P : Type 0} → ℕ → List ℕ → List (Wired P) → List (Wired P)
aimed_all number agent fetchers = map (aimed number agent) fetchers

-- From one moment to a later one: the connections that a port made before stay, with what was written on them, and
-- others come behind them; its faults are no fewer.
pub record PortGoesOn (old new : Port) : Type 0 where
  pub made : KeepsMade old.connections new.connections
  pub faults : old.faults ≤ new.faults

-- there are as many, and each goes on in its place
abbrev pub PortsGoOn : List Port → List Port → Type 0
PortsGoOn before after = AllZip PortGoesOn before after

-- An answer that one of them gave between two moments, where they are aimed at this number of a port, by this agent:
-- the answer of all that a connection gives, which was made since, to that number, and on which the request for the URL
-- and nothing else was written; or none, where it failed. A port that tells no connections may give any.
pub record IsGivenOn (number : ℕ) (agent : List ℕ) (before after : List Port) (url : List ℕ) (want : Want)
    (answer : Answer) : Type 0 where
  pub at : ℕ
  pub old : Port
  pub new : Port
  pub was : slice_get before at ≡ Some old
  pub is : slice_get after at ≡ Some new
  pub given : by_wire number agent new.faults new.connections (how_many old.connections) url want answer

abbrev pub given_on : ℕ → List ℕ → List Port → List Port → Answers
given_on number agent before after url want answer = IsGivenOn number agent before after url want answer
