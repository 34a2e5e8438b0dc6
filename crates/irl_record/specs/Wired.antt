-- A fetcher over a port: each answer is that of a connection that the port made for it.
use Rattle.std.specs.Prelude.{◌≡◌, ℕ, ◌≤◌, ◌⊎◌, List, ◌++◌, length, slice_get, Option, None, Some, ⊤}
use Rattle.irl_http.specs.declared.link.Connection.{Connection}
use Rattle.irl_http.specs.Links.{OfKnown, HasExchange}
use Rattle.irl_http.specs.Request.{request_of}
use Rattle.irl_http.specs.Whole.{IsAnswerOf}
use Rattle.irl_offer.specs.declared.reply.Answer.{Answer}
use Rattle.irl_offer.specs.declared.reply.Answer.TheVariants.{NoReply}
use Rattle.irl_offer.specs.declared.reply.Want.{Want}
use Rattle.irl_record.specs.Widening.{Answers}

-- the connections that were made, where they are told
abbrev pub Made : Type 0
Made = Option (List Connection)

-- its port, the number of the peers' port and the agent's name, and the moment that it told last
pub record Wired (P : Type 0) : Type 0 where
  pub port : P
  pub number : ℕ
  pub agent : List ℕ
  pub last : ℕ

-- The connection was made to this port, the page's request and nothing else was written on it, and the answer is that
-- of all that it gives.
pub record IsExchange (number : ℕ) (agent url : List ℕ) (want : Want) (answer : Answer) (connection : Connection)
    : Type 0 where
  pub port : connection.port ≡ number
  pub written : connection.written ≡ request_of url agent
  pub answered : IsAnswerOf want connection.gives answer

-- one of the connections is that, at this place or behind it
pub record HasExchangeSince (since : ℕ) (made : List Connection) (number : ℕ) (agent url : List ℕ) (want : Want)
    (answer : Answer) : Type 0 where
  pub place : ℕ
  pub connection : Connection
  pub later : since ≤ place
  pub at : slice_get made place ≡ Some connection
  pub exchange : IsExchange number agent url want answer connection

-- The answers by the number, the agent's name, the port's faults and its connections, of which those count that it made
-- since there were so many. No reply came where a fault was counted. Over a port that tells no connections it is any.
abbrev pub by_wire : ℕ → List ℕ → ℕ → Option (List Connection) → ℕ → Answers
by_wire number agent faults None since url want answer = ⊤
by_wire number agent faults (Some made) since url want answer =
    ((answer ≡ NoReply) × (1 ≤ faults)) ⊎ HasExchangeSince since made number agent url want answer

-- how many connections were made, where they are told
abbrev pub how_many : Made → ℕ
how_many None = 0
how_many (Some made) = length made

-- those before stay, with what was written on them, and others may stand behind them
abbrev pub KeepsMade : Made → Made → Type 0
KeepsMade before after = OfKnown (λ old new. (more : List Connection) × (new ≡ old ++ more)) before after

-- one connection was made at most, and those before it stay, with what was written on them
abbrev pub MakesAtMostOne : Made → Made → Type 0
MakesAtMostOne before after =
    OfKnown (λ old new. (more : List Connection) × (new ≡ old ++ more) × (length more ≤ 1)) before after

-- where connections are told, the last one has all of this left
abbrev pub IsLeft : List ℕ → Option (List Connection) → Option (List ℕ) → Type 0
IsLeft gives None left = ⊤
IsLeft gives (Some made) left = left ≡ Some gives

-- one was made to this port, on which this and nothing else was written, and nothing of it was read
pub record Sends (port : ℕ) (bytes : List ℕ) (before after : Option (List Connection)) (left : Option (List ℕ))
    : Type 0 where
  pub gives : List ℕ
  pub newest : HasExchange port gives bytes before after
  pub all_left : IsLeft gives after left
