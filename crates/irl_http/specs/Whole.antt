-- The answer of a whole connection.
use Rattle.std.specs.Prelude.{ℕ, List, ⊤}
use Rattle.irl_offer.specs.declared.reply.Want.{Want}
use Rattle.irl_offer.specs.declared.reply.Answer.{Answer}
use Rattle.irl_http.specs.Reply.{Answers}

-- the answer of a connection that gives these bytes and then ends
abbrev pub IsAnswerOf : Want → List ℕ → Answer → Type 0
IsAnswerOf want gives answer = Answers want gives ⊤ answer
