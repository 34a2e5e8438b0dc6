-- What a call that reads a reply took of its link.
use Rattle.std.specs.Prelude.{◌≡◌, ℕ, ◌≤◌, ◌⊎◌, List, ◌++◌, length, Option}
use Rattle.std.specs.Io.KnownBytes.{Consumes, Keeps, IsAtEnd}
use Rattle.irl_offer.specs.declared.reply.Want.{Want}
use Rattle.irl_offer.specs.declared.reply.Answer.{Answer}
use Rattle.irl_offer.specs.declared.reply.Answer.TheVariants.{Reply, NoReply, Short, BadReply, TooLarge, Coded}
use Rattle.irl_http.specs.Reply.{TellsNothing, Answers}

-- the most bytes that are taken of a link for one reply
abbrev pub max_taken : ℕ
max_taken = 300000000

-- The answer of the bytes that were taken. Where the link failed, they tell none.
abbrev pub AnswersTaken : Want → List ℕ → Type 0 → Answer → Type 0
AnswersTaken want taken Ended NoReply = TellsNothing want taken
AnswersTaken want taken Ended (Reply reply) = Answers want taken Ended (Reply reply)
AnswersTaken want taken Ended (Short n) = Answers want taken Ended (Short n)
AnswersTaken want taken Ended (BadReply n) = Answers want taken Ended (BadReply n)
AnswersTaken want taken Ended (TooLarge n) = Answers want taken Ended (TooLarge n)
AnswersTaken want taken Ended Coded = Answers want taken Ended Coded

-- Bytes that reads of a link gave, by what it had left before and after, and when it was last read: the last read was
-- made where P held of the bytes before it.
pub record Reads (P : List ℕ → Type 0) (before after last : Option (List ℕ)) (got : List ℕ) : Type 0 where
  pub early : List ℕ
  pub piece : List ℕ
  pub bytes : Consumes before after got
  pub parts : got ≡ early ++ piece
  pub last_read : Consumes before last early
  pub needed : P early

-- What was taken of a link for a reply. The last read was made where the bytes before it tell no answer; so was each
-- before that, since more bytes never untell one.
pub record ReadsNeeded (want : Want) (before after last : Option (List ℕ)) (taken : List ℕ) : Type 0 where
  pub reads : Reads (TellsNothing want) before after last taken
  pub few : length taken ≤ max_taken

-- the answer is that of the bytes that were taken
pub record ReadsAnswer (want : Want) (before after last : Option (List ℕ)) (answer : Answer) : Type 0 where
  pub taken : List ℕ
  pub needed : ReadsNeeded want before after last taken
  pub answers : AnswersTaken want taken (IsAtEnd after) answer

-- nothing was read, or only what was needed
abbrev pub ReadsNoMore : Want → Option (List ℕ) → Option (List ℕ) → Option (List ℕ) → Type 0
ReadsNoMore want before after last = Keeps before after ⊎ ((taken : List ℕ) × ReadsNeeded want before after last taken)
