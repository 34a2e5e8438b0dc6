-- A fetcher that answers by a tape.
use Rattle.std.specs.Prelude.{◌≡◌, ℕ, Result, Ok, Err}
use Rattle.irl_base.specs.Faults.{counted}
use Rattle.irl_offer.specs.declared.reply.Answer.{Answer}
use Rattle.irl_offer.specs.declared.reply.Answer.TheVariants.{Reply, NoReply, Short, BadReply, TooLarge, Coded}
use Rattle.irl_record.specs.Taped.{Taped, record_at, answer_of}
use Rattle.irl_record.specs.Widening.{Answers}

-- its tape, how often it answered that no reply came, and its moment
pub record Playing : Type 0 where
  pub tape : Taped
  pub faults : ℕ
  pub moment : ℕ

-- the count after an answer: one more exactly where no reply came
abbrev pub faults_after_answer : Answer → ℕ → ℕ
faults_after_answer (Reply reply) faults = faults
faults_after_answer NoReply faults = counted faults
faults_after_answer (Short n) faults = faults
faults_after_answer (BadReply n) faults = faults
faults_after_answer (TooLarge n) faults = faults
faults_after_answer Coded faults = faults

-- the same after a call, which leaves the count where memory ran out
abbrev pub faults_after : {E : Type 0} → Result Answer E → ℕ → ℕ
faults_after (Ok answer) faults = faults_after_answer answer faults
faults_after (Err e) faults = faults

-- the answers by a tape: one to each URL, whatever is asked for
abbrev pub by_tape : Taped → Answers
by_tape tape url want answer = answer ≡ answer_of (record_at tape.records url)
