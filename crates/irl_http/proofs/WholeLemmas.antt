-- The answer of what was taken of a connection is the answer of the whole one.
use Rattle.std.proofs.Common.{◌≡◌, ◌≢◌, ℕ, inl, inr, List, ◌++◌, Option, None, Some, refl, sym, ap, ◌∙◌, subst, arith, append-nil, length-append}
use Rattle.std.proofs.lemmas.List.{take-append-le}
use Rattle.std.specs.Io.KnownBytes.{Consumes, IsAtEnd}
use Rattle.irl_offer.specs.declared.reply.Want.{Want}
use Rattle.irl_offer.specs.declared.reply.Answer.{Answer}
use Rattle.irl_offer.specs.declared.reply.Answer.TheVariants.{Reply, NoReply, Short, BadReply, TooLarge, Coded}
use Rattle.irl_http.specs.Reading.{AnswersTaken}
use Rattle.irl_http.specs.Reply.{Shows, Tells, Answers}
use Rattle.irl_http.specs.Whole.{IsAnswerOf}

-- more bytes never untell an answer
pub tells_more : (want : Want) (taken rest : List ℕ) (a : Answer) → Tells want taken a → Tells want (taken ++ rest) a
tells_more want taken rest a t = record {
  count = t.count;
  within = omega (arith, t.within, length-append taken rest);
  shows = subst (λ l. Shows want l a) (sym (take-append-le t.count taken rest t.within)) t.shows;
  fewest = λ n other below s. t.fewest n other below (subst (λ l. Shows want l other) (take-append-le n taken rest (omega (arith, below, t.within))) s);
}

pub of_connection : (want : Want) (gives taken : List ℕ) (after : Option (List ℕ)) (a : Answer) → Consumes (Some gives) after taken → Answers want taken (IsAtEnd after) a → IsAnswerOf want gives a
of_connection want gives taken None a took answers = absurd took
of_connection want gives taken (Some rest) a took (inl tells) = inl (subst (λ l. Tells want l a) (sym took) (tells_more want taken rest a tells))
of_connection want gives taken (Some rest) a took (inr (ended, nothing, shows)) =
    let same : taken ≡ gives = sym (took ∙ ap (λ l. taken ++ l) ended ∙ append-nil taken) in
    subst (λ l. IsAnswerOf want l a) same (inr (tt, nothing, shows))

-- an answer of what was taken that isn't a failure's
pub answers_of : (want : Want) (taken : List ℕ) (Ended : Type 0) (a : Answer) → a ≢ NoReply → AnswersTaken want taken Ended a → Answers want taken Ended a
answers_of want taken Ended (Reply r) some answers = answers
answers_of want taken Ended NoReply some answers = absurd (some refl)
answers_of want taken Ended (Short n) some answers = answers
answers_of want taken Ended (BadReply n) some answers = answers
answers_of want taken Ended (TooLarge n) some answers = answers
answers_of want taken Ended Coded some answers = answers
