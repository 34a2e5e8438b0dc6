-- What a fetcher tells: the answers that it gives, as a relation, since a count of how often it was asked.
use Rattle.std.specs.Prelude.{ℕ, List}
use Rattle.irl_offer.specs.declared.reply.Answer.{Answer}
use Rattle.irl_offer.specs.declared.reply.Want.{Want}

-- the answers to a URL, by its canonical text, and to what is asked for
abbrev pub Answers : Type 1
Answers = List ℕ → Want → Answer → Type 0

-- each answer that was given still is
abbrev pub Widens : Answers → Answers → Type 0
Widens old new = (url : List ℕ) (want : Want) (answer : Answer) → old url want answer → new url want answer

-- the same of the answers since each count
abbrev pub WidensSince : (ℕ → Answers) → (ℕ → Answers) → Type 0
WidensSince old new = (since : ℕ) → Widens (old since) (new since)
