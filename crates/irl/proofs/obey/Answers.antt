use Rattle.std.proofs.Common.{ℕ, List, Bor, refl}
use Rattle.std.proofs.lemmas.List.{drop-map}
use Rattle.irl.proofs.obey.Goals as goal

pub returns-in-Refused : goal.returns-in-Refused
returns-in-Refused g c =
    rw (← c.from_words.ensures, c.in-Refused.is)
    (record {
      status_is = c.refuse.ensures.status;
      says = rw (← c.refusing_word.ensures) c.refuse.ensures.says;
      input = refl;
      output = refl;
      ports = refl;
    })

pub returns-in-Command : goal.returns-in-Command
returns-in-Command g c =
    rw (← c.from_words.ensures, c.in-Command.is, drop-map (λ (word : Bor (List ℕ)). word.now) 1 c.args.words.now)
    c.command.ensures
