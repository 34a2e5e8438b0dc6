use Rattle.std.proofs.Common.{sym, eqb}
use Rattle.irl_http.proofs.FieldLemmas.{before-Some, before-None}
use Rattle.irl_http.proofs.fields.before_semicolon.Goals as goal

pub returns-in-Some : goal.returns-in-Some
returns-in-Some c = before-Some (λ b. eqb b 59) c.args.value.now c.in-Some.end (sym c.in-Some.ensures)

pub returns-in-None : goal.returns-in-None
returns-in-None c = before-None (λ b. eqb b 59) c.args.value.now (sym c.in-None.ensures)
