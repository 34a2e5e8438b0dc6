-- What was handed over from the gate on is what the file has from there on.
use Rattle.std.proofs.Common.{◌≡◌, ◌≢◌, ◌∙◌, ℕ, true, ⊎_elim, inl, inr, [], refl, sym, subst, drop, arith, rules}
use Rattle.irl_journal.specs.Visiting.{StopsAt}
use Rattle.irl_journal.proofs.Handed.{takes_rest, refuses_rest, rest_none}
use Rattle.irl_journal.proofs.journal.Journal.revisit.Goals as goal

-- the journal's end
pub returns-then-at-end-clause-revisited : goal.returns-then-at-end-clause-revisited
returns-then-at-end-clause-revisited g c = λ files tells.
    let last : c.args.at ≡ c.args.self.now.end = c.if-at-end.true ∙ c.end.ensures in
    record {
      records = λ first more ends here.
          let none : more ≡ [] = rest_none (files c.args.self.now.file) first more c.args.self.now.end c.args.at ends here last in
          rw none refl;
      found = λ below. absurd (omega (arith, below, last));
    }

-- a record that is refused, or none that is whole
pub returns-in_err-end-clause-damaged : goal.returns-in_err-end-clause-damaged
returns-in_err-end-clause-damaged g c = λ place e files tells.
    let damaged = rw c.file-2.ensures.value at (c.in_err-end.ensures.damaged place (search rules) files (c.in_ok-length.ensures.same ∙ tells)) in
    let why = ⊎_elim (λ stops. inl stops) (λ refusal. inr (inr refusal)) damaged in
    record {
      why = why;
      refused = λ first more ends here.
          refuses_rest g.V.Visit.takes g.V.Visit.refuses c.args.visitor.now c.read_from.new.visitor (files c.args.self.now.file) first more c.args.self.now.end c.args.at place ends here why;
    }

-- a closed gate at another place
pub returns-then-end-clause-damaged : goal.returns-then-end-clause-damaged
returns-then-end-clause-damaged g c = λ place e files tells.
    let same : c.in_ok-end.end ≡ place = cc in
    let stops = rw (c.file-2.ensures.value, same) at (c.in_ok-end.ensures.records files (c.in_ok-length.ensures.same ∙ tells)) in
    let other : place ≢ c.args.self.now.end = λ is. c.if-end.true (same ∙ is ∙ sym c.end-2.ensures) in
    record {
      why = inr (inl (stops, other));
      refused = λ first more ends here.
          refuses_rest g.V.Visit.takes g.V.Visit.refuses c.args.visitor.now c.read_from.new.visitor (files c.args.self.now.file) first more c.args.self.now.end c.args.at place ends here
          (inr (inl (stops, other)));
    }

pub returns-clause-revisited : goal.returns-clause-revisited
returns-clause-revisited g c = λ files tells.
    let stops = rw c.file-2.ensures.value at (c.in_ok-end.ensures.records files (c.in_ok-length.ensures.same ∙ tells)) in
    let last : c.in_ok-end.end ≡ c.args.self.now.end = omega (arith, c.if-end.false, c.end-2.ensures) in
    record {
      records = λ first more ends here.
          takes_rest g.V.Visit.takes c.args.visitor.now c.read_from.new.visitor (files c.args.self.now.file) first more c.args.self.now.end c.args.at c.in_ok-end.end ends here stops;
      found = λ below. subst (λ (k : ℕ). StopsAt g.V.Visit.takes c.args.visitor.now c.read_from.new.visitor c.args.at true (drop c.args.at (files c.args.self.now.file)) k) last stops;
    }
