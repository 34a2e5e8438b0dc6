use Rattle.std.proofs.Common.{◌+◌, ◌-◌, ◌≤◌, ◌<◌, length, refl, arith, ⊎_elim}
use Rattle.irl_bay.proofs.found.Found.advanced.Goals as goal
use Rattle.irl_bay.proofs.found.Found.advanced.Goals.{else-self-cut-via-then-self-cut+else-cut-self, else-self-cut-via-else-self-cut}

pub returns-then-cut-self : goal.returns-then-cut-self
returns-then-cut-self c = record {
  count = omega (arith, c.saturating_add-count.ensures);
  texts = omega (arith, c.text_length.ensures, c.saturating_add-texts.ensures);
  here = λ from below. (refl, omega (arith, c.if-self-cut.true), omega (arith, c.text_length-before.ensures, c.saturating_add.ensures));
  elsewhere = λ other. absurd (⊎_elim (λ (above : c.args.cut < c.args.self.now.count). omega (arith, above, c.if-self-cut.true))
      (λ (past : c.args.self.now.count + length c.args.run.now ≤ c.args.cut). omega (arith, past, c.if-cut-self.true)) other);
}

pub returns : goal.returns
returns c = record {
  count = omega (arith, c.saturating_add-count.ensures);
  texts = omega (arith, c.text_length.ensures, c.saturating_add-texts.ensures);
  here = λ from below. absurd (elim c.else-self-cut.branch [
    | else-self-cut-via-then-self-cut+else-cut-self w ↦ omega (arith, below, w.if-cut-self.false, w.if-self-cut.true)
    | else-self-cut-via-else-self-cut w ↦ omega (arith, from, w.if-self-cut.false)
  ]);
  elsewhere = λ other. (refl, refl, refl);
}
