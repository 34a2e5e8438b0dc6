use Rattle.std.proofs.Common.{◌≡◌, ◌∙◌, ℕ, ◌<◌, ◌^◌, get_or, inl, inr, sym, ap, subst, arith}
use Rattle.std.proofs.lemmas.Bool.{cases_eq}
use Rattle.std.proofs.lemmas.List.{get_or_default}
use Rattle.irl_offer.specs.declared.note.Note.{Note}
use Rattle.irl_crawl.proofs.turn.moments_are_words.Goals as goal

pub loop-note-preserved : goal.loop-note-preserved
loop-note-preserved c = λ k d within. elim (cases_eq k c.loop-note.note-index) [
  | inl same ↦
      let notes = c.args.notes.now in
      let one : Note = c.note-item.result in
      let here : one ≡ get_or notes k d = c.note-item.is ∙ ap (λ (n : ℕ). get_or notes n one) (sym same) ∙ get_or_default notes k one d (omega (arith, same, c.loop-note-test.true)) in
      subst (λ (note : Note). note.when < 2 ^ 64) here c.moment_is_word.ensures
  | inr other ↦ c.loop-note.invariant k d (omega (arith, within, other))
]
