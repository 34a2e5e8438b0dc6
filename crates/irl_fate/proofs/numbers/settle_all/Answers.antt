use Rattle.std.proofs.Common.{◌≡◌, ◌∙◌, ap, cond, get_or, take, false, sym, length, ◌<◌, ℕ, arith, List, subst}
use Rattle.std.specs.Prelude.{nat_eq}
use Rattle.std.proofs.lemmas.List.{length-map, take-map, get_or-map}
use Rattle.irl_offer.specs.declared.outcome.Outcome.{Outcome}
use Rattle.irl_offer.specs.declared.outcome.Outcome.TheVariants.{Page}
use Rattle.irl_events.specs.Events.{has_number}
use Rattle.irl_fate.specs.declared.fate.Fate.TheVariants.{Done}
use Rattle.irl_fate.specs.Kept.{fate_in, is_front, AreSorted}
use Rattle.irl_fate.proofs.Entries.{entry_of}
use Rattle.irl_fate.proofs.Marking.{front_fresh, each_at, done_more, distinct_at, numbers_done}
use Rattle.irl_fate.proofs.numbers.settle_all.Goals as goal

pub relabel-requires-clause-sorted : goal.relabel-requires-clause-sorted
relabel-requires-clause-sorted c = subst AreSorted (sym c.loop-number.invariant.numbers) c.requires.sorted

pub relabel-requires-clause-entry : goal.relabel-requires-clause-entry
relabel-requires-clause-entry c =
    let old = c.args.entries.now in
    let i = c.loop-number.number-index in
    ap (λ (t : List ℕ). has_number t (get_or c.args.done.now i (0, Page)).0) c.loop-number.invariant.numbers
    ∙ entry_of old _ (front_fresh _ (each_at (λ (d : ℕ × Outcome). is_front (fate_in old d.0)) c.args.done.now i (0, Page) c.requires.front c.loop-number-test.true))

pub loop-number-preserved : goal.loop-number-preserved
loop-number-preserved c =
    let i = c.loop-number.number-index in
    let done = c.args.done.now in
    let o = get_or done i (0, Page) in
    let count : length (numbers_done done) ≡ length done = length-map done (λ (d : ℕ × Outcome). d.0) in
    let within : i < length (numbers_done done) = omega (arith, c.loop-number-test.true) in
    let here : get_or (numbers_done done) i 0 ≡ o.0 = get_or-map (λ (d : ℕ × Outcome). d.0) done i (0, Page) 0 c.loop-number-test.true in
    let none : has_number (numbers_done (take i done)) o.0 ≡ false =
    ap (has_number (numbers_done (take i done))) (sym here)
    ∙ ap (λ (t : List ℕ). has_number t (get_or (numbers_done done) i 0)) (sym (take-map (λ (d : ℕ × Outcome). d.0) i done))
    ∙ distinct_at (numbers_done done) i 0 c.requires.distinct within in
    record {
      fates = λ q.
          c.relabel.ensures.fate q
          ∙ ap (cond (nat_eq o.0 q) (Done o.1)) (c.loop-number.invariant.fates q)
          ∙ done_more done i (0, Page) q (fate_in c.args.entries.now q) c.loop-number-test.true none;
      numbers = c.relabel.ensures.numbers ∙ c.loop-number.invariant.numbers;
    }
