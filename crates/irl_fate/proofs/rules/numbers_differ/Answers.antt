use Rattle.std.proofs.Common.{◌≡◌, ◌∙◌, ◌+◌, ◌<◌, ℕ, List, length, cond, get_or, take, true, false, sym, ap, arith}
use Rattle.std.specs.Prelude.{is_some, Option, Some}
use Rattle.std.specs.Ordering.{nat_cmp}
use Rattle.std.specs.BTreeMap.{is_at}
use Rattle.std.specs.Map.{lookup}
use Rattle.std.specs.List.{take-map}
use Rattle.std.proofs.lemmas.Bool.{false_from_ne_true, false≢true}
use Rattle.std.proofs.lemmas.List.{length-map, get_or-map}
use Rattle.irl_offer.specs.declared.outcome.Outcome.{Outcome}
use Rattle.irl_offer.specs.declared.outcome.Outcome.TheVariants.{Page}
use Rattle.irl_events.specs.Events.{has_number}
use Rattle.irl_events.specs.Legal.{are_distinct}
use Rattle.irl_fate.proofs.Marking.{numbers_done, distinct_at}
use Rattle.irl_fate.proofs.RuleLemmas.{distinct_more, seen_more}
use Rattle.irl_fate.proofs.rules.numbers_differ.Goals as goal

-- the number of one of the outcomes, and those of the outcomes before it
number_at : (done : List (ℕ × Outcome)) (i : ℕ) → i < length done → get_or (numbers_done done) i 0 ≡ (get_or done i (0, Page)).0
number_at done i lt = get_or-map (λ (d : ℕ × Outcome). d.0) done i (0, Page) 0 lt

before : (done : List (ℕ × Outcome)) (i : ℕ) → take i (numbers_done done) ≡ numbers_done (take i done)
before done i = take-map (λ (d : ℕ × Outcome). d.0) i done

within : (done : List (ℕ × Outcome)) (i : ℕ) → i < length done → i < length (numbers_done done)
within done i lt = omega (arith, length-map done (λ (d : ℕ × Outcome). d.0))

pub returns-then-is_some : goal.returns-then-is_some
returns-then-is_some c =
    let done = c.args.done.now in
    let i = c.loop-number.number-index in
    let n = (get_or done i (0, Page)).0 in
    let lt = c.loop-number-test.true in
    let there : has_number (numbers_done (take i done)) n ≡ true =
    sym (c.loop-number.invariant.seen n) ∙ ap (λ (o : Option _). is_some o) (sym c.in_ok-insert.ensures.old) ∙ sym c.is_some.ensures ∙ c.if-is_some.true in
    sym (false_from_ne_true (are_distinct (numbers_done done)) (λ d.
    let none : has_number (take i (numbers_done done)) (get_or (numbers_done done) i 0) ≡ false = distinct_at (numbers_done done) i 0 d (within done i lt) in
    false≢true (sym none ∙ ap (has_number (take i (numbers_done done))) (number_at done i lt) ∙ ap (λ (t : List ℕ). has_number t n) (before done i) ∙ there)))

pub loop-number-preserved : goal.loop-number-preserved
loop-number-preserved c =
    let done = c.args.done.now in
    let numbers = numbers_done done in
    let i = c.loop-number.number-index in
    let n = (get_or done i (0, Page)).0 in
    let lt = c.loop-number-test.true in
    let here : get_or numbers i 0 ≡ n = number_at done i lt in
    let none : has_number (take i numbers) (get_or numbers i 0) ≡ false =
    ap (has_number (take i numbers)) here ∙ ap (λ (t : List ℕ). has_number t n) (before done i)
    ∙ sym (c.loop-number.invariant.seen n) ∙ ap (λ (o : Option _). is_some o) (sym c.in_ok-insert.ensures.old) ∙ sym c.is_some.ensures ∙ c.if-is_some.false in
    record {
      seen = λ q.
          seen_more numbers i q (lookup (is_at (nat_cmp q)) c.loop-number.seen.entries) (lookup (is_at (nat_cmp q)) c.insert.new.self.entries) (within done i lt) (c.in_ok-insert.ensures.updates.0 q
          ∙ ap (λ (k : ℕ). cond (is_at (nat_cmp k) q) (Some true) (lookup (is_at (nat_cmp q)) c.loop-number.seen.entries)) (sym here))
          (c.loop-number.invariant.seen q ∙ ap (λ (t : List ℕ). has_number t q) (sym (before done i)))
          ∙ ap (λ (t : List ℕ). has_number t q) (before done (i + 1));
      differ = ap are_distinct (sym (before done (i + 1)))
          ∙ distinct_more numbers i (within done i lt) (ap are_distinct (before done i) ∙ c.loop-number.invariant.differ) none;
    }
