use Rattle.std.proofs.Common.{◌≡◌, ◌∙◌, ℕ, ◌+◌, ◌++◌, List, [], ◌∷◌, get_or, set, take, append_assoc, sym, ap, subst, arith, rules}
use Rattle.std.proofs.lemmas.List.{take_more, take_all}
use Rattle.irl_offer.specs.declared.outcome.Outcome.{Outcome}
use Rattle.irl_offer.specs.declared.outcome.Outcome.TheVariants.{Page}
use Rattle.irl_fate.specs.Counting.{kind_of}
use Rattle.irl_frontier.specs.Tallies.{HasTally}
use Rattle.irl_frontier.proofs.Tallies.{tally_more}
use Rattle.irl_frontier.proofs.tally.with_done.Goals as goal

pub loop-one-preserved : goal.loop-one-preserved
loop-one-preserved c = λ before has.
    let done = c.args.done.now in
    let i : ℕ = c.loop-one.one-index in
    let d : ℕ × Outcome = get_or done i (0, Page) in
    let kind : c.kind_of-kind.result ≡ kind_of d.1 = c.kind_of-kind.ensures.value in
    let one : c.in_ok-more.field-0 ≡ get_or c.loop-one.more c.kind_of-kind.result 0 + 1 = search rules in
    let next : HasTally (set c.loop-one.more c.kind_of-kind.result c.in_ok-more.field-0) ((before ++ take i done) ++ d ∷ []) =
    tally_more c.loop-one.more (set c.loop-one.more c.kind_of-kind.result c.in_ok-more.field-0) (before ++ take i done) d c.kind_of-kind.result kind c.kind_of-kind.ensures.within
    (ap (set c.loop-one.more c.kind_of-kind.result) one) (c.loop-one.invariant before has) in
    subst (λ (ds : List (ℕ × Outcome)). HasTally (set c.loop-one.more c.kind_of-kind.result c.in_ok-more.field-0) ds)
    (append_assoc before (take i done) (d ∷ []) ∙ ap (λ (t : List (ℕ × Outcome)). before ++ t) (sym (take_more done i (0, Page) c.loop-one-test.true))) next

pub returns : goal.returns
returns c = λ before has.
    subst (λ (ds : List (ℕ × Outcome)). HasTally c.loop-one.more (before ++ ds)) (take_all c.loop-one.one-index c.args.done.now (omega arith)) (c.loop-one.invariant before has)
