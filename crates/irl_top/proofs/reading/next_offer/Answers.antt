use Rattle.std.proofs.Common.{◌≡◌, ◌∙◌, ℕ, ◌+◌, List, Some, sym, ap, subst}
use Rattle.std.specs.Io.KnownBytes.{prepend_known}
use Rattle.irl_io.specs.Steps.{RefusesLine}
use Rattle.irl_top.proofs.InputLines.{of_some, of_end, first_refused}
use Rattle.irl_top.proofs.reading.next_offer.Goals as goal

pub returns-in-End-clause-none : goal.returns-in-End-clause-none
returns-in-End-clause-none g c = λ none before tells.
    let so_far = c.lines.invariant.bytes before tells in
    let stepped = rw (so_far.1, c.in-End.is) at c.next.follows.holds-at-none.bytes in
    of_end c.args.kind c.args.lines.now c.lines.lines before so_far.0 c.next.follows.lender-at-none.ahead (g.I.Source.left c.next.new.source) so_far.2 stepped

pub returns-in-LongLine-clause-refused : goal.returns-in-LongLine-clause-refused
returns-in-LongLine-clause-refused g c = λ n e before tells.
    let so_far = c.lines.invariant.bytes before tells in
    let rest = so_far.0 in
    let stepped = rw (so_far.1, c.in-LongLine.is) at c.next.follows.holds-at-none.bytes in
    let moved : (after : List ℕ) × (prepend_known c.next.follows.lender-at-none.ahead (g.I.Source.left c.next.new.source) ≡ Some after) × RefusesLine c.in-LongLine.n rest after =
    of_some (RefusesLine c.in-LongLine.n) rest _ stepped in
    let named : c.in-LongLine.n ≡ c.lines.lines.number + 1 = c.in-LongLine.ensures.limits in
    let first = first_refused c.args.kind c.lines.lines.number rest moved.0 (subst (λ (k : ℕ). RefusesLine k rest moved.0) named moved.2) in
    let same : c.lines.lines.number + 1 ≡ n = let back = sym named in cc in
    (so_far.2.offers ∙ first.0, so_far.2.refuses ∙ first.1 ∙ ap (λ (k : ℕ). Some k) same)
