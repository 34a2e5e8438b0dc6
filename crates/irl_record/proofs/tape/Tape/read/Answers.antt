use Rattle.std.proofs.Common.{◌≡◌, ◌∙◌, ℕ, ◌+◌, List, [], Some, Err, sym, ap, subst, arith}
use Rattle.std.specs.Io.KnownBytes.{prepend_known}
use Rattle.irl_io.specs.Lines.{lines}
use Rattle.irl_io.specs.Steps.{Progress, RefusesLine}
use Rattle.irl_record.specs.Reading.{tape_from}
use Rattle.irl_record.proofs.ReadLemmas.{of_some, nothing_left, on_ok, line_over}
use Rattle.irl_record.proofs.tape.Tape.read.Goals as goal

pub lines-init : goal.lines-init
lines-init g c =
    let left = g.I.Source.left c.args.source.now in
    let pages = c.args.pages in
    let fresh = c.in_ok-lines.ensures in
    record {
      bytes = λ bytes tells. (
        bytes,
        ap (λ (p : Progress). prepend_known p.ahead left) fresh ∙ ap (prepend_known []) tells,
        sym (ap (λ (p : Progress). tape_from pages (p.number + 1) c.new-reading.result (lines bytes)) fresh
            ∙ ap (λ r. tape_from pages 1 r (lines bytes)) c.new-reading.ensures),
      );
      few = let number = ap (λ (p : Progress). p.number) fresh in omega arith;
      later = omega arith;
    }

pub returns-in-End-clause-end : goal.returns-in-End-clause-end
returns-in-End-clause-end g c = on_ok c.finish.result _ (λ bytes tells.
    let so_far = c.lines.invariant.bytes bytes tells in
    let stepped = rw (so_far.1, c.in-End.is) at c.next.follows.holds-at-none.bytes in
    let End : List ℕ → List ℕ → Type 0 = λ before after. (before ≡ []) × (after ≡ []) in
    let moved : (after : List ℕ) × (prepend_known c.next.follows.lender-at-none.ahead (g.I.Source.left c.next.new.source) ≡ Some after) × End so_far.0 after = of_some End so_far.0 _ stepped in
    nothing_left c.next.follows.lender-at-none.ahead _ moved.0 moved.1 moved.2.1)

pub returns-in-LongLine-clause-refused : goal.returns-in-LongLine-clause-refused
returns-in-LongLine-clause-refused g c = λ n e bytes tells.
    let so_far = c.lines.invariant.bytes bytes tells in
    let rest = so_far.0 in
    let stepped = rw (so_far.1, c.in-LongLine.is) at c.next.follows.holds-at-none.bytes in
    let moved : (after : List ℕ) × (prepend_known c.next.follows.lender-at-none.ahead (g.I.Source.left c.next.new.source) ≡ Some after) × RefusesLine c.in-LongLine.n rest after =
    of_some (RefusesLine c.in-LongLine.n) rest _ stepped in
    let named : c.in-LongLine.n ≡ c.lines.lines.number + 1 = c.in-LongLine.ensures.limits in
    let over = line_over c.args.pages c.lines.lines.number c.lines.reading rest moved.0 (subst (λ (k : ℕ). RefusesLine k rest moved.0) named moved.2) in
    let same : c.lines.lines.number + 1 ≡ n = let back = sym named in cc in
    so_far.2 ∙ over ∙ ap (λ (k : ℕ). Err k) same
