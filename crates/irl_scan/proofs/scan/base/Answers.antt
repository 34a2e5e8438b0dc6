use Rattle.std.proofs.Common.{◌≡◌, ◌-◌, [], Some, None, length, sym, ◌∙◌, subst, arith}
use Rattle.std.proofs.lemmas.Bool.{eqb-true}
use Rattle.std.proofs.lemmas.List.{nil_from_length}
use Rattle.irl_scan.specs.Reading.{Takes}
use Rattle.irl_scan.proofs.Scans.{base_start, base_passes, base_stops, base_told, base_found, base_only}
use Rattle.irl_scan.proofs.scan.base.Goals as goal

pub loop-cursor-init : goal.loop-cursor-init
loop-cursor-init c = record { goes_on = base_start c.args.page.now c.new-cursor.result.rest.now c.new-cursor.ensures.rest; size = c.new-cursor.ensures.size }

pub loop-cursor-preserved : goal.loop-cursor-preserved
loop-cursor-preserved c =
    let page = c.args.page.now in
    let rest = c.loop-cursor.cursor.rest.now in
    let next = c.read_piece-found.new.self.rest.now in
    let same = c.loop-cursor.invariant.size in
    let fits = c.loop-cursor.cursor.fits in
    let takes = subst (λ n. Takes (n - length rest) rest c.read_piece-found.result next) same c.read_piece-found.ensures.takes in
    record {
      goes_on = base_passes (length page) page rest next c.read_piece-found.result (omega arith) takes c.in_default.not-Base c.loop-cursor.invariant.goes_on;
      size = c.read_piece-found.ensures.size ∙ same;
    }

pub returns-in-Base-clause-found : goal.returns-in-Base-clause-found
returns-in-Base-clause-found c =
    let page = c.args.page.now in
    let rest = c.loop-cursor.cursor.rest.now in
    let next = c.read_piece-found.new.self.rest.now in
    let same = c.loop-cursor.invariant.size in
    let fits = c.loop-cursor.cursor.fits in
    let takes = subst (λ n. Takes (n - length rest) rest c.read_piece-found.result next) same c.read_piece-found.ensures.takes in
    base_found page (Some c.in-Base.span) (base_stops (length page) page rest next c.read_piece-found.result c.in-Base.span (omega arith) (omega arith) takes c.in-Base.is
    c.loop-cursor.invariant.goes_on)

pub returns-in-Base-clause-only : goal.returns-in-Base-clause-only
returns-in-Base-clause-only c =
    let page = c.args.page.now in
    let rest = c.loop-cursor.cursor.rest.now in
    let next = c.read_piece-found.new.self.rest.now in
    let same = c.loop-cursor.invariant.size in
    let fits = c.loop-cursor.cursor.fits in
    let takes = subst (λ n. Takes (n - length rest) rest c.read_piece-found.result next) same c.read_piece-found.ensures.takes in
    base_only page (Some c.in-Base.span) (base_stops (length page) page rest next c.read_piece-found.result c.in-Base.span (omega arith) (omega arith) takes c.in-Base.is
    c.loop-cursor.invariant.goes_on)

pub returns-clause-found : goal.returns-clause-found
returns-clause-found c =
    let rest = c.loop-cursor.cursor.rest.now in
    let none : rest ≡ [] = nil_from_length rest (eqb-true (length rest) 0 (sym c.is_empty.ensures ∙ c.loop-cursor-test.false)) in
    base_found c.args.page.now None (base_told c.args.page.now rest none c.loop-cursor.invariant.goes_on)

pub returns-clause-only : goal.returns-clause-only
returns-clause-only c =
    let rest = c.loop-cursor.cursor.rest.now in
    let none : rest ≡ [] = nil_from_length rest (eqb-true (length rest) 0 (sym c.is_empty.ensures ∙ c.loop-cursor-test.false)) in
    base_only c.args.page.now None (base_told c.args.page.now rest none c.loop-cursor.invariant.goes_on)
