use Rattle.std.proofs.Common.{◌≡◌, ◌-◌, [], length, sym, ◌∙◌, subst, arith}
use Rattle.std.proofs.lemmas.Bool.{eqb-true}
use Rattle.std.proofs.lemmas.List.{nil_from_length}
use Rattle.irl_scan.specs.Reading.{Takes, found_within}
use Rattle.irl_scan.proofs.Scans.{links_start, none_within, links_turn, links_within, links_told, links_found, links_only}
use Rattle.irl_scan.proofs.scan.links.Goals as goal

pub loop-cursor-init : goal.loop-cursor-init
loop-cursor-init c = record {
  goes_on = links_start c.args.page.now c.new-cursor.result.rest.now c.new-spans.result.items c.new-cursor.ensures.rest c.new-spans.ensures.items;
  size = c.new-cursor.ensures.size;
  within = none_within (length c.args.page.now) c.new-spans.result.items c.new-spans.ensures.items;
}

pub loop-cursor-preserved : goal.loop-cursor-preserved
loop-cursor-preserved c =
    let page = c.args.page.now in
    let rest = c.loop-cursor.cursor.rest.now in
    let found = c.read_piece-found.result in
    let spans = c.loop-cursor.spans.items in
    let new = c.push_link.new.spans.items in
    let same = c.loop-cursor.invariant.size in
    let fits = c.loop-cursor.cursor.fits in
    let takes = subst (λ n. Takes (n - length rest) rest found c.read_piece-found.new.self.rest.now) same c.read_piece-found.ensures.takes in
    let within = subst (λ n. found_within n found) same c.read_piece-found.ensures.within in
    record {
      goes_on = links_turn (length page) page rest c.read_piece-found.new.self.rest.now found spans new (omega arith) takes c.in_ok-push_link.ensures.ok c.loop-cursor.invariant.goes_on;
      size = c.read_piece-found.ensures.size ∙ same;
      within = links_within (length page) found spans new c.in_ok-push_link.ensures.ok c.loop-cursor.invariant.within within;
    }

pub returns-clause-found : goal.returns-clause-found
returns-clause-found c =
    let rest = c.loop-cursor.cursor.rest.now in
    let none : rest ≡ [] = nil_from_length rest (eqb-true (length rest) 0 (sym c.is_empty.ensures ∙ c.loop-cursor-test.false)) in
    links_found c.args.page.now c.loop-cursor.spans.items (links_told c.args.page.now rest c.loop-cursor.spans.items none c.loop-cursor.invariant.goes_on)

pub returns-clause-only : goal.returns-clause-only
returns-clause-only c =
    let rest = c.loop-cursor.cursor.rest.now in
    let none : rest ≡ [] = nil_from_length rest (eqb-true (length rest) 0 (sym c.is_empty.ensures ∙ c.loop-cursor-test.false)) in
    links_only c.args.page.now c.loop-cursor.spans.items (links_told c.args.page.now rest c.loop-cursor.spans.items none c.loop-cursor.invariant.goes_on)
