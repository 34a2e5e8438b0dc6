use Rattle.std.proofs.Common.{◌≡◌, ◌-◌, [], false, true, not, length, drop, None, ap, sym, ◌∙◌, subst, arith}
use Rattle.std.proofs.lemmas.Bool.{eqb-true, eqb-false}
use Rattle.std.proofs.lemmas.List.{nil_from_length}
use Rattle.irl_scan.specs.declared.attribute.Ending.TheVariants.{Marked, PageEnd}
use Rattle.irl_scan.specs.Bytes.{is_gap, wants}
use Rattle.irl_scan.specs.Links.{IsWithin, value_span}
use Rattle.irl_scan.specs.Reading.{from, not_gap, first_is, value_at, ReadsInside}
use Rattle.irl_scan.proofs.Insides.{or_first-none, inside_ends, inside_closes, turn, within_turn}
use Rattle.irl_scan.proofs.Searches.{position_run}
use Rattle.irl_scan.proofs.cursor.Cursor.read_inside.Goals as goal

pub returns-then-is_empty-clause-inside : goal.returns-then-is_empty-clause-inside
returns-then-is_empty-clause-inside c =
    let size = c.args.self.now.size in
    let inside = c.args.self.now.rest.now in
    let left = c.loop-kind.self.rest.now in
    let rest = c.take_to.new.self.rest.now in
    let gap : rest ≡ from not_gap left = c.take_to.ensures.rest ∙ (position_run (λ b. not (is_gap b)) left c.gap_end.result c.gap_end.ensures).back in
    let none : rest ≡ [] = nil_from_length rest (eqb-true (length rest) 0 (sym c.is_empty.ensures ∙ c.if-is_empty.true)) in
    let ends = inside_ends c.args.kind (size - length left) left rest gap none in
    subst (λ first. ReadsInside c.args.kind (size - length inside) inside first PageEnd rest) (or_first-none c.loop-kind.first) (c.loop-kind.invariant.goes_on None PageEnd rest ends)

pub returns-then-first_is-clause-inside : goal.returns-then-first_is-clause-inside
returns-then-first_is-clause-inside c =
    let size = c.args.self.now.size in
    let inside = c.args.self.now.rest.now in
    let left = c.loop-kind.self.rest.now in
    let gap : c.take_to.new.self.rest.now ≡ from not_gap left = c.take_to.ensures.rest ∙ (position_run (λ b. not (is_gap b)) left c.gap_end.result c.gap_end.ensures).back in
    let closes : first_is 62 (from not_gap left) ≡ true = ap (first_is 62) (sym gap) ∙ sym c.first_is.ensures ∙ c.if-first_is.true in
    let behind : drop 1 (from not_gap left) ≡ c.skip.new.self.rest.now = ap (drop 1) (sym gap) ∙ sym c.skip.ensures.rest in
    let ends = inside_closes c.args.kind (size - length left) left closes in
    let all = subst (λ first. ReadsInside c.args.kind (size - length inside) inside first Marked (drop 1 (from not_gap left))) (or_first-none c.loop-kind.first)
    (c.loop-kind.invariant.goes_on None Marked (drop 1 (from not_gap left)) ends) in
    subst (λ rest. ReadsInside c.args.kind (size - length inside) inside c.loop-kind.first Marked rest) behind all

pub loop-kind-preserved : goal.loop-kind-preserved
loop-kind-preserved c =
    let size = c.args.self.now.size in
    let inside = c.args.self.now.rest.now in
    let left = c.loop-kind.self.rest.now in
    let rest = c.take_to.new.self.rest.now in
    let gap : rest ≡ from not_gap left = c.take_to.ensures.rest ∙ (position_run (λ b. not (is_gap b)) left c.gap_end.result c.gap_end.ensures).back in
    let some : length rest ≡ 0 → ⊥ = eqb-false (length rest) 0 (sym c.is_empty.ensures ∙ c.if-is_empty.false) in
    let open_ : first_is 62 rest ≡ false = sym c.first_is.ensures ∙ c.if-first_is.false in
    let name = c.read_name-name.ensures in
    let behind = c.read_name-name.new.self.rest.now in
    let value = c.read_value-span.ensures in
    let same : c.read_name-name.new.self.size ≡ size = name.size ∙ c.take_to.ensures.size ∙ c.loop-kind.invariant.size in
    let fits = c.args.self.now.fits in
    record {
      goes_on = turn c.args.kind size (size - length inside) inside left rest c.read_name-name.result.now behind c.read_value-span.new.self.rest.now
          c.loop-kind.first c.or_wanted-first.result c.read_value-span.result gap (omega arith) open_ name.front name.back
          (value.span ∙ ap (λ n. value_span (n - length behind) (value_at behind).0) same) value.rest c.or_wanted-first.ensures
          (let shorter = c.loop-kind.invariant.shorter in omega arith) c.loop-kind.invariant.goes_on;
      size = value.size ∙ same;
      shorter = omega arith;
      within = within_turn (IsWithin size) c.loop-kind.first c.or_wanted-first.result (wants c.args.kind c.read_name-name.result.now) c.read_value-span.result
          c.or_wanted-first.ensures c.loop-kind.invariant.within (subst (λ n. IsWithin n c.read_value-span.result) same value.within);
    }
