-- No base stands before here, so that of the rest is that of the page.
use Rattle.std.proofs.Common.{◌≡◌, ◌-◌, List, length, Option}
use Rattle.irl_scan.specs.declared.span.Span.{Span}
use Rattle.irl_scan.specs.Reading.{Gives}
use Rattle.irl_scan.proofs.scan.base.Given as goal

abbrev pub invariant-loop-cursor : goal.invariant-loop-cursor
invariant-loop-cursor l = record {
  goes_on : (spans : List Span) (base : Option Span) → Gives (length l.fn.page - length l.cursor.rest.now) l.cursor.rest.now spans base → (others : List Span) × Gives 0 l.fn.page others base;
  size : l.cursor.size ≡ length l.fn.page;
}

abbrev pub decreases-loop-cursor : goal.decreases-loop-cursor
decreases-loop-cursor l = length l.cursor.rest.now
