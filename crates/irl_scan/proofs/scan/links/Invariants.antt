-- The links so far, and those of the rest, are those of the page.
use Rattle.std.proofs.Common.{◌≡◌, ◌-◌, List, ◌++◌, length, Option, All}
use Rattle.irl_scan.specs.declared.span.Span.{Span}
use Rattle.irl_scan.specs.Links.{IsWithin}
use Rattle.irl_scan.specs.Reading.{Gives}
use Rattle.irl_scan.proofs.scan.links.Given as goal

abbrev pub invariant-loop-cursor : goal.invariant-loop-cursor
invariant-loop-cursor l = record {
  goes_on : (more : List Span) (base : Option Span) → Gives (length l.fn.page - length l.cursor.rest.now) l.cursor.rest.now more base → (other : Option Span)
      × Gives 0 l.fn.page (l.spans.items ++ more) other;
  size : l.cursor.size ≡ length l.fn.page;
  within : All (IsWithin (length l.fn.page)) l.spans.items;
}

abbrev pub decreases-loop-cursor : goal.decreases-loop-cursor
decreases-loop-cursor l = length l.cursor.rest.now
