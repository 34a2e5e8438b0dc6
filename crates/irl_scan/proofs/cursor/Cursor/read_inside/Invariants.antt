-- What is read from here on, with what was read, is the inside of the tag.
use Rattle.std.proofs.Common.{◌≡◌, ℕ, ◌-◌, ◌≤◌, List, length, Option, IfSome}
use Rattle.irl_scan.specs.declared.attribute.Ending.{Ending}
use Rattle.irl_scan.specs.declared.span.Span.{Span}
use Rattle.irl_scan.specs.Links.{IsWithin}
use Rattle.irl_scan.specs.Reading.{or_first, ReadsInside}
use Rattle.irl_scan.proofs.cursor.Cursor.read_inside.Given as goal

abbrev pub invariant-loop-kind : goal.invariant-loop-kind
invariant-loop-kind l = record {
  goes_on : (first : Option Span) (ending : Ending) (rest : List ℕ) → ReadsInside l.kind (l.fn.self.size - length l.self.rest.now) l.self.rest.now first ending rest
      → ReadsInside l.kind (l.fn.self.size - length l.fn.self.rest.now) l.fn.self.rest.now (or_first l.first first) ending rest;
  size : l.self.size ≡ l.fn.self.size;
  shorter : length l.self.rest.now ≤ length l.fn.self.rest.now;
  within : IfSome l.first (IsWithin l.fn.self.size);
}

abbrev pub decreases-loop-kind : goal.decreases-loop-kind
decreases-loop-kind l = length l.self.rest.now
