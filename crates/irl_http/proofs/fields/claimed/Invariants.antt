use Rattle.std.proofs.Common.{◌≡◌, Some, map, drop}
use Rattle.httparse.specs.Spans.{span_bytes}
use Rattle.irl_http.specs.Fields.{agreed}
use Rattle.irl_http.proofs.fields.claimed.Given as goal

-- those left claim what all but the first claim
abbrev pub invariant-loop-span : goal.invariant-loop-span
invariant-loop-span l = agreed (Some l.n) (map (span_bytes l.bytes) (drop l.span-index l.others)) ≡ agreed (Some l.n) (map (span_bytes l.bytes) l.others)
