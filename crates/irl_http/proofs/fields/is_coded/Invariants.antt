use Rattle.std.proofs.Common.{◌≡◌, map, drop}
use Rattle.std.specs.List.{list_any}
use Rattle.httparse.specs.Spans.{span_bytes}
use Rattle.irl_http.specs.Fields.{is_coding}
use Rattle.irl_http.proofs.fields.is_coded.Given as goal

-- whether one of those left is a coding is whether one of all is
abbrev pub invariant-loop-span : goal.invariant-loop-span
invariant-loop-span l = list_any is_coding (map (span_bytes l.bytes) (drop l.span-index l.spans)) ≡ list_any is_coding (map (span_bytes l.bytes) l.spans)
