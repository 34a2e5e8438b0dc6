use Rattle.std.proofs.Common.{◌≡◌, ◌++◌, All, length, map, drop}
use Rattle.httparse.specs.Spans.{IsWithin, span_bytes, header_bytes}
use Rattle.irl_http.specs.Fields.{values}
use Rattle.irl_http.proofs.fields.values.Given as goal

-- the values so far and those of the fields left are those of all
abbrev pub invariant-loop-header : goal.invariant-loop-header
invariant-loop-header l =
    record {
      told : map (span_bytes l.bytes) l.spans.items ++ values l.name (map (header_bytes l.bytes) (drop l.header-index l.headers)) ≡ values l.name (map (header_bytes l.bytes) l.headers);
      within : All (IsWithin (length l.bytes)) l.spans.items;
    }
