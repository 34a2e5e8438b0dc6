use Rattle.std.proofs.Common.{◌≡◌, ◌+◌, ◌<◌, take}
use Rattle.irl_http.specs.Heads.{line_feeds, max_fields}
use Rattle.irl_http.proofs.head.lines_end.Given as goal

-- the line feeds so far
abbrev pub invariant-loop-b : goal.invariant-loop-b
invariant-loop-b l =
    record {
      place : l.end ≡ l.b-index;
      counted : l.count ≡ line_feeds (take l.b-index l.front);
      few : l.count < max_fields + 2;
    }
