use Rattle.std.proofs.Common.{◌+◌, ◌-◌, take, drop, inl, arith}
use Rattle.irl_http.specs.Heads.{max_heads}
use Rattle.irl_http.proofs.StepLemmas.{past_front, past_long, past_good, awaits_from}
use Rattle.irl_http.proofs.head.past_heads.Goals as goal

pub returns-then-is_bad : goal.returns-then-is_bad
returns-then-is_bad c =
    let bytes = c.args.bytes.now in
    let at = c.args.at in
    let r = c.requires in (
      past_front bytes at r.more r.early r.awaits r.none r.may r.lines,
      omega arith,
      record { front = take (max_heads + 1 - at) (drop at bytes); awaits = awaits_from bytes at (max_heads + 1) r.awaits (omega arith); bad = c.if-is_bad.ensures },
    )

pub returns-else-is_bad : goal.returns-else-is_bad
returns-else-is_bad c =
    let bytes = c.args.bytes.now in
    let at = c.args.at in
    let r = c.requires in (
      past_front bytes at r.more r.early r.awaits r.none r.may r.lines,
      omega arith,
      inl (past_long bytes at r.more r.early r.awaits r.none),
      past_good bytes at r.more r.early r.awaits r.none c.if-is_bad.ensures,
    )
