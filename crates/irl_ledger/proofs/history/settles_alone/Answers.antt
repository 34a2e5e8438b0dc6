use Rattle.std.proofs.Common.{length, sym, nat_lt, arith}
use Rattle.std.specs.Prelude.{◌||◌}
use Rattle.irl_events.specs.Legal.{are_distinct, none_fell, one_rose}
use Rattle.irl_ledger.specs.Broken.{settled_numbers}
use Rattle.irl_ledger.proofs.Broken.{fell_apart, last_false}
use Rattle.irl_ledger.proofs.history.settles_alone.Goals as goal

pub returns-then-old-fronts : goal.returns-then-old-fronts
returns-then-old-fronts c =
    let old = c.args.old.now in
    let fronts = c.args.fronts.now in
    let done = c.args.done.now in
    sym (last_false (nat_lt 0 (length done) || one_rose old fronts) (are_distinct (settled_numbers done)) (none_fell old fronts) (fell_apart old fronts (grind (arith, c.if-old-fronts.true))))
