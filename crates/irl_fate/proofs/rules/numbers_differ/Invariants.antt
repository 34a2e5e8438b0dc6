use Rattle.std.proofs.Common.{◌≡◌, ℕ, take, true}
use Rattle.std.specs.Prelude.{is_some}
use Rattle.std.specs.Ordering.{nat_cmp}
use Rattle.std.specs.BTreeMap.{is_at}
use Rattle.std.specs.Map.{lookup}
use Rattle.irl_events.specs.Events.{has_number}
use Rattle.irl_events.specs.Legal.{are_distinct}
use Rattle.irl_fate.proofs.Marking.{numbers_done}
use Rattle.irl_fate.proofs.rules.numbers_differ.Given as goal

-- the numbers so far differ, and they are those that were seen
abbrev pub invariant-loop-number : goal.invariant-loop-number
invariant-loop-number l =
    let numbers = numbers_done (take l.number-index l.done) in
    record {
      seen : (q : ℕ) → is_some (lookup (is_at (nat_cmp q)) l.seen.entries) ≡ has_number numbers q;
      differ : are_distinct numbers ≡ true;
    }
