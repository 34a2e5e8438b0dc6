-- the pairs so far are
use Rattle.std.proofs.Common.{◌≤◌, take}
use Rattle.std.specs.List.{AllByRecursion}
use Rattle.irl_offer.specs.Buckets.{bucket_of}
use Rattle.irl_offer.specs.declared.receipt.Pair.{Pair}
use Rattle.irl_bay.proofs.sides.count_up_to.Given as goal

abbrev pub invariant-loop-i : goal.invariant-loop-i
invariant-loop-i l = AllByRecursion (λ (pair : Pair). bucket_of l.buckets pair.key ≤ l.b) (take l.i l.pairs)
