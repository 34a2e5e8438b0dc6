use Rattle.std.proofs.Common.{◌≡◌, ◌≤◌, ◌++◌, ℕ, length, take}
use Rattle.std.specs.Prelude.{replicate}
use Rattle.irl_model.specs.Book.{stretch}
use Rattle.irl_base.specs.Lists.{items_of}
use Rattle.irl_model.proofs.plain.push_stretch.Given as goal

-- the parts of the buckets so far stand behind the others
abbrev pub invariant-loop-b : goal.invariant-loop-b
invariant-loop-b l = (buckets : ℕ) → length l.lists ≤ buckets → l.offers.items ≡ l.fn.offers.items ++ stretch (replicate buckets 0) l.from l.to (take l.b (items_of l.lists))
