use Rattle.std.proofs.Common.{◌≡◌, ◌++◌, take}
use Rattle.irl_ledger.specs.Crawling.{domain_of}
use Rattle.irl_ledger.specs.Passing.{items_from}
use Rattle.irl_ledger.proofs.fresh.add_part.Given as goal

abbrev pub invariant-loop-k : goal.invariant-loop-k
invariant-loop-k l = l.items.items ≡ l.fn.items.items ++ items_from (domain_of l.suffixes) l.from (take l.k l.part)
