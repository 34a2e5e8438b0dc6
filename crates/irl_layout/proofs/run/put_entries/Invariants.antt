use Rattle.std.proofs.Common.{◌≡◌, ◌++◌, take}
use Rattle.std.specs.List.{AllByRecursion}
use Rattle.irl_layout.specs.Runs.{run_bytes, IsOffer}
use Rattle.irl_layout.proofs.run.put_entries.Given as goal

-- the entries of the offers so far are put
abbrev pub invariant-loop-offer : goal.invariant-loop-offer
invariant-loop-offer l =
    record {
      bytes : l.frame.bytes ≡ l.fn.frame.bytes ++ run_bytes (take l.offer-index l.offers);
      room : l.frame.room ≡ l.fn.frame.room;
      offers : AllByRecursion IsOffer (take l.offer-index l.offers);
    }
