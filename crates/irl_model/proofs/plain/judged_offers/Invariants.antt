use Rattle.std.proofs.Common.{◌≡◌, take}
use Rattle.std.specs.Prelude.{replicate}
use Rattle.irl_model.specs.Book.{stretches, last_cut}
use Rattle.irl_base.specs.Lists.{items_of}
use Rattle.irl_model.proofs.plain.judged_offers.Given as goal

-- what the cuts so far judge, and the last of them
abbrev pub invariant-loop-cut : goal.invariant-loop-cut
invariant-loop-cut l =
    let zeros = replicate l.buckets 0 in
    let cuts = take l.cut-index (items_of l.cuts) in
    record {
      offers : l.offers.items ≡ stretches zeros zeros cuts (items_of l.lists);
      from : l.from.items ≡ last_cut zeros cuts;
    }
