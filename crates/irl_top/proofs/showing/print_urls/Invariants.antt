use Rattle.std.proofs.Common.{◌-◌}
use Rattle.irl_yard.specs.Holding.{IsSound}
use Rattle.irl_top.specs.Listing.{PrintsFirst}
use Rattle.irl_top.specs.Outside.{stream}
use Rattle.irl_top.proofs.showing.print_urls.Given as goal

-- so many judged offers are printed
abbrev pub invariant-loop-number : goal.invariant-loop-number
invariant-loop-number g l =
    let tells = stream g.O.Sink.written g.O.Sink.faults in
    record {
      sound : IsSound l.yard.parts;
      prints : PrintsFirst l.number l.fn.yard.parts l.yard.parts (g.S.Store.told l.fn.yard.store) (g.S.Store.told l.yard.store) (tells l.fn.output) (tells l.output);
    }

abbrev pub decreases-loop-number : goal.decreases-loop-number
decreases-loop-number g l = l.yard.parts.urls.last.judged - l.number
