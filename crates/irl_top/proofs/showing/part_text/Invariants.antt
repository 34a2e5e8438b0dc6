use Rattle.std.proofs.Common.{◌≡◌, take}
use Rattle.irl_events.specs.State.{State}
use Rattle.irl_yard.specs.Holding.{HoldsState}
use Rattle.irl_top.proofs.Listed.{lines_from}
use Rattle.irl_top.proofs.showing.part_text.Given as goal

-- the lines of those so far
abbrev pub invariant-loop-i : goal.invariant-loop-i
invariant-loop-i g l = (state : State) → HoldsState (g.S.Store.told l.yard.store).images l.yard.parts state
    → l.text.items ≡ lines_from l.yard.parts.urls.settings state l.first (take l.i l.judged)
