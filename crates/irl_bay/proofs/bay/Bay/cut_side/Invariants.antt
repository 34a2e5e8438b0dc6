use Rattle.irl_bay.proofs.Emptied.{CutSoFar}
use Rattle.irl_bay.proofs.bay.Bay.cut_side.Given as goal

-- the files of the buckets so far are cut
abbrev pub invariant-loop-b : goal.invariant-loop-b
invariant-loop-b g l =
    let store = g.S.Store in
    record { cut : CutSoFar l.self.base l.side l.self.settings.buckets (store.told l.fn.store) (store.told l.store) l.b }
