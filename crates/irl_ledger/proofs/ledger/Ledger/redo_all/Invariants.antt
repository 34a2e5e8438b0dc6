use Rattle.std.proofs.Common.{ℕ, map, drop, take}
use Rattle.irl_events.specs.Seen.{seen}
use Rattle.irl_events.specs.declared.event.Event.{Event}
use Rattle.irl_ledger.proofs.RedoneAll.{SoFar}
use Rattle.irl_ledger.proofs.ledger.Ledger.redo_all.Given as goal

abbrev pub invariant-loop-at : goal.invariant-loop-at
invariant-loop-at g l =
    SoFar l.counts (map (λ (e : ℕ × Event). seen e.1) (take l.at-index l.events)) (map (λ (e : ℕ × Event). seen e.1) (drop l.at-index l.events)) (map (λ (e : ℕ × Event). seen e.1) l.events) l.urls
    l.initial.self l.self (g.S.Store.told l.initial.store)
    (g.S.Store.told l.store)
