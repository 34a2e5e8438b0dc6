use Rattle.std.proofs.Common.{◌≡◌, drop}
use Rattle.std.specs.List.{list_all}
use Rattle.irl_fate.specs.Kept.{fate_in, is_front}
use Rattle.irl_fate.proofs.rules.are_front.Given as goal

-- what holds of all holds of the rest
abbrev pub invariant-loop-number : goal.invariant-loop-number
invariant-loop-number l =
    list_all (λ d. is_front (fate_in l.entries d.0)) l.done ≡ list_all (λ d. is_front (fate_in l.entries d.0)) (drop l.number-index l.done)
