-- The fate of a number, by the lists in which it stands.
use Rattle.std.specs.Prelude.{ℕ, ◌+◌, nat_eq, if◌then◌else◌, List, [], ◌∷◌}
use Rattle.irl_offer.specs.declared.outcome.Outcome.{Outcome}
use Rattle.irl_events.specs.Events.{Progress, has_number}
use Rattle.irl_fate.specs.declared.fate.Fate.{Fate}
use Rattle.irl_fate.specs.declared.fate.Fate.TheVariants.{Fresh, Queue, Last, Front, Done}

-- what came of a number by some outcomes, or else another fate
abbrev pub done_by : List (ℕ × Outcome) → ℕ → Fate → Fate
done_by [] n other = other
done_by (d ∷ outcomes) n other = if nat_eq d.0 n then Done d.1 else done_by outcomes n other

-- where a number waits in lists of which the first has this place, or else another fate: queue 1 is at 0, the last list
-- at 64
abbrev pub waits_from : ℕ → List (List ℕ) → ℕ → Fate → Fate
waits_from k [] n other = other
waits_from k (list ∷ lists) n other =
    if has_number list n then (if nat_eq k 64 then Last else Queue (k + 1)) else waits_from (k + 1) lists n other

-- the fate of a number: one that stands nowhere is fresh
abbrev pub fate_of : Progress → ℕ → Fate
fate_of x n =
    if has_number x.front n then Front else waits_from 0 x.waiting.lists n (done_by x.done n Fresh)
