use Rattle.std.proofs.Common.{◌≡◌, ℕ, ◌+◌, ◌-◌, ◌<◌, ◌≤◌, ◌++◌, List, length, max}
use Rattle.irl_http.specs.Steps.{Gets, Undisturbed}
use Rattle.irl_http.proofs.reading.read_until.Given as goal

-- what reads gave stands behind the bytes, and each was made where there were too few
abbrev pub invariant-loop-link : goal.invariant-loop-link
invariant-loop-link g l =
    let link = g.L.Link in
    record {
      gets : (got : List ℕ) × (l.bytes.items ≡ l.fn.bytes.items ++ got) × Gets (λ early. length l.fn.bytes.items + length early < l.target) (link.left l.fn.link) (link.left l.link)
          (link.left_at_read l.fn.link) (link.left_at_read l.link) got;
      few : length l.bytes.items ≤ max (length l.fn.bytes.items) (l.target + length l.fn.piece);
      calm : Undisturbed (link.written l.fn.link) (link.written l.link) (link.connections l.fn.link) (link.connections l.link) (link.faults l.fn.link) (link.faults l.link);
    }

abbrev pub decreases-loop-link : goal.decreases-loop-link
decreases-loop-link g l = l.target - length l.bytes.items
