-- A target that is asked for, as it is compared with patterns.
use Rattle.std.specs.Prelude.{◌≡◌, ℕ, List, length, slice_index, EachIndex, take, Bool, true, ◌&&◌, ◌==◌, nat_le, nat_lt}
use Rattle.irl_robots.specs.declared.heads.Head.{Head}
use Rattle.irl_robots.specs.declared.target.Target.{Target}
use Rattle.irl_robots.specs.declared.target.Target.TheVariants.{Normal, Written}
use Rattle.irl_robots.specs.Heads.{sum_of}
use Rattle.irl_robots.specs.Normal.{normal}

-- its octets in normal form
abbrev pub normal_of : Target → List ℕ
normal_of (Normal octets sums) = octets.now
normal_of (Written path) = normal path.now

-- at each place stands the sum of as many octets
abbrev pub AreSums : List ℕ → List ℕ → Type 0
AreSums sums octets = EachIndex sums (λ k. slice_index sums k ≡ sum_of (take k octets))

abbrev pub IsSummed : Target → Type 0
IsSummed (Normal octets sums) = (length sums.now ≡ 65) × AreSums sums.now octets.now
IsSummed (Written path) = Unit {0}

-- whether it has as many octets as a head, with the same sum, as far as the sums are known
abbrev pub may_begin : Target → Head → Bool
may_begin (Normal octets sums) head =
    nat_le head.len (length octets.now)
    && nat_lt head.len (length sums.now)
    && (slice_index sums.now head.len == head.sum)
may_begin (Written path) head = true
