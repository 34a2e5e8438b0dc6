-- What the cursor over a path has left.
use Rattle.std.specs.Prelude.{ℕ, List, [], ◌∷◌, ◌++◌}
use Rattle.irl_robots.specs.declared.octets.Unit.{Unit}
use Rattle.irl_robots.specs.declared.octets.Unit.TheVariants.{Octet, Triplet}
use Rattle.irl_robots.specs.declared.octets.Begun.{Begun}
use Rattle.irl_robots.specs.declared.octets.Begun.TheVariants.{Nothing, One, Two}
use Rattle.irl_robots.specs.declared.octets.Octets.{Octets}
use Rattle.irl_robots.specs.Normal.{normal}

-- the octets of a unit
abbrev pub spelling : Unit → List ℕ
spelling (Octet c) = c ∷ []
spelling (Triplet high low) = 37 ∷ high ∷ low ∷ []

-- the octets of a triplet that are still to come
abbrev pub begun_octets : Begun → List ℕ
begun_octets Nothing = []
begun_octets (One c) = c ∷ []
begun_octets (Two c d) = c ∷ d ∷ []

-- the octets that the cursor has left, in the form in which paths are compared
abbrev pub octets_left : Octets → List ℕ
octets_left s = begun_octets s.begun ++ normal s.rest.now
