-- What the search for a match has left.
use Rattle.std.specs.Prelude.{◌≡◌, ◌≢◌, ℕ, ◌∷◌, Bool, true, false}
use Rattle.irl_robots.specs.declared.matching.Place.{Place}
use Rattle.irl_robots.specs.declared.matching.Step.{Step}
use Rattle.irl_robots.specs.declared.matching.Step.TheVariants.{Matched, Failed, Star, Next}
use Rattle.irl_robots.specs.Matching.{matches}
use Rattle.irl_robots.specs.Octets.{octets_left}

-- whether what is left of the pattern matches what is left of the path
abbrev pub fits : Place → Bool
fits at = matches at.pattern.now (octets_left at.path)

-- an octet of the pattern other than `*` was met by the same octet of the path
pub record IsPast (old new : Place) (c : ℕ) : Type 0 where
  pub literal : c ≢ 42
  pub pattern : old.pattern.now ≡ c ∷ new.pattern.now
  pub path : octets_left old.path ≡ c ∷ octets_left new.path
  pub same : fits old ≡ fits new

-- a `*` of the pattern was met
pub record IsPastStar (old new : Place) : Type 0 where
  pub pattern : old.pattern.now ≡ 42 ∷ new.pattern.now
  pub path : octets_left old.path ≡ octets_left new.path

-- what the first octets of pattern and path say
abbrev pub Steps : Place → Step → Type 0
Steps old Matched = fits old ≡ true
Steps old Failed = fits old ≡ false
Steps old (Star new) = IsPastStar old new
Steps old (Next new) = (c : ℕ) × IsPast old new c
