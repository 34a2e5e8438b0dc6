-- The suffixes of a tape that is being read.
use Rattle.std.specs.Prelude.{ℕ, ◌≤◌, not, nat_le, List, [], ◌∷◌, ◌++◌, length, Option, Some, None, if◌then◌else◌}
use Rattle.std.specs.BTreeSet.{BTreeSet}
use Rattle.std.specs.Prelude.{Vec}
use Rattle.irl_pld.specs.Names.{is_name, is_listed}
use Rattle.irl_pld.specs.Sets.{AreNamesOf}
use Rattle.irl_record.specs.Limits.{max_suffixes}

-- a suffix text with one more name
abbrev pub joined : List ℕ → List ℕ → List ℕ
joined [] name = name
joined (b ∷ text) name = (b ∷ text) ++ 10 ∷ name

-- a text that got longer, unless it is too long
abbrev pub if_short : List ℕ → Option (List ℕ)
if_short text = if nat_le (length text) max_suffixes then Some text else None

-- A suffix text after one more line, if the line is taken. A name that comes again is taken once.
abbrev pub with_name : List ℕ → List ℕ → Option (List ℕ)
with_name text name =
    if not (is_name name) then None
    else (if is_listed text name then Some text
    else if_short (joined text name))

-- the set has the names of the text, which is not too long
pub record AreShortNamesOf {A : Type 0} (names : BTreeSet (Vec ℕ A)) (text : List ℕ) : Type 0 where
  pub good : AreNamesOf names text
  pub short : length text ≤ max_suffixes
