-- A set of names.
use Rattle.std.specs.Prelude.{◌≡◌, ℕ, Bool, List, None, Vec}
use Rattle.std.specs.Ordering.{nat_cmp}
use Rattle.std.specs.Cmp.Lexicographic.{slice_cmp}
use Rattle.std.specs.BTreeSet.{BTreeSet, contains_by}
use Rattle.irl_pld.specs.Names.{bad_line, is_listed}

-- the name is in the set
abbrev pub has_name : {A : Type 0} → BTreeSet (Vec ℕ A) → List ℕ → Bool
has_name names name = contains_by (λ k. slice_cmp nat_cmp name k.items) names

-- the names are the lines of the text, and each line is one
pub record AreNamesOf {A : Type 0} (names : BTreeSet (Vec ℕ A)) (text : List ℕ) : Type 0 where
  pub good : bad_line text ≡ None
  pub listed : (name : List ℕ) → has_name names name ≡ is_listed text name
