-- The index beside the records of a tape.
use Rattle.std.specs.Prelude.{◌≡◌, ℕ, suc, List, [], ◌∷◌, Option, None, Some, option_map, bytes_eq, if◌then◌else◌, Vec}
use Rattle.std.specs.Option.{option_or}
use Rattle.std.specs.Ordering.{nat_cmp}
use Rattle.std.specs.Cmp.Lexicographic.{slice_cmp}
use Rattle.std.specs.BTreeMap.{BTreeMap, is_at}
use Rattle.std.specs.Map.{lookup}
use Rattle.irl_record.specs.Taped.{Records}

-- where the first record of a URL stands
abbrev pub place_of : Records → List ℕ → Option ℕ
place_of [] url = None
place_of (r ∷ records) url = if bytes_eq url r.0 then Some 0 else option_map suc (place_of records url)

-- what an index has at a text
abbrev pub found : {A : Type 0} → List (Vec ℕ A × ℕ) → List ℕ → Option ℕ
found entries url = lookup (is_at (λ k. slice_cmp nat_cmp url k.items)) entries

-- the index has the place of the record of each URL, and nothing else
abbrev pub IsIndexOf : {A : Type 0} → BTreeMap (Vec ℕ A) ℕ → Records → Type 0
IsIndexOf index records = (url : List ℕ) → found index.entries url ≡ place_of records url

-- new is old with this place for a URL that had none
abbrev pub Enters : {A : Type 0} → List ℕ → ℕ → List (Vec ℕ A × ℕ) → List (Vec ℕ A × ℕ) → Type 0
Enters url place old new =
    (other : List ℕ) → found new other ≡ option_or (found old other) (if bytes_eq other url then Some place else None)
