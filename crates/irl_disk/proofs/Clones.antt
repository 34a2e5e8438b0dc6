-- A clone of a map of files has the same files.
use Rattle.std.specs.Prelude.{◌≡◌, ℕ, List, [], ◌∷◌, Vec, Option, None, Some}
use Rattle.std.specs.BTreeMap.{is_at}
use Rattle.std.specs.Ordering.{nat_cmp}
use Rattle.std.specs.List.{AllZip}
use Rattle.std.specs.Vec.{vec_len}
use Rattle.std.specs.Option.{MatchOption, IsSomeAnd}
use Rattle.std.specs.declared.alloc.Global.{Global}
use Rattle.std.proofs.Common.{refl}
use Rattle.std.proofs.lemmas.Map.Entries.{lookup_clone}
use Rattle.irl_disk.specs.Calls.{bytes_of, files_among}

same_from_clone : (old new : List ℕ) → AllZip (λ (x y : ℕ). y ≡ x) old new → new ≡ old
same_from_clone [] [] clones = refl
same_from_clone [] (y ∷ ys) clones = absurd clones
same_from_clone (x ∷ xs) [] clones = absurd clones
same_from_clone (x ∷ xs) (y ∷ ys) clones = let same = same_from_clone xs ys clones.1 in let head = clones.0 in cc

-- a clone of a file's bytes has the same bytes
abbrev IsFileClone : Vec ℕ Global → Vec ℕ Global → Type 0
IsFileClone v w = AllZip (λ (x y : ℕ). y ≡ x) v.items w.items × (vec_len w ≡ vec_len v)

from_option : (old new : Option (Vec ℕ Global)) → MatchOption old (new ≡ None) (λ v. IsSomeAnd new (IsFileClone v)) → bytes_of new ≡ bytes_of old
from_option None new clones = rw clones refl
from_option (Some v) None clones = absurd clones
from_option (Some v) (Some w) clones = same_from_clone v.items w.items clones.0

pub files_from_clone : (old new : List (ℕ × Vec ℕ Global)) → AllZip (λ p q. (q.0 ≡ p.0) × (AllZip (λ (x y : ℕ). y ≡ x) p.1.items q.1.items × (vec_len q.1 ≡ vec_len p.1))) old new → (f : ℕ)
    → files_among new f ≡ files_among old f
files_from_clone old new clones f = from_option _ _ (lookup_clone (λ (x y : ℕ). y ≡ x) IsFileClone (is_at (nat_cmp f)) (λ x y e. rw e refl) old new clones)
