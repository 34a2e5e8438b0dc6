-- What holds of every store whose writes count at once, and how many bytes its files have together after one of them
-- changed.
use Rattle.std.specs.Prelude.{◌≡◌, ◌≢◌, ℕ, ◌+◌, ◌-◌, ◌≤◌, suc, List, [], ◌∷◌, length, get_or}
use Rattle.std.specs.List.{sum_by}
use Rattle.std.proofs.Common.{refl, ap, ◌∙◌, zero, arith}
use Rattle.std.proofs.lemmas.List.Sums.{sum_by-cons}
use Rattle.irl_disk.specs.Disk.{ChangesFile, Holds}
use Rattle.irl_disk.specs.Images.{IsConsistent}
use Rattle.irl_disk.specs.ModelLaws.{length-written}
use Rattle.irl_disk.specs.Sure.{Held, bytes_held, sure_files, told_surely}

pub sure_consistent : (store : Held) → IsConsistent (told_surely store)
sure_consistent store = record {
  told = λ files told. cc;
  tells = λ image left. (sure_files store, refl);
  counts = λ t image le left. left;
  only = λ image left. left;
  earlier = λ t u image le left. left;
}

abbrev pub lengths_of : List (List ℕ) → ℕ
lengths_of files = sum_by (λ (file : List ℕ). length file) files

pub lengths-cons : (x : List ℕ) (xs : List (List ℕ)) → lengths_of (x ∷ xs) ≡ length x + lengths_of xs
lengths-cons x xs = sum_by-cons (λ (file : List ℕ). length file) x xs

pub length_by : (x y : List ℕ) → x ≡ y → length x ≡ length y
length_by x y e = ap (λ (file : List ℕ). length file) e

pub lengths_same : (xs ys : List (List ℕ)) → ((f : ℕ) → get_or ys f [] ≡ get_or xs f []) → lengths_of ys ≡ lengths_of xs
lengths_same [] [] same = refl
lengths_same [] (y ∷ ys) same = omega (
  arith,
  lengths-cons y ys,
  length_by y [] (same 0),
  lengths_same [] ys (λ f. same (suc f)),
)
lengths_same (x ∷ xs) [] same = omega (
  arith,
  lengths-cons x xs,
  length_by [] x (same 0),
  lengths_same xs [] (λ f. same (suc f)),
)
lengths_same (x ∷ xs) (y ∷ ys) same = omega (
  arith,
  lengths-cons x xs,
  lengths-cons y ys,
  length_by y x (same 0),
  lengths_same xs ys (λ f. same (suc f)),
)

abbrev pub OthersSame : ℕ → List (List ℕ) → List (List ℕ) → Type 0
OthersSame f xs ys = (g : ℕ) → g ≢ f → get_or ys g [] ≡ get_or xs g []

pub lengths_change : (f : ℕ) (xs ys : List (List ℕ)) → OthersSame f xs ys
    → lengths_of ys + length (get_or xs f []) ≡ lengths_of xs + length (get_or ys f [])
lengths_change f [] [] others = refl
lengths_change zero [] (y ∷ ys) others = omega (
  arith,
  lengths-cons y ys,
  lengths_same [] ys (λ g. others (suc g) (λ e. omega arith)),
)
lengths_change zero (x ∷ xs) [] others = omega (
  arith,
  lengths-cons x xs,
  lengths_same xs [] (λ g. others (suc g) (λ e. omega arith)),
)
lengths_change zero (x ∷ xs) (y ∷ ys) others = omega (
  arith,
  lengths-cons x xs,
  lengths-cons y ys,
  lengths_same xs ys (λ g. others (suc g) (λ e. omega arith)),
)
lengths_change (suc f) [] (y ∷ ys) others = omega (
  arith,
  lengths-cons y ys,
  length_by y [] (others 0 (λ e. omega arith)),
  lengths_change f [] ys (λ g ne. others (suc g) (λ e. ne (omega arith))),
)
lengths_change (suc f) (x ∷ xs) [] others = omega (
  arith,
  lengths-cons x xs,
  length_by [] x (others 0 (λ e. omega arith)),
  lengths_change f xs [] (λ g ne. others (suc g) (λ e. ne (omega arith))),
)
lengths_change (suc f) (x ∷ xs) (y ∷ ys) others =
    omega (
      arith,
      lengths-cons x xs,
      lengths-cons y ys,
      length_by y x (others 0 (λ e. omega arith)),
      lengths_change f xs ys (λ g ne. others (suc g) (λ e. ne (omega arith))),
    )

-- files that are all empty have no bytes
pub held_none : (store : Held) → ((f : ℕ) → sure_files store f ≡ []) → bytes_held store ≡ 0
held_none store empty = lengths_same [] store.files empty

-- one file changes by any step
pub held_after : (f : ℕ) (step : List ℕ → List ℕ → Type 0) (old new : Held)
    → ChangesFile f step (sure_files old) (sure_files new)
    → bytes_held new + length (sure_files old f) ≡ bytes_held old + length (sure_files new f)
held_after f step old new changes = lengths_change f old.files new.files changes.others

-- no file changes
pub held_same : (old new : Held) → sure_files new ≡ sure_files old → bytes_held new ≡ bytes_held old
held_same old new same = lengths_same old.files new.files (λ f. ap (λ (files : ℕ → List ℕ). files f) same)

-- bytes were written into a file
pub held_written : (f at : ℕ) (bytes : List ℕ) (old new : Held) → at ≤ length (sure_files old f)
    → ChangesFile f (Holds at bytes) (sure_files old) (sure_files new)
    → bytes_held new ≡ bytes_held old + (at + length bytes - length (sure_files old f))
held_written f at bytes old new le changes =
    let long = length_by (sure_files new f) _ changes.changed ∙ length-written at bytes (sure_files old f) le in
    omega (arith, held_after f (Holds at bytes) old new changes, long)
