-- Cuts, number by number.
use Rattle.std.proofs.Common.{◌≡◌, ℕ, suc, zero, ◌<◌, ◌≤◌, List, [], ◌∷◌, length, get_or, refl, arith}
use Rattle.irl_model.specs.Book.{IsBelow}

pub below_each : (xs ys : List ℕ) → length xs ≡ length ys → ((k : ℕ) → k < length xs → get_or xs k 0 ≤ get_or ys k 0) → IsBelow xs ys
below_each [] [] same each = tt
below_each [] (y ∷ ys) same each = absurd (omega (arith, same))
below_each (x ∷ xs) [] same each = absurd (omega (arith, same))
below_each (x ∷ xs) (y ∷ ys) same each = (each 0 (omega arith), below_each xs ys (omega (arith, same)) (λ k within. each (suc k) (omega (arith, within))))

pub each_below : (xs ys : List ℕ) → IsBelow xs ys → (k : ℕ) → get_or xs k 0 ≤ get_or ys k 0
each_below [] [] below k = omega arith
each_below [] (y ∷ ys) below k = absurd below
each_below (x ∷ xs) [] below k = absurd below
each_below (x ∷ xs) (y ∷ ys) below zero = below.0
each_below (x ∷ xs) (y ∷ ys) below (suc k) = each_below xs ys below.1 k

pub length-below : (xs ys : List ℕ) → IsBelow xs ys → length xs ≡ length ys
length-below [] [] below = refl
length-below [] (y ∷ ys) below = absurd below
length-below (x ∷ xs) [] below = absurd below
length-below (x ∷ xs) (y ∷ ys) below = omega (arith, length-below xs ys below.1)

pub below_both : (xs ys zs : List ℕ) → IsBelow xs ys → IsBelow ys zs → IsBelow xs zs
below_both [] [] [] first second = tt
below_both [] [] (z ∷ zs) first second = absurd second
below_both [] (y ∷ ys) zs first second = absurd first
below_both (x ∷ xs) [] zs first second = absurd first
below_both (x ∷ xs) (y ∷ ys) [] first second = absurd second
below_both (x ∷ xs) (y ∷ ys) (z ∷ zs) first second = (omega (arith, first.0, second.0), below_both xs ys zs first.1 second.1)
