-- Lists that are laid out in a table, and taken apart again.
use Rattle.std.proofs.Common.{◌≡◌, ◌∙◌, ℕ, zero, suc, ◌+◌, ◌<◌, List, [], ◌∷◌, ◌++◌, length, drop, get_or, Option, None, Some, refl, sym, ap, subst, ⊎_elim, inl, inr, ◌⊎◌, arith}
use mathlib.Core.Logic.{dite}
use mathlib.Core.Option.{some, some-injective, some-ne-none}
use native.Mathlib.Decide.{ℕ_discrete}
use lib.ListN.{get_elem?}
use Rattle.atomic_table.proofs.Lists.{at_last, at_longer}
use Rattle.irl_array.specs.Waiting.{Waiting}
use Rattle.irl_disk.specs.declared.store.Store.{Ghosts}
use Rattle.irl_bay.specs.Drum.{durable_at}
use Rattle.irl_schedule.specs.Arrays.{array_at}
use Rattle.irl_yard.specs.declared.yard.Yard.{Yard}
use Rattle.irl_lock.specs.Books.{bin_of}
use Rattle.irl_lock.specs.Laying.{AreBins, AreSlots, HasStore, IsBin, IsStoreOf, first_stand}
use Rattle.irl_lock.specs.declared.held.Bin.{Bin}
use Rattle.irl_lock.specs.declared.held.Held.{Held}
use Rattle.irl_lock.specs.declared.held.Held.TheVariants.{InBin, InYard}
use Rattle.irl_lock.specs.declared.held.Stand.{Stand}
use Rattle.irl_lock.proofs.Listed.{every_snoc}

module _ {A : Type 0} where
  -- the first of those that are left is the next one
  next_at : (xs : List A) (n : ℕ) (x : A) (ys : List A) (d : A) → drop n xs ≡ x ∷ ys → (get_or xs n d ≡ x) × (drop (suc n) xs ≡ ys)
  next_at [] zero x ys d is = absurd (cc is)
  next_at [] (suc n) x ys d is = absurd (cc is)
  next_at (z ∷ zs) zero x ys d is = (cc is, cc is)
  next_at (z ∷ zs) (suc n) x ys d is = next_at zs n x ys d is

  pub at_drop : (xs : List A) (n : ℕ) (x : A) (ys : List A) (d : A) → drop n xs ≡ x ∷ ys → (get_or xs n d ≡ x) × (drop (n + 1) xs ≡ ys)
  at_drop xs n x ys d is =
      let next = next_at xs n x ys d is in
      let one : n + 1 ≡ suc n = omega arith in
      (next.0, ap (λ (k : ℕ). drop k xs) one ∙ next.1)

  -- what two lists end in, where they are one
  pub same_ends : (xs ys : List A) (x y : A) → xs ++ x ∷ [] ≡ ys ++ y ∷ [] → (xs ≡ ys) × (x ≡ y)
  same_ends [] [] x y is = (refl, cc is)
  same_ends [] (b ∷ []) x y is = absurd (cc is)
  same_ends [] (b ∷ c ∷ ys) x y is = absurd (cc is)
  same_ends (a ∷ []) [] x y is = absurd (cc is)
  same_ends (a ∷ c ∷ xs) [] x y is = absurd (cc is)
  same_ends (a ∷ xs) (b ∷ ys) x y is =
      let head : a ≡ b = cc is in
      let tail : xs ++ x ∷ [] ≡ ys ++ y ∷ [] = cc is in
      let both = same_ends xs ys x y tail in
      (λ i. head i ∷ both.0 i, both.1)

  -- two lists of one length with the same elements are one
  pub same_list : (xs ys : List A) → length xs ≡ length ys → ((j : ℕ) (a : A) → get_elem? xs j ≡ some a → get_elem? ys j ≡ some a) → xs ≡ ys
  same_list [] [] long each = refl
  same_list [] (y ∷ ys) long each = absurd (omega (arith, long))
  same_list (x ∷ xs) [] long each = absurd (omega (arith, long))
  same_list (x ∷ xs) (y ∷ ys) long each =
      let head : x ≡ y = sym (some-injective y x (each zero x refl)) in
      let tail = same_list xs ys (omega (arith, long)) (λ j a e. each (suc j) a e) in
      λ i. head i ∷ tail i

  -- one element more at the end: it is there, or was before
  pub snoc_at : (l : List A) (a b : A) (j : ℕ) → get_elem? (l ++ a ∷ []) j ≡ some b → (get_elem? l j ≡ some b) ⊎ ((j ≡ length l) × (a ≡ b))
  snoc_at [] a b zero e = inr (refl, some-injective a b e)
  snoc_at [] a b (suc j) e = absurd (some-ne-none b (sym e))
  snoc_at (x ∷ xs) a b zero e = inl e
  snoc_at (x ∷ xs) a b (suc j) e = ⊎_elim (λ old. inl old) (λ (new : (j ≡ length xs) × (a ≡ b)). inr (ap suc new.0, new.1)) (snoc_at xs a b j e)

  -- an element within
  pub at_within : (xs : List A) (j : ℕ) (d : A) → j < length xs → get_elem? xs j ≡ some (get_or xs j d)
  at_within [] j d inside = absurd (omega (arith, inside))
  at_within (x ∷ xs) zero d inside = refl
  at_within (x ∷ xs) (suc j) d inside = at_within xs j d (omega (arith, inside))

module _ {S : Type 0} {tells : Ghosts S} where
  -- one bin more
  pub bins_more : (yard : Yard S tells) (arrays : List Waiting) (slots new : List (Option (Held S tells))) (b first : ℕ) (array : Waiting)
      → length slots ≡ b → new ≡ slots ++ Some (InBin (record { first = first; array = array })) ∷ [] → first ≡ durable_at yard.parts.urls b → array_at arrays b ≡ array
      → ((j : ℕ) → j < b → get_elem? slots j ≡ some (Some (InBin (bin_of (first_stand yard) arrays j))))
      → (j : ℕ) → j < b + 1 → get_elem? new j ≡ some (Some (InBin (bin_of (first_stand yard) arrays j)))
  bins_more yard arrays slots new b first array long is number place bins j inside =
      let bin : Bin = record { first = first; array = array } in
      let whole : bin ≡ bin_of (first_stand yard) arrays b = λ i. record { first = number i; array = sym place i } in
      ap (λ (l : List (Option (Held S tells))). get_elem? l j) is ∙ dite (ℕ_discrete j b)
      (λ same. at_last slots (Some (InBin bin)) j (long ∙ sym same) ∙ ap (λ (x : Bin). some (Some (InBin x))) (whole ∙ ap (bin_of (first_stand yard) arrays) (sym same)))
      (λ apart. at_longer slots (Some (InBin bin) ∷ []) j (Some (InBin (bin_of (first_stand yard) arrays j))) (bins j (omega (arith, inside, apart))))

  pub more_bins : (slots new : List (Option (Held S tells))) (bin : Bin) → new ≡ slots ++ Some (InBin bin) ∷ [] → AreBins slots → AreBins new
  more_bins slots new bin is bins = subst AreBins (sym is) (every_snoc IsBin slots (Some (InBin bin)) bins (bin, refl))

  -- the same slots have a store
  pub has_store : (yard : Yard S tells) (arrays : List Waiting) (slots same : List (Option (Held S tells))) → AreSlots yard arrays slots → same ≡ slots → HasStore same
  has_store yard arrays slots same are is = record { bins = are.front; stand = first_stand yard; slots_are = is ∙ are.slots_are; bins_are = are.front_are }

  -- what is in a slot, or this where something else is
  abbrev pub stand_or : Stand S tells → Option (Held S tells) → Stand S tells
  stand_or other (Some (InYard stand)) = stand
  stand_or other (Some (InBin bin)) = other
  stand_or other None = other

  -- and that is the store which was laid out
  pub same_store : (yard back : Yard S tells) (arrays : List Waiting) (slots same : List (Option (Held S tells))) → AreSlots yard arrays slots → same ≡ slots → IsStoreOf same back → back ≡ yard
  same_store yard back arrays slots same are is store =
      let ends = same_ends store.0 are.front (Some (InYard store.1)) (Some (InYard (first_stand yard))) (sym store.2 ∙ is ∙ are.slots_are) in
      sym store.3 ∙ ap (λ (x : Option (Held S tells)). (stand_or (first_stand yard) x).yard) ends.1
