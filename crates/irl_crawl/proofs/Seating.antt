-- Values that are moved from one list to another, in order.
use Rattle.std.proofs.Common.{◌≡◌, ◌∙◌, ℕ, ◌<◌, ◌≤◌, List, [], ◌∷◌, ◌++◌, length, map, refl, sym, ap, subst, arith}
use Rattle.std.specs.List.{AllByRecursion, AllZip, flat_map}
use Rattle.std.specs.Prelude.{Vec}
use Rattle.std.specs.Vec.{with_items}
use Rattle.std.proofs.lemmas.List.{with_items_is}
use Rattle.std.proofs.lemmas.List.{length-append, length-map}

module _ {A B : Type 0} (f : A → B) where
  -- there is room for one more of those that are moved, as what another tells
  pub room_for_one : (done : List B) (x : A) (left rest all : List A) (most : ℕ) → done ++ map f left ≡ map f all → left ≡ x ∷ rest → length all ≤ most → length done < most
  room_for_one done x left rest all most far is within =
      omega (arith, ap length far, length-append done (map f left), length-map left f, length-map all f, ap length is, within)

  -- what holds of each that is told holds of each of them
  pub each_told : (P : B → Type 0) (xs : List A) (ys : List B) → map f xs ≡ ys → AllByRecursion P ys → AllByRecursion (λ x. P (f x)) xs
  each_told P xs ys is each = each_map xs (subst (AllByRecursion P) (sym is) each) where
    each_map : (xs : List A) → AllByRecursion P (map f xs) → AllByRecursion (λ x. P (f x)) xs
    each_map [] each = tt
    each_map (x ∷ xs) each = (each.0, each_map xs each.1)

-- two maps, one behind the other
pub maps : {A B C : Type 0} (f : A → B) (g : B → C) (xs : List A) → map (λ x. g (f x)) xs ≡ map g (map f xs)
maps f g [] = refl
maps {C = C} f g (x ∷ xs) = ap (λ (l : List C). g (f x) ∷ l) (maps f g xs)

pub flat_maps : {A B C : Type 0} (f : A → B) (g : B → List C) (xs : List A) → flat_map (λ x. g (f x)) xs ≡ flat_map g (map f xs)
flat_maps f g [] = refl
flat_maps {C = C} f g (x ∷ xs) = ap (λ (l : List C). g (f x) ++ l) (flat_maps f g xs)

-- there are as many of both
pub zip_count : {X Y : Type 0} (R : X → Y → Type 0) (xs : List X) (ys : List Y) → AllZip R xs ys → length ys ≡ length xs
zip_count R [] [] zipped = refl
zip_count R (x ∷ xs) (y ∷ ys) zipped = let rest = zip_count R xs ys zipped.1 in omega (arith, rest)
zip_count R [] (y ∷ ys) zipped = absurd zipped
zip_count R (x ∷ xs) [] zipped = absurd zipped

-- a vector that was lent as a slice has what the slice had at last
pub lent : {X A : Type 0} (v : Vec X A) (news : List X) → length news ≡ length v.items → (with_items v news).items ≡ news
lent v news same = with_items_is v news (same ∙ sym v.ok.0)
