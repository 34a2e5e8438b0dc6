-- Places after one more item.
use Rattle.std.proofs.Common.{◌≡◌, ◌∙◌, ℕ, ◌+◌, List, [], ◌∷◌, ◌++◌, length, cond, suc, refl, sym, ap, append_assoc}
use Rattle.std.specs.Prelude.{bytes_eq}
use Rattle.std.proofs.lemmas.List.{append-nil}
use Rattle.std.proofs.lemmas.List.Sums.{sum_by_push}
use Rattle.irl_offer.specs.Purses.{Budget}
use Rattle.irl_beast.specs.declared.item.Item.{Item}
use Rattle.irl_beast.specs.Places.{count_of, place_behind, places_behind, place}

pub count_of-none : (pld : List ℕ) → count_of [] pld ≡ 0
unfolding count_of
count_of-none pld = refl

pub count_of-more : (items : List Item) (x : Item) (pld : List ℕ) → count_of (items ++ x ∷ []) pld ≡ count_of items pld + cond (bytes_eq pld x.pld) 1 0
unfolding count_of
count_of-more items x pld = sum_by_push (λ (item : Item). cond (bytes_eq pld item.pld) 1 0) items x

module _ (p j : ℕ) (budget : Budget) where
  pub places-none : place p j budget [] ≡ []
  unfolding places_behind
  places-none = refl

  length-places : (earlier items : List Item) → length (places_behind p j budget earlier items) ≡ length items
  unfolding places_behind
  length-places earlier [] = refl
  length-places earlier (item ∷ items) = ap suc (length-places (earlier ++ item ∷ []) items)

  behind-more : (earlier items : List Item) (x : Item) → places_behind p j budget earlier (items ++ x ∷ []) ≡ places_behind p j budget earlier items ++ place_behind p j budget (earlier ++ items) x
      ∷ []
  unfolding places_behind
  behind-more earlier [] x = ap (λ t. place_behind p j budget t x ∷ []) (sym (append-nil earlier))
  behind-more earlier (item ∷ items) x =
      ap (λ t. place_behind p j budget earlier item ∷ t) (behind-more (earlier ++ item ∷ []) items x
      ∙ ap (λ t. places_behind p j budget (earlier ++ item ∷ []) items ++ place_behind p j budget t x ∷ []) (append_assoc earlier (item ∷ []) items))

  -- one more place
  pub places-more : (items : List Item) (x : Item) → place p j budget (items ++ x ∷ []) ≡ place p j budget items ++ place_behind p j budget items x ∷ []
  places-more items x = behind-more [] items x

  pub length-place : (items : List Item) → length (place p j budget items) ≡ length items
  length-place items = length-places [] items
