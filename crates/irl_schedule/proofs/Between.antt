-- A book that lies between two, the second of which has grown in batches, has so too.
use Rattle.std.proofs.Common.{◌≡◌, ◌∙◌, ◌⊎◌, inl, inr, ℕ, zero, suc, ◌+◌, ◌≤◌, List, [], ◌∷◌, ◌++◌, length, get_or, sym, ap, append_assoc, append-nil, length-append, refl, arith}
use Rattle.std.proofs.lemmas.List.{append_cancel_left}
use Rattle.std.specs.Prelude.{slice_index}
use Rattle.irl_offer.specs.Tuple.{Tuple}
use Rattle.irl_offer.specs.declared.settings.Settings.{Settings}
use Rattle.irl_model.specs.Book.{ArePrefixes, Book, IsFront, IsPrefixOf, judged_cut}
use Rattle.irl_schedule.specs.Schedule.{early_cuts}
use Rattle.irl_schedule.specs.Feeding.{FewUnjudged, Grows, length_at, list_at}

list_prefix : (xss yss : List (List Tuple)) (b : ℕ) → ArePrefixes xss yss → IsPrefixOf (get_or xss b []) (get_or yss b [])
list_prefix [] [] b front = ([], refl)
list_prefix [] (ys ∷ yss) b front = absurd front
list_prefix (xs ∷ xss) [] b front = absurd front
list_prefix (xs ∷ xss) (ys ∷ yss) zero front = front.0
list_prefix (xs ∷ xss) (ys ∷ yss) (suc b) front = list_prefix xss yss b front.1

front_list : (x y : Book) (b : ℕ) → IsFront x y → IsPrefixOf (list_at x b) (list_at y b)
front_list x y b front = list_prefix x.lists y.lists b front.lists

early_front : (trigger : ℕ) (from : List ℕ) (xs ys : List (List ℕ)) → early_cuts trigger from xs ≤ early_cuts trigger from (xs ++ ys)
early_front trigger from [] ys = omega arith
early_front trigger from (cut ∷ xs) ys = omega (arith, early_front trigger cut xs ys)

no_length : {X : Type 0} (xs : List X) → length xs ≡ 0 → xs ≡ []
no_length [] e = refl
no_length (x ∷ xs) e = absurd (omega (arith, e))

fits_between : (settings : Settings) (x z y : Book) (b : ℕ) → IsFront x z → IsFront z y → (list_at y b ≡ list_at x b) ⊎ (length_at y b ≤ settings.cap)
    → (list_at z b ≡ list_at x b) ⊎ (length_at z b ≤ settings.cap)
fits_between settings x z y b first second (inl same) =
    let one = front_list x z b first in
    let two = front_list z y b second in
    let counts : length one.0 ≡ 0 =
    omega (
      arith,
      ap (λ (l : List Tuple). length l) same,
      ap (λ (l : List Tuple). length l) one.1,
      ap (λ (l : List Tuple). length l) two.1,
      length-append (list_at x b) one.0,
      length-append (list_at z b) two.0,
    ) in
    inl (one.1 ∙ ap (λ (l : List Tuple). list_at x b ++ l) (no_length one.0 counts) ∙ append-nil (list_at x b))
fits_between settings x z y b first second (inr fits) =
    let two = front_list z y b second in
    let firsts : slice_index y.firsts b ≡ slice_index z.firsts b = ap (λ (l : List ℕ). slice_index l b) second.firsts in
    inr (omega (arith, fits, firsts, ap (λ (l : List Tuple). length l) two.1, length-append (list_at z b) two.0))

-- where unjudged offers don't pile up in it
pub grows_between : (settings : Settings) (early : ℕ) (x z y : Book) → IsFront x z → IsFront z y → FewUnjudged settings x z → Grows settings early x y → Grows settings early x z
grows_between settings early x z y first second few grows =
    let one = first.cuts in
    let two = second.cuts in
    let cuts : grows.cuts ≡ one.0 ++ two.0 = append_cancel_left x.cuts grows.cuts (one.0 ++ two.0) (sym grows.cuts_are ∙ two.1 ∙ ap (λ (l : List (List ℕ)). l ++ two.0) one.1
    ∙ append_assoc x.cuts one.0 two.0) in
    let from = judged_cut x in
    record {
      front = first;
      fits = λ b within. fits_between settings x z y b first second (grows.fits b within);
      cuts = one.0;
      cuts_are = one.1;
      early_are = omega (arith, grows.early_are, ap (λ (l : List (List ℕ)). early_cuts settings.trigger from l) cuts, early_front settings.trigger from one.0 two.0);
      waits = few;
    }
