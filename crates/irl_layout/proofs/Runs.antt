-- Runs of offers: what a run more is behind others.
use Rattle.std.proofs.Common.{◌≡◌, ◌∙◌, ℕ, ◌+◌, ◌<◌, List, [], ◌∷◌, ◌++◌, length, take, get_or, refl, sym, ap, subst, arith, append-nil, length-append, ◌*◌}
use Rattle.std.specs.List.{flat_map, AllByRecursion}
use Rattle.std.proofs.lemmas.List.{take_more}
use Rattle.std.proofs.lemmas.Grind.{flat_map-append}
use Rattle.irl_offer.specs.Entries.{entry_bytes}
use Rattle.irl_offer.specs.declared.entry.Entry.{Entry}
use Rattle.irl_offer.specs.Tuple.{Tuple}
use Rattle.irl_layout.specs.Runs.{entry_of_offer, run_bytes, texts_of, IsOffer, IsRun, AreRuns}

-- ---- lists
-- what holds of each of two lists holds of both together
pub all_both : {X : Type 0} (P : X → Type 0) (xs ys : List X) → AllByRecursion P xs → AllByRecursion P ys → AllByRecursion P (xs ++ ys)
all_both P [] ys all more = more
all_both P (x ∷ xs) ys all more = (all.0, all_both P xs ys all.1 more)

-- what is put together of a list's elements, with one element more
pub one_more_of : {Y : Type 0} (part : Tuple → List Y) (offers : List Tuple) (i : ℕ) (offer : Tuple) → i < length offers → offer ≡ get_or offers i offer
    → flat_map part (take (i + 1) offers) ≡ flat_map part (take i offers) ++ part offer
one_more_of part offers i offer within is =
    ap (flat_map part) (take_more offers i offer within ∙ ap (λ (o : Tuple). take i offers ++ o ∷ []) (sym is))
    ∙ flat_map-append part (take i offers) (offer ∷ []) ∙ ap (λ (l : List _). flat_map part (take i offers) ++ l) (append-nil (part offer))

-- and what holds of each
pub all_more : (P : Tuple → Type 0) (offers : List Tuple) (i : ℕ) (offer : Tuple) → i < length offers → offer ≡ get_or offers i offer → AllByRecursion P (take i offers) → P offer
    → AllByRecursion P (take (i + 1) offers)
all_more P offers i offer within is all here =
    subst (AllByRecursion P) (sym (take_more offers i offer within ∙ ap (λ (o : Tuple). take i offers ++ o ∷ []) (sym is)))
    (all_both P (take i offers) (offer ∷ []) all (here, tt))

-- ---- runs
-- a run more, of offers behind the list's
pub one_run_more : (array : ℕ) (list news : List Tuple) (runs : List (List Tuple)) → AreRuns array list runs → IsRun array news → AllByRecursion IsOffer news
    → AreRuns array (list ++ news) (runs ++ news ∷ [])
one_run_more array list news runs are is offers = record {
  joined = ap (λ (l : List Tuple). l ++ news) are.joined ∙ ap (λ (l : List Tuple). flat_map (λ run. run) runs ++ l) (sym (append-nil news))
      ∙ sym (flat_map-append (λ (run : List Tuple). run) runs (news ∷ []));
  sizes = all_both (IsRun array) runs (news ∷ []) are.sizes (is, tt);
  offers = all_both IsOffer list news are.offers offers;
}

-- the texts of both
pub texts-both : (list news : List Tuple) → texts_of (list ++ news) ≡ texts_of list ++ texts_of news
texts-both list news = flat_map-append (λ (offer : Tuple). offer.aux) list news

-- ---- bytes
-- an entry has 27
pub length-entry : (entry : Entry) → length (entry_bytes entry) ≡ 27
length-entry entry = refl

-- and a run as many for each offer
pub length-run_bytes : (offers : List Tuple) → length (run_bytes offers) ≡ 27 * length offers
length-run_bytes [] = refl
length-run_bytes (offer ∷ offers) = omega (arith, length-append (entry_bytes (entry_of_offer offer)) (run_bytes offers), length-entry (entry_of_offer offer), length-run_bytes offers)
