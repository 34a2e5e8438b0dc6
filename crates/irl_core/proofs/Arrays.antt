-- Lists of offers that are emptied, one after another.
use Rattle.std.proofs.Common.{◌≡◌, ◌∙◌, ◌<◌, ◌+◌, ℕ, zero, suc, List, [], ◌∷◌, map, length, set, ap, refl, arith, add-one}
use Rattle.irl_offer.specs.Tuple.{Tuple}

-- the first so many of some lists are emptied
abbrev pub emptied_first : ℕ → List (List Tuple) → List (List Tuple)
emptied_first zero lists = lists
emptied_first (suc n) [] = []
emptied_first (suc n) (list ∷ lists) = [] ∷ emptied_first n lists

one_emptied : (n : ℕ) (lists : List (List Tuple)) → n < length lists → set (emptied_first n lists) n [] ≡ emptied_first (suc n) lists
one_emptied n [] lt = absurd (omega arith)
one_emptied zero (list ∷ lists) lt = refl
one_emptied (suc n) (list ∷ lists) lt = ap (λ (ls : List (List Tuple)). [] ∷ ls) (one_emptied n lists (omega arith))

pub emptied_more : (n : ℕ) (lists now new : List (List Tuple)) → n < length lists → now ≡ emptied_first n lists → new ≡ set now n [] → new ≡ emptied_first (n + 1) lists
emptied_more n lists now new lt is set_is =
    rw add-one (set_is ∙ ap (λ (ls : List (List Tuple)). set ls n []) is ∙ one_emptied n lists lt)

pub all_emptied : (lists : List (List Tuple)) → emptied_first (length lists) lists ≡ map (λ (list : List Tuple). []) lists
all_emptied [] = refl
all_emptied (list ∷ lists) = ap (λ (ls : List (List Tuple)). [] ∷ ls) (all_emptied lists)
