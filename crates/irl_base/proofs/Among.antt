-- Lists whose items are among those of others, counted with repeats.
use Rattle.std.proofs.Common.{List, [], ◌++◌, sym, subst, append_assoc}
use Rattle.std.specs.List.Sorted.{IsPermutation}
use Rattle.std.proofs.lemmas.List.{append-nil}
use Rattle.std.proofs.lemmas.List.Sorted.{IsPermutation-refl, IsPermutation-trans, IsPermutation-append, IsPermutation-append_comm, IsPermutation-append_left, IsPermutation-append_right}
use Rattle.irl_base.specs.Among.{IsAmong}

-- all of a list
pub among_same : {X : Type 0} (xs : List X) → IsAmong xs xs
among_same xs = record { rest = []; is = subst (λ l. IsPermutation l xs) (sym (append-nil xs)) (IsPermutation-refl xs) }

-- none
pub among_none : {X : Type 0} (ys : List X) → IsAmong [] ys
among_none ys = record { rest = ys; is = IsPermutation-refl ys }

-- among some, and they among others
pub among_trans : {X : Type 0} {xs ys zs : List X} → IsAmong xs ys → IsAmong ys zs → IsAmong xs zs
among_trans {xs = xs} {ys = ys} {zs = zs} first second = record {
  rest = first.rest ++ second.rest;
  is = subst (λ l. IsPermutation l zs) (append_assoc xs first.rest second.rest)
      (IsPermutation-trans ((xs ++ first.rest) ++ second.rest) (ys ++ second.rest) zs (IsPermutation-append_left second.rest (xs ++ first.rest) ys first.is) second.is);
}

-- the second and the third of four lists change places
turned : {X : Type 0} (ws xs ys zs : List X) → IsPermutation ((ws ++ xs) ++ (ys ++ zs)) ((ws ++ ys) ++ (xs ++ zs))
turned ws xs ys zs =
    let inner : IsPermutation (xs ++ (ys ++ zs)) (ys ++ (xs ++ zs)) =
    subst (λ l. IsPermutation l (ys ++ (xs ++ zs))) (append_assoc xs ys zs)
    (subst (λ l. IsPermutation ((xs ++ ys) ++ zs) l) (append_assoc ys xs zs) (IsPermutation-append_left zs (xs ++ ys) (ys ++ xs) (IsPermutation-append_comm xs ys))) in
    subst (λ l. IsPermutation l ((ws ++ ys) ++ (xs ++ zs))) (sym (append_assoc ws xs (ys ++ zs)))
    (subst (λ l. IsPermutation (ws ++ (xs ++ (ys ++ zs))) l) (sym (append_assoc ws ys (xs ++ zs))) (IsPermutation-append_right ws (xs ++ (ys ++ zs)) (ys ++ (xs ++ zs)) inner))

-- two lists one behind the other are among what each is among
pub among_append : {X : Type 0} {xs ys us vs : List X} → IsAmong xs ys → IsAmong us vs → IsAmong (xs ++ us) (ys ++ vs)
among_append {xs = xs} {ys = ys} {us = us} {vs = vs} left right = record {
  rest = left.rest ++ right.rest;
  is = IsPermutation-trans ((xs ++ us) ++ (left.rest ++ right.rest)) ((xs ++ left.rest) ++ (us ++ right.rest)) (ys ++ vs)
      (turned xs us left.rest right.rest) (IsPermutation-append (xs ++ left.rest) ys (us ++ right.rest) vs left.is right.is);
}
