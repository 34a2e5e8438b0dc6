-- The links of judged offers, part by part, and the damage that stands in the way of reading them.
use Rattle.std.proofs.Common.{◌≡◌, ◌∙◌, ℕ, zero, suc, ◌+◌, ◌≤◌, List, [], ◌∷◌, ◌++◌, map, length, take, drop, Some, Result, Err, IsErrOf, refl, sym, ap, arith}
use Rattle.std.specs.Prelude.{slice_get}
use Rattle.std.proofs.lemmas.List.{map-append}
use Rattle.irl_base.specs.declared.fault.Fault.{Fault}
use Rattle.irl_offer.specs.Tuple.{Tuple}
use Rattle.irl_offer.specs.declared.receipt.Judged.{Judged}
use Rattle.irl_key.specs.Key.{key_of}
use Rattle.irl_events.specs.Links.{pair_offers}
use Rattle.irl_events.proofs.LinkLemmas.{pairs-append}
use Rattle.irl_schedule.proofs.Outcomes.{same_refusal}
use Rattle.irl_ledger.specs.Crawling.{domain_of}
use Rattle.irl_ledger.specs.Sending.{IsStrangeIn, links_of}

-- ---- lists, part by part
pub links_both : (suffixes : List ℕ) (xs ys : List Judged) → links_of suffixes (xs ++ ys) ≡ links_of suffixes xs ++ links_of suffixes ys
links_both suffixes xs ys =
    let offer : Judged → Tuple = λ one. one.offer in
    ap (λ (os : List Tuple). pair_offers (domain_of suffixes) key_of os) (map-append offer xs ys) ∙ pairs-append (domain_of suffixes) key_of (map offer xs) (map offer ys)

pub take_next : {X : Type 0} (xs : List X) (i : ℕ) (x : X) → slice_get xs i ≡ Some x → take (i + 1) xs ≡ take i xs ++ x ∷ []
take_next [] i x found = absurd (cc)
take_next (y ∷ ys) zero x found = let same : y ≡ x = cc in ap (λ z. z ∷ []) same
take_next {X = X} (y ∷ ys) (suc i) x found = let there : suc i + 1 ≡ suc (i + 1) = omega arith in ap (λ (n : ℕ). take n (y ∷ ys)) there ∙ ap (λ (l : List X). y ∷ l) (take_next ys i x found)

pub take_rest : {X : Type 0} (i : ℕ) (xs : List X) → xs ≡ take i xs ++ drop i xs
take_rest zero xs = refl
take_rest (suc i) [] = refl
take_rest (suc i) (x ∷ xs) = ap (λ l. x ∷ l) (take_rest i xs)

pub take_all : {X : Type 0} (n : ℕ) (xs : List X) → length xs ≤ n → take n xs ≡ xs
take_all zero [] le = refl
take_all (suc n) [] le = refl
take_all zero (x ∷ xs) le = absurd (omega (arith, le))
take_all (suc n) (x ∷ xs) le = ap (λ l. x ∷ l) (take_all n xs (omega (arith, le)))

pub take_both : {X : Type 0} (i k : ℕ) (xs : List X) → take (i + k) xs ≡ take i xs ++ take k (drop i xs)
take_both zero k xs = let there : zero + k ≡ k = omega arith in ap (λ (m : ℕ). take m xs) there
take_both {X = X} (suc i) k [] = nothing (suc i + k) ∙ sym (nothing k)
  where
    nothing : (m : ℕ) → take {A = X} m [] ≡ []
    nothing zero = refl
    nothing (suc m) = refl
take_both {X = X} (suc i) k (x ∷ xs) = let there : suc i + k ≡ suc (i + k) = omega arith in ap (λ (m : ℕ). take m (x ∷ xs)) there ∙ ap (λ (l : List X). x ∷ l) (take_both i k xs)

pub drop_both : {X : Type 0} (i k : ℕ) (xs : List X) → drop (i + k) xs ≡ drop k (drop i xs)
drop_both zero k xs = let there : zero + k ≡ k = omega arith in ap (λ (m : ℕ). drop m xs) there
drop_both {X = X} (suc i) k [] = nothing (suc i + k) ∙ sym (nothing k)
  where
    nothing : (m : ℕ) → drop {A = X} m [] ≡ []
    nothing zero = refl
    nothing (suc m) = refl
drop_both (suc i) k (x ∷ xs) = let there : suc i + k ≡ suc (i + k) = omega arith in ap (λ (m : ℕ). drop m (x ∷ xs)) there ∙ drop_both i k xs

-- those of the first of some, of the next one and of the others
pub links_split : (suffixes : List ℕ) (xs : List Judged) (i : ℕ) (x : Judged) → slice_get xs i ≡ Some x
    → links_of suffixes xs ≡ (links_of suffixes (take i xs) ++ links_of suffixes (x ∷ [])) ++ links_of suffixes (drop (i + 1) xs)
links_split suffixes xs i x found =
    ap (links_of suffixes) (take_rest (i + 1) xs) ∙ links_both suffixes (take (i + 1) xs) (drop (i + 1) xs)
    ∙ ap (λ (l : List Tuple). l ++ links_of suffixes (drop (i + 1) xs)) (ap (links_of suffixes) (take_next xs i x found) ∙ links_both suffixes (take i xs) (x ∷ []))

-- ---- damage
pub strange_part : (from i : ℕ) (xs : List Judged) (x : Judged) (f at : ℕ) → slice_get xs i ≡ Some x → IsStrangeIn (from + i) (x ∷ []) f at → IsStrangeIn from xs f at
strange_part from i xs x f at found strange =
    let here = first strange.i strange.one strange.found_at in
    record {
      file = strange.file;
      i = i;
      one = strange.one;
      found_at = found ∙ ap (λ (j : Judged). Some j) here.1;
      place = omega (arith, strange.place, here.0);
      strange = strange.strange;
    }
  where
    first : (k : ℕ) (y : Judged) → slice_get (x ∷ []) k ≡ Some y → (k ≡ 0) × (x ≡ y)
    first zero y is = (refl, cc)
    first (suc k) y is = absurd (cc)

-- ---- an answer that is handed on
pub same_answer : {A B : Type 0} (result : Result A Fault) (answered : Result B Fault) (fault named : Fault) → result ≡ Err fault → answered ≡ Err fault → IsErrOf answered named → IsErrOf result named
same_answer {A = A} {B = B} result answered fault named was is names = was ∙ same_refusal {T = B} {U = A} fault named (sym is ∙ names)
