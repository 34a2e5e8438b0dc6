-- The numbers of receipts.
use Rattle.std.proofs.Common.{◌≡◌, ◌≢◌, ◌∙◌, ⊎_elim, ℕ, zero, suc, ◌+◌, Bool, cond, List, [], ◌∷◌, ◌++◌, length, length-append, nat_eq, Some, refl, sym, ap, subst, append_assoc, append-nil, arith}
use Rattle.std.proofs.lemmas.Bool.{eq-eqb}
use Rattle.std.proofs.lemmas.Bool.Decides.{eqb_tells}
use Rattle.std.proofs.lemmas.List.{map-append}
use Rattle.std.proofs.lemmas.List.Elements.{filter-append}
use Rattle.std.specs.Prelude.{slice_get}
use Rattle.std.specs.List.{AllByRecursion, Any}
use Rattle.irl_offer.specs.Buckets.{bucket_of}
use Rattle.irl_offer.specs.Offering.{Entered}
use Rattle.irl_offer.specs.Tuple.{Tuple}
use Rattle.irl_offer.specs.declared.receipt.Receipt.{Receipt}
use Rattle.irl_model.specs.Book.{part}
use Rattle.irl_desk.specs.Serving.{AreNumbered, offers_in, receipt_behind}

-- ---- the offers of a bucket
pub part_both : (buckets b : ℕ) (xs ys : List Tuple) → part buckets b (xs ++ ys) ≡ part buckets b xs ++ part buckets b ys
part_both buckets b xs ys = filter-append (λ (offer : Tuple). nat_eq (bucket_of buckets offer.key) b) xs ys

pub parts_long : (buckets b : ℕ) (xs ys : List Tuple) → length (part buckets b (xs ++ ys)) ≡ length (part buckets b xs) + length (part buckets b ys)
parts_long buckets b xs ys = ap (λ (l : List Tuple). length l) (part_both buckets b xs ys) ∙ length-append (part buckets b xs) (part buckets b ys)

-- one of the bucket stands in front, and one of another isn't there
pub part_here : (buckets b : ℕ) (offer : Tuple) (more : List Tuple) → bucket_of buckets offer.key ≡ b → part buckets b (offer ∷ more) ≡ offer ∷ part buckets b more
part_here buckets b offer more is = ap (λ (t : Bool). cond t (offer ∷ part buckets b more) (part buckets b more)) (eq-eqb (bucket_of buckets offer.key) b is)

pub part_elsewhere : (buckets b : ℕ) (offer : Tuple) (more : List Tuple) → bucket_of buckets offer.key ≢ b → part buckets b (offer ∷ more) ≡ part buckets b more
part_elsewhere buckets b offer more not = ⊎_elim
    (λ same. absurd (not same.1))
    (λ other. ap (λ (t : Bool). cond t (offer ∷ part buckets b more) (part buckets b more)) other.0)
    (eqb_tells (bucket_of buckets offer.key) b)

-- ---- lists
pub offers_both : (xs ys : List Entered) → offers_in (xs ++ ys) ≡ offers_in xs ++ offers_in ys
offers_both xs ys = map-append (λ (one : Entered). one.offer) xs ys

pub all_both : {X : Type 0} (P : X → Type 0) (xs ys : List X) → AllByRecursion P xs → AllByRecursion P ys → AllByRecursion P (xs ++ ys)
all_both {X} P [] ys first second = second
all_both {X} P (x ∷ xs) ys first second = (first.0, all_both P xs ys first.1 second)

-- ---- receipts
behind_same : (buckets : ℕ) (had later : ℕ → ℕ) (base after : List Tuple) (offer : Tuple) → ((c : ℕ) → later c ≡ had c + length (part buckets c base))
    → receipt_behind buckets later after offer ≡ receipt_behind buckets had (base ++ after) offer
behind_same buckets had later base after offer more =
    let b = bucket_of buckets offer.key in
    let same : later b + length (part buckets b after) ≡ had b + length (part buckets b (base ++ after)) = omega (arith, more b, parts_long buckets b base after) in
    let of : ℕ → Receipt = λ n. record { bucket = b; number = n } in
    ap of same

numbered_behind : (buckets : ℕ) (had later : ℕ → ℕ) (base after : List Tuple) (ys : List Entered) → ((c : ℕ) → later c ≡ had c + length (part buckets c base))
    → AreNumbered buckets later after ys → AreNumbered buckets had (base ++ after) ys
numbered_behind buckets had later base after [] more are = tt
numbered_behind buckets had later base after (y ∷ ys) more are = (
  (are.0.0 ∙ behind_same buckets had later base after y.offer more, are.0.1),
  subst (λ (l : List Tuple). AreNumbered buckets had l ys) (sym (append_assoc base after (y.offer ∷ []))) (numbered_behind buckets had later base (after ++ y.offer ∷ []) ys more are.1),
)

numbered_on : (buckets : ℕ) (had : ℕ → ℕ) (before : List Tuple) (xs ys : List Entered) → AreNumbered buckets had before xs → AreNumbered buckets had (before ++ offers_in xs) ys
    → AreNumbered buckets had before (xs ++ ys)
numbered_on buckets had before [] ys first second = subst (λ (l : List Tuple). AreNumbered buckets had l ys) (append-nil before) second
numbered_on buckets had before (x ∷ xs) ys first second = (
  first.0,
  numbered_on buckets had (before ++ x.offer ∷ []) xs ys first.1 (subst (λ (l : List Tuple). AreNumbered buckets had l ys) (sym (append_assoc before (x.offer ∷ []) (offers_in xs))) second),
)

pub numbered_both : (buckets : ℕ) (had later : ℕ → ℕ) (xs ys : List Entered) → ((c : ℕ) → later c ≡ had c + length (part buckets c (offers_in xs))) → AreNumbered buckets had [] xs
    → AreNumbered buckets later [] ys → AreNumbered buckets had [] (xs ++ ys)
numbered_both buckets had later xs ys more first second =
    numbered_on buckets had [] xs ys first (subst (λ (l : List Tuple). AreNumbered buckets had l ys) (append-nil (offers_in xs)) (numbered_behind buckets had later (offers_in xs) [] ys more second))

-- ---- an offer by its number
any_more : (P : Entered → Type 0) (x : Entered) (xs : List Entered) → Any P xs → Any P (x ∷ xs)
any_more P x xs any = (suc any.0, any.1, omega (arith, any.2), any.3, any.4)

any_first : (P : Entered → Type 0) (x : Entered) (xs : List Entered) → P x → Any P (x ∷ xs)
any_first P x xs has = (zero, x, omega arith, refl, has)

-- it stands at this place of a bucket's list of such receipts
abbrev pub IsOf : ℕ → ℕ → Tuple → Entered → Type 0
IsOf b number offer one = (one.offer ≡ offer) × (one.receipt ≡ record { bucket = b; number = number })

same_tuple : (x y : Tuple) → Some x ≡ Some y → x ≡ y
same_tuple x y is = cc

-- the receipt of the first offer, and those behind it
module _ (buckets : ℕ) (had : ℕ → ℕ) (before : List Tuple) (one : Entered) (more : List Entered) (b : ℕ) (offer : Tuple) (receipt : one.receipt ≡ receipt_behind buckets had before one.offer)
    (rest : (j : ℕ) → slice_get (part buckets b (offers_in more)) j ≡ Some offer → Any (IsOf b (had b + (length (part buckets b (before ++ one.offer ∷ [])) + j)) offer) more) where
  entry_elsewhere : (i : ℕ) → bucket_of buckets one.offer.key ≢ b → slice_get (part buckets b (one.offer ∷ offers_in more)) i ≡ Some offer
      → Any (IsOf b (had b + (length (part buckets b before) + i)) offer) (one ∷ more)
  entry_elsewhere i other is =
      let found = rest i (ap (λ (l : List Tuple). slice_get l i) (sym (part_elsewhere buckets b one.offer (offers_in more) other)) ∙ is) in
      let same : had b + (length (part buckets b (before ++ one.offer ∷ [])) + i) ≡ had b + (length (part buckets b before) + i) =
      omega (arith, parts_long buckets b before (one.offer ∷ []), ap (λ (l : List Tuple). length l) (part_elsewhere buckets b one.offer [] other)) in
      any_more (IsOf b (had b + (length (part buckets b before) + i)) offer) one more (subst (λ (n : ℕ). Any (IsOf b n offer) more) same found)

  entry_here : (j : ℕ) → bucket_of buckets one.offer.key ≡ b → slice_get (part buckets b (one.offer ∷ offers_in more)) j ≡ Some offer
      → Any (IsOf b (had b + (length (part buckets b before) + j)) offer) (one ∷ more)
  entry_here zero same at =
      let first = ap (λ (l : List Tuple). slice_get l 0) (sym (part_here buckets b one.offer (offers_in more) same)) ∙ at in
      let of : ℕ → ℕ → Receipt = λ c n. record { bucket = c; number = n } in
      let here : receipt_behind buckets had before one.offer ≡ record { bucket = b; number = had b + (length (part buckets b before) + 0) } =
      ap (λ (c : ℕ). of c (had c + length (part buckets c before))) same ∙ ap (λ (n : ℕ). of b n) (omega arith) in
      any_first (IsOf b (had b + (length (part buckets b before) + 0)) offer) one more (same_tuple one.offer offer first, receipt ∙ here)
  entry_here (suc j) same at =
      let found = rest j (ap (λ (l : List Tuple). slice_get l (suc j)) (sym (part_here buckets b one.offer (offers_in more) same)) ∙ at) in
      let number : had b + (length (part buckets b (before ++ one.offer ∷ [])) + j) ≡ had b + (length (part buckets b before) + suc j) =
      omega (arith, parts_long buckets b before (one.offer ∷ []), ap (λ (l : List Tuple). length l) (part_here buckets b one.offer [] same)) in
      any_more (IsOf b (had b + (length (part buckets b before) + suc j)) offer) one more (subst (λ (n : ℕ). Any (IsOf b n offer) more) number found)

pub entry_at : (buckets : ℕ) (had : ℕ → ℕ) (before : List Tuple) (entries : List Entered) (b i : ℕ) (offer : Tuple) → AreNumbered buckets had before entries
    → slice_get (part buckets b (offers_in entries)) i ≡ Some offer → Any (IsOf b (had b + (length (part buckets b before) + i)) offer) entries
entry_at buckets had before [] b i offer are is = let no : ⊥ = cc in absurd no
entry_at buckets had before (one ∷ more) b i offer are is =
    let rest : (j : ℕ) → slice_get (part buckets b (offers_in more)) j ≡ Some offer → Any (IsOf b (had b + (length (part buckets b (before ++ one.offer ∷ [])) + j)) offer) more =
    λ j at. entry_at buckets had (before ++ one.offer ∷ []) more b j offer are.1 at in
    ⊎_elim
    (λ same. entry_here buckets had before one more b offer are.0.0 rest i same.1 is)
    (λ other. entry_elsewhere buckets had before one more b offer are.0.0 rest i other.1 is)
    (eqb_tells (bucket_of buckets one.offer.key) b)
