-- What longer lists of buckets have beyond others, where each grows by offers of its bucket.
use Rattle.std.proofs.Common.{◌≡◌, ◌≢◌, ◌∙◌, ⊎_elim, ℕ, zero, suc, ◌<◌, Bool, cond, List, [], ◌∷◌, ◌++◌, length, drop, get_or}
use Rattle.std.proofs.Common.{nat_eq, refl, sym, ap, subst, append_assoc, append-nil, length-append, arith}
use Rattle.std.proofs.lemmas.Bool.{eq-eqb}
use Rattle.std.proofs.lemmas.Bool.Decides.{eqb_tells}
use Rattle.std.proofs.lemmas.List.Sorted.{IsPermutation-append_right, IsPermutation-cons, IsPermutation-middle, IsPermutation-refl, IsPermutation-trans}
use Rattle.std.specs.List.{AllByRecursion}
use Rattle.std.specs.List.Sorted.{IsPermutation}
use Rattle.irl_base.proofs.Among.{among_append, among_none}
use Rattle.irl_base.specs.Among.{IsAmong}
use Rattle.irl_bay.proofs.InBuckets.{all_both, all_front}
use Rattle.irl_key.specs.Links.{IsCanonicalText}
use Rattle.irl_ledger.proofs.FreshUrls.{all_filter}
use Rattle.irl_ledger.specs.Crawling.{AreTaken}
use Rattle.irl_model.specs.Book.{ArePrefixes, IsPrefixOf, part}
use Rattle.irl_offer.specs.Buckets.{bucket_of}
use Rattle.irl_offer.specs.Offering.{IsTakenBy}
use Rattle.irl_offer.specs.Tuple.{Tuple}
use Rattle.irl_offer.specs.declared.settings.Kind.TheVariants.{Crawl as CrawlKind}
use Rattle.irl_reach.specs.Crawls.{added_to}

-- offers, list by list
abbrev pub Parts : Type 0
Parts = ℕ → List Tuple

abbrev next : Parts → Parts
next parts k = parts (suc k)

-- each list begins with some of what another has with these behind it
abbrev pub TakesEach : Parts → List (List Tuple) → List (List Tuple) → Type 0
TakesEach parts xs ys = (k : ℕ) → k < length ys → IsPrefixOf (get_or ys k []) (get_or xs k [] ++ parts k)

next_takes : (parts : Parts) (x y : List Tuple) (xs ys : List (List Tuple)) → TakesEach parts (x ∷ xs) (y ∷ ys) → TakesEach (next parts) xs ys
next_takes parts x y xs ys takes k within = takes (suc k) (omega (arith, within))

-- ---- what a crawl takes
abbrev pub IsPage : Tuple → Type 0
IsPage offer = IsTakenBy IsCanonicalText CrawlKind offer

pub pages_in : (buckets b : ℕ) (offers : List Tuple) → AllByRecursion IsPage offers → AllByRecursion IsPage (part buckets b offers)
pages_in buckets b offers all = all_filter IsPage (λ (offer : Tuple). nat_eq (bucket_of buckets offer.key) b) offers all

pub taken_each : (parts : Parts) (xs ys : List (List Tuple)) → ArePrefixes xs ys → AllByRecursion (AreTaken CrawlKind) xs → ((k : ℕ) → AllByRecursion IsPage (parts k)) → TakesEach parts xs ys
    → AllByRecursion (AreTaken CrawlKind) ys
taken_each parts [] [] front old new takes = tt
taken_each parts [] (y ∷ ys) front old new takes = absurd front
taken_each parts (x ∷ xs) [] front old new takes = absurd front
taken_each parts (x ∷ xs) (y ∷ ys) front old new takes =
    let first : IsPrefixOf y (x ++ parts 0) = takes 0 (omega arith) in (
      all_front IsPage y first.0 (subst (AllByRecursion IsPage) first.1 (all_both IsPage x (parts 0) old.0 (new 0))),
      taken_each (next parts) xs ys front.1 old.1 (λ k. new (suc k)) (next_takes parts x y xs ys takes),
    )

-- ---- what is added
dropped : (xs ys : List Tuple) → drop (length xs) (xs ++ ys) ≡ ys
dropped [] ys = refl
dropped (x ∷ xs) ys = dropped xs ys

-- the offers of so many lists, the first list's first
abbrev joined : ℕ → Parts → List Tuple
joined zero parts = []
joined (suc n) parts = parts 0 ++ joined n (next parts)

among_one : (x y news : List Tuple) → IsPrefixOf x y → IsPrefixOf y (x ++ news) → IsAmong (drop (length x) y) news
among_one x y news front takes =
    let more : drop (length x) y ≡ front.0 = ap (drop (length x)) front.1 ∙ dropped x front.0 in
    let whole : news ≡ front.0 ++ takes.0 =
    sym (dropped x news) ∙ ap (drop (length x)) (takes.1 ∙ ap (λ (l : List Tuple). l ++ takes.0) front.1 ∙ append_assoc x front.0 takes.0) ∙ dropped x (front.0 ++ takes.0) in
    record {
      rest = takes.0;
      is = subst (λ (l : List Tuple). IsPermutation (l ++ takes.0) news) (sym more)
          (subst (IsPermutation (front.0 ++ takes.0)) (sym whole) (IsPermutation-refl (front.0 ++ takes.0)));
    }

among_each : (parts : Parts) (xs ys : List (List Tuple)) → ArePrefixes xs ys → TakesEach parts xs ys → IsAmong (added_to xs ys) (joined (length ys) parts)
among_each parts [] [] front takes = among_none []
among_each parts [] (y ∷ ys) front takes = absurd front
among_each parts (x ∷ xs) [] front takes = absurd front
among_each parts (x ∷ xs) (y ∷ ys) front takes =
    among_append (among_one x y (parts 0) front.0 (takes 0 (omega arith))) (among_each (next parts) xs ys front.1 (next_takes parts x y xs ys takes))

-- where each has all of them, just those
all_each : (parts : Parts) (xs ys : List (List Tuple)) → ArePrefixes xs ys → ((k : ℕ) → k < length ys → get_or ys k [] ≡ get_or xs k [] ++ parts k) → added_to xs ys ≡ joined (length ys) parts
all_each parts [] [] front has = refl
all_each parts [] (y ∷ ys) front has = absurd front
all_each parts (x ∷ xs) [] front has = absurd front
all_each parts (x ∷ xs) (y ∷ ys) front has =
    let first : y ≡ x ++ parts 0 = has 0 (omega arith) in
    ap (λ (l : List Tuple). l ++ added_to xs ys) (ap (drop (length x)) first ∙ dropped x (parts 0))
    ∙ ap (λ (l : List Tuple). parts 0 ++ l) (all_each (next parts) xs ys front.1 (λ k within. has (suc k) (omega (arith, within))))

-- ---- the parts of all buckets
joined_none : (n : ℕ) (parts : Parts) → ((k : ℕ) → parts k ≡ []) → joined n parts ≡ []
joined_none zero parts none = refl
joined_none (suc n) parts none = ap (λ (l : List Tuple). l ++ joined n (next parts)) (none 0) ∙ joined_none n (next parts) (λ k. none (suc k))

joined_same : (n : ℕ) (p q : Parts) → ((k : ℕ) → p k ≡ q k) → joined n p ≡ joined n q
joined_same zero p q same = refl
joined_same (suc n) p q same = ap (λ (l : List Tuple). l ++ joined n (next p)) (same 0) ∙ ap (λ (l : List Tuple). q 0 ++ l) (joined_same n (next p) (next q) (λ k. same (suc k)))

-- one offer more in one of them
joined_one : (n at : ℕ) (one : Tuple) (p q : Parts) → at < n → p at ≡ one ∷ q at → ((k : ℕ) → k ≢ at → p k ≡ q k) → IsPermutation (joined n p) (one ∷ joined n q)
joined_one zero at one p q within here others = absurd (omega (arith, within))
joined_one (suc n) zero one p q within here others =
    let whole : joined (suc n) p ≡ one ∷ joined (suc n) q =
    ap (λ (l : List Tuple). l ++ joined n (next p)) here ∙ ap (λ (l : List Tuple). one ∷ (q 0 ++ l)) (joined_same n (next p) (next q) (λ k. others (suc k) (λ is. absurd (omega (arith, is))))) in
    subst (λ (l : List Tuple). IsPermutation l (one ∷ joined (suc n) q)) (sym whole) (IsPermutation-refl (one ∷ joined (suc n) q))
joined_one (suc n) (suc at) one p q within here others =
    let rest = joined_one n at one (next p) (next q) (omega (arith, within)) here (λ k not. others (suc k) (λ is. not (omega (arith, is)))) in
    let first : p 0 ≡ q 0 = others 0 (λ is. absurd (omega (arith, is))) in
    subst (λ (l : List Tuple). IsPermutation (l ++ joined n (next p)) (one ∷ joined (suc n) q)) (sym first)
    (IsPermutation-trans (q 0 ++ joined n (next p)) (q 0 ++ one ∷ joined n (next q)) (one ∷ joined (suc n) q)
    (IsPermutation-append_right (q 0) (joined n (next p)) (one ∷ joined n (next q)) rest) (IsPermutation-middle (q 0) one (joined n (next q))))

-- an offer of the bucket stands in front, and one of another isn't there
pub part_here : (buckets b : ℕ) (offer : Tuple) (more : List Tuple) → bucket_of buckets offer.key ≡ b → part buckets b (offer ∷ more) ≡ offer ∷ part buckets b more
part_here buckets b offer more is = ap (λ (t : Bool). cond t (offer ∷ part buckets b more) (part buckets b more)) (eq-eqb (bucket_of buckets offer.key) b is)

part_elsewhere : (buckets b : ℕ) (offer : Tuple) (more : List Tuple) → bucket_of buckets offer.key ≢ b → part buckets b (offer ∷ more) ≡ part buckets b more
part_elsewhere buckets b offer more not = ⊎_elim
    (λ same. absurd (not same.1))
    (λ other. ap (λ (t : Bool). cond t (offer ∷ part buckets b more) (part buckets b more)) other.0)
    (eqb_tells (bucket_of buckets offer.key) b)

abbrev pub HasABucket : ℕ → Tuple → Type 0
HasABucket buckets offer = bucket_of buckets offer.key < buckets

joined_parts : (buckets : ℕ) (offers : List Tuple) → AllByRecursion (HasABucket buckets) offers → IsPermutation (joined buckets (λ b. part buckets b offers)) offers
joined_parts buckets [] all = subst (λ (l : List Tuple). IsPermutation l []) (sym (joined_none buckets (λ b. []) (λ k. refl))) (IsPermutation-refl [])
joined_parts buckets (one ∷ more) all =
    let at = bucket_of buckets one.key in
    IsPermutation-trans (joined buckets (λ b. part buckets b (one ∷ more))) (one ∷ joined buckets (λ b. part buckets b more)) (one ∷ more)
    (joined_one buckets at one (λ b. part buckets b (one ∷ more)) (λ b. part buckets b more) all.0 (part_here buckets at one more refl)
    (λ k not. part_elsewhere buckets k one more (λ is. not (sym is))))
    (IsPermutation-cons one (joined buckets (λ b. part buckets b more)) more (joined_parts buckets more all.1))

-- ---- the whole
module _ (buckets : ℕ) (offers : List Tuple) (xs ys : List (List Tuple)) (front : ArePrefixes xs ys) (count : length ys ≡ buckets) (has : AllByRecursion (HasABucket buckets) offers) where
  abbrev parts : Parts
  parts b = part buckets b offers

  pub among_offers : TakesEach parts xs ys → IsAmong (added_to xs ys) offers
  among_offers takes =
      let among : IsAmong (added_to xs ys) (joined buckets parts) = subst (λ (n : ℕ). IsAmong (added_to xs ys) (joined n parts)) count (among_each parts xs ys front takes) in
      record { rest = among.rest; is = IsPermutation-trans (added_to xs ys ++ among.rest) (joined buckets parts) offers among.is (joined_parts buckets offers has) }

  pub all_offers : ((b : ℕ) → b < length ys → get_or ys b [] ≡ get_or xs b [] ++ parts b) → IsPermutation (added_to xs ys) offers
  all_offers each =
      let same : joined buckets parts ≡ added_to xs ys = sym (all_each parts xs ys front each ∙ ap (λ (n : ℕ). joined n parts) count) in
      subst (λ (l : List Tuple). IsPermutation l offers) same (joined_parts buckets offers has)

-- ---- nothing is offered
same_one : (x y : List Tuple) → IsPrefixOf x y → IsPrefixOf y (x ++ []) → y ≡ x
same_one x y front takes = none front.0 front.1
  where
    none : (more : List Tuple) → y ≡ x ++ more → y ≡ x
    none [] is = is ∙ append-nil x
    none (m ∷ more) is =
        let long = ap (λ (l : List Tuple). length l) takes.1 in
        let grown = ap (λ (l : List Tuple). length l) is in
        absurd (omega (arith, long, grown, length-append x [], length-append x (m ∷ more), length-append y takes.0))

pub same_each : (parts : Parts) (xs ys : List (List Tuple)) → ArePrefixes xs ys → ((k : ℕ) → parts k ≡ []) → TakesEach parts xs ys → ys ≡ xs
same_each parts [] [] front none takes = refl
same_each parts [] (y ∷ ys) front none takes = absurd front
same_each parts (x ∷ xs) [] front none takes = absurd front
same_each parts (x ∷ xs) (y ∷ ys) front none takes =
    let first : y ≡ x = same_one x y front.0 (subst (λ (l : List Tuple). IsPrefixOf y (x ++ l)) (none 0) (takes 0 (omega arith))) in
    let rest : ys ≡ xs = same_each (next parts) xs ys front.1 (λ k. none (suc k)) (next_takes parts x y xs ys takes) in
    cc
