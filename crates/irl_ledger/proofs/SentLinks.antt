-- The book of pairs beside the links of the URLs: where the offers that come behind its lists are those of new links, it goes on holding links alone, and once they are all judged it has sent them.
use Rattle.std.proofs.Common.{◌≡◌, ◌≢◌, ◌∙◌, ⊎_elim, ℕ, zero, suc, ◌+◌, ◌-◌, ◌<◌, ◌≤◌, nat_eq, nat_le, nat_lt, ◌&&◌, Bool, true, false, not, cond, List, [], ◌∷◌, ◌++◌, map, length, take, drop, get_or, Option, None, Some, refl, sym, ap, subst, arith}
use Rattle.std.specs.Prelude.{option_map, flat_map}
use Rattle.std.specs.FinMap.{empty}
use Rattle.std.specs.List.{AllByRecursion, filter}
use Rattle.std.specs.Option.{option_or}
use Rattle.std.proofs.lemmas.Bool.{cond-false, eq-eqb, eqb-true, le-leb, lt-ltb, ne_eqb}
use Rattle.std.proofs.lemmas.Bool.Decides.{leb_tells}
use Rattle.std.proofs.lemmas.List.Elements.{All-from_recursion, recursion_from_All}
use Rattle.std.proofs.lemmas.List.{get_or_past}
use Rattle.std.proofs.lemmas.List.Folds.{find-append}
use Rattle.irl_offer.specs.Buckets.{bucket_of}
use Rattle.irl_offer.specs.Tuple.{Tuple}
use Rattle.irl_offer.specs.declared.offer.Op.TheVariants.{Both}
use Rattle.irl_offer.specs.declared.offer.Rule.{Rule}
use Rattle.irl_offer.specs.declared.offer.Verdict.{Verdict}
use Rattle.irl_offer.specs.declared.receipt.Judged.{Judged}
use Rattle.irl_model.specs.Book.{AreOfBuckets, Book, IsBook, IsPrefixOf, gone, is_unique, judged, judged_as, judged_cut, judged_offers, lengths_of, list_lengths, part, stretch, stretches, uniques, uniques_from}
use Rattle.irl_model.specs.Judging.{KeyMap, entered, judgements}
use Rattle.irl_model.proofs.JudgingLaws.{judged_on, judgements-judged_on}
use Rattle.irl_model.proofs.Stretches.{judged_here_are}
use Rattle.irl_events.specs.Links.{AreAlike, first_with, firsts_by_key}
use Rattle.irl_events.proofs.LinkLemmas.{uniques-firsts}
use Rattle.irl_core.specs.States.{AreOffered, offers_of, uniques_within}
use Rattle.irl_schedule.specs.Feeding.{list_at}

-- ---- the first with a key
abbrev is_of : ℕ → Tuple → Bool
is_of k offer = nat_eq offer.key k

first_append : (k : ℕ) (xs ys : List Tuple) → first_with k (xs ++ ys) ≡ option_or (first_with k xs) (first_with k ys)
first_append k xs ys = find-append (is_of k) xs ys

-- it is in front
first_front : (k : ℕ) (xs ys : List Tuple) (offer : Tuple) → IsPrefixOf xs ys → first_with k xs ≡ Some offer → first_with k ys ≡ Some offer
first_front k xs ys offer front is = ap (first_with k) front.1 ∙ first_append k xs front.0 ∙ ap (λ (o : Option Tuple). option_or o (first_with k front.0)) is

or_none : (one other : Option Tuple) → option_or one other ≡ None → one ≡ None
or_none None other is = refl
or_none (Some offer) other is = absurd (cc)

none_front : (k : ℕ) (xs ys : List Tuple) → IsPrefixOf xs ys → first_with k ys ≡ None → first_with k xs ≡ None
none_front k xs ys front none = or_none (first_with k xs) (first_with k front.0) (sym (first_append k xs front.0) ∙ sym (ap (first_with k) front.1) ∙ none)

none_both : (k : ℕ) (xs ys : List Tuple) → first_with k xs ≡ None → first_with k ys ≡ None → first_with k (xs ++ ys) ≡ None
none_both k xs ys one other = first_append k xs ys ∙ ap (λ (o : Option Tuple). option_or o (first_with k ys)) one ∙ other

none_behind : (k : ℕ) (xs ys : List Tuple) → first_with k xs ≡ None → first_with k (xs ++ ys) ≡ first_with k ys
none_behind k xs ys one = first_append k xs ys ∙ ap (λ (o : Option Tuple). option_or o (first_with k ys)) one

-- a part that has all with the key
first_filter : (k : ℕ) (p : Tuple → Bool) (xs : List Tuple) → ((offer : Tuple) → offer.key ≡ k → p offer ≡ true) → first_with k (filter p xs) ≡ first_with k xs
first_filter k p [] all = refl
first_filter k p (x ∷ xs) all = by (p x) (is_of k x) refl refl (first_filter k p xs all)
  where
    by : (kept here : Bool) → p x ≡ kept → is_of k x ≡ here → first_with k (filter p xs) ≡ first_with k xs
        → first_with k (cond kept (x ∷ filter p xs) (filter p xs)) ≡ cond here (Some x) (first_with k xs)
    by true true is same rest = ap (λ (b : Bool). cond b (Some x) (first_with k (filter p xs))) same
    by true false is same rest = ap (λ (b : Bool). cond b (Some x) (first_with k (filter p xs))) same ∙ rest
    by false true is same rest = let kept = all x (eqb-true x.key k same) in absurd (false_true (sym is ∙ kept))
      where
        false_true : false ≡ true → ⊥
        false_true e = cc
    by false false is same rest = rest

first_part : (buckets k : ℕ) (xs : List Tuple) → first_with k (part buckets (bucket_of buckets k) xs) ≡ first_with k xs
first_part buckets k xs =
    first_filter k (λ (offer : Tuple). nat_eq (bucket_of buckets offer.key) (bucket_of buckets k)) xs (λ offer same.
    eq-eqb (bucket_of buckets offer.key) (bucket_of buckets k) (ap (bucket_of buckets) same))

first_firsts : (k : ℕ) (xs : List Tuple) → first_with k (firsts_by_key xs) ≡ first_with k xs
first_firsts k [] = refl
first_firsts k (x ∷ xs) = by (is_of k x) refl (first_firsts k xs)
  where
    differs : is_of k x ≡ false → (offer : Tuple) → offer.key ≡ k → not (nat_eq offer.key x.key) ≡ true
    differs is offer same = ap not (ne_eqb offer.key x.key (λ e. tells (sym is ∙ eq-eqb x.key k (sym e ∙ same))))
      where
        tells : false ≡ true → ⊥
        tells e = cc

    by : (here : Bool) → is_of k x ≡ here → first_with k (firsts_by_key xs) ≡ first_with k xs
        → first_with k (x ∷ filter (λ other. not (nat_eq other.key x.key)) (firsts_by_key xs)) ≡ cond here (Some x) (first_with k xs)
    by true is rest = ap (λ (b : Bool). cond b (Some x) (first_with k (filter (λ other. not (nat_eq other.key x.key)) (firsts_by_key xs)))) is
    by false is rest =
        ap (λ (b : Bool). cond b (Some x) (first_with k (filter (λ other. not (nat_eq other.key x.key)) (firsts_by_key xs)))) is
        ∙ first_filter k (λ other. not (nat_eq other.key x.key)) (firsts_by_key xs) (differs is) ∙ rest

-- ---- the lists of a book
none_in : (buckets b k : ℕ) (xs : List Tuple) → AllByRecursion (λ (offer : Tuple). bucket_of buckets offer.key ≡ b) xs → bucket_of buckets k ≢ b → first_with k xs ≡ None
none_in buckets b k [] all other = refl
none_in buckets b k (x ∷ xs) all other =
    cond-false (is_of k x) (Some x) (first_with k xs) (ne_eqb x.key k (λ e. other (sym (ap (bucket_of buckets) e) ∙ all.0))) ∙ none_in buckets b k xs all.1 other

abbrev joined : List (List Tuple) → List Tuple
joined lists = flat_map (λ list. list) lists

none_past : (buckets c k : ℕ) (lists : List (List Tuple)) → AreOfBuckets buckets c lists → bucket_of buckets k < c → first_with k (joined lists) ≡ None
none_past buckets c k [] are below = refl
none_past buckets c k (list ∷ lists) are below =
    none_both k list (joined lists) (none_in buckets c k list are.0 (λ e. absurd (omega (arith, below, e)))) (none_past buckets (c + 1) k lists are.1 (omega (arith, below)))

first_joined : (buckets c i k : ℕ) (lists : List (List Tuple)) → AreOfBuckets buckets c lists → bucket_of buckets k ≡ c + i → first_with k (joined lists) ≡ first_with k (get_or lists i [])
first_joined buckets c i k [] are is = refl
first_joined buckets c zero k (list ∷ lists) are is =
    let none = none_past buckets (c + 1) k lists are.1 (omega (arith, is)) in
    first_append k list (joined lists) ∙ ap (λ (o : Option Tuple). option_or (first_with k list) o) none ∙ or_nothing (first_with k list)
  where
    or_nothing : (o : Option Tuple) → option_or o None ≡ o
    or_nothing None = refl
    or_nothing (Some x) = refl
first_joined buckets c (suc i) k (list ∷ lists) are is =
    none_behind k list (joined lists) (none_in buckets c k list are.0 (λ e. absurd (omega (arith, is, e)))) ∙ first_joined buckets (c + 1) i k lists are.1 (omega (arith, is))

-- the first with a key in all lists is the first in that of its bucket
first_listed : (book : Book) (k : ℕ) → IsBook book → first_with k (offers_of book) ≡ first_with k (list_at book (bucket_of book.buckets k))
first_listed book k is = first_joined book.buckets 0 (bucket_of book.buckets k) k book.lists is.each (omega arith)

-- ---- what a book judged
offers_judged_on : (rule : Rule) (xs : List Tuple) (seen : KeyMap) → map (λ p. p.0) (judged_on rule seen xs) ≡ xs
offers_judged_on rule [] seen = refl
offers_judged_on rule (x ∷ xs) seen = ap (λ (l : List Tuple). x ∷ l) (offers_judged_on rule xs (entered rule seen x))

offer_of_pairs : (buckets : ℕ) (ps : List (Tuple × Option Verdict)) → map (λ (j : Judged). j.offer) (map (judged_as buckets) ps) ≡ map (λ p. p.0) ps
offer_of_pairs buckets [] = refl
offer_of_pairs buckets (p ∷ ps) = ap (λ (l : List Tuple). p.0 ∷ l) (offer_of_pairs buckets ps)

pub judged_are_offers : (book : Book) → map (λ (j : Judged). j.offer) (judged book) ≡ judged_offers book
judged_are_offers book =
    offer_of_pairs book.buckets (judgements book.rule book.base (judged_offers book))
    ∙ ap (λ (ps : List (Tuple × Option Verdict)). map (λ p. p.0) ps) (judgements-judged_on book.rule book.base (judged_offers book))
    ∙ offers_judged_on book.rule (judged_offers book) book.base

none_unique : (k n : ℕ) (js : List Judged) → first_with k (map (λ (j : Judged). j.offer) js) ≡ None → first_with k (map (λ (p : ℕ × Tuple). p.1) (uniques_from n js)) ≡ None
none_unique k n [] none = refl
none_unique k n (j ∷ js) none = by (is_unique j.verdict) (is_of k j.offer) refl refl none (none_unique k (n + 1) js)
  where
    by : (unique here : Bool) → is_unique j.verdict ≡ unique → is_of k j.offer ≡ here → cond here (Some j.offer) (first_with k (map (λ (i : Judged). i.offer) js)) ≡ None
        → (first_with k (map (λ (i : Judged). i.offer) js) ≡ None → first_with k (map (λ (p : ℕ × Tuple). p.1) (uniques_from (n + 1) js)) ≡ None)
        → first_with k (map (λ (p : ℕ × Tuple). p.1) (uniques_from n (j ∷ js))) ≡ None
    by unique true u h empty rest = absurd (cc)
    by true false u h empty rest = rw u (cond-false (is_of k j.offer) (Some j.offer) (first_with k (map (λ (p : ℕ × Tuple). p.1) (uniques_from (n + 1) js))) h ∙ rest empty)
    by false false u h empty rest = rw u (rest empty)

none_taken : (k : ℕ) (test : ℕ × Tuple → Bool) (us : List (ℕ × Tuple)) → first_with k (map (λ (p : ℕ × Tuple). p.1) us) ≡ None → first_with k (map (λ (p : ℕ × Tuple). p.1) (filter test us)) ≡ None
none_taken k test [] none = refl
none_taken k test (u ∷ us) none = by (test u) (is_of k u.1) refl refl none (none_taken k test us)
  where
    by : (taken here : Bool) → test u ≡ taken → is_of k u.1 ≡ here → cond here (Some u.1) (first_with k (map (λ (p : ℕ × Tuple). p.1) us)) ≡ None
        → (first_with k (map (λ (p : ℕ × Tuple). p.1) us) ≡ None → first_with k (map (λ (p : ℕ × Tuple). p.1) (filter test us)) ≡ None)
        → first_with k (map (λ (p : ℕ × Tuple). p.1) (cond taken (u ∷ filter test us) (filter test us))) ≡ None
    by taken true t h empty rest = absurd (cc)
    by true false t h empty rest = cond-false (is_of k u.1) (Some u.1) (first_with k (map (λ (p : ℕ × Tuple). p.1) (filter test us))) h ∙ rest empty
    by false false t h empty rest = rest empty

take_front : {X : Type 0} (n : ℕ) (xs : List X) → IsPrefixOf (take n xs) xs
take_front zero xs = (xs, refl)
take_front (suc n) [] = ([], refl)
take_front (suc n) (x ∷ xs) = let rest = take_front n xs in (rest.0, ap (λ l. x ∷ l) rest.1)

-- no unique has a key that isn't in the list of its bucket
none_sent : (book : Book) (k : ℕ) (test : ℕ × Tuple → Bool) → IsBook book → bucket_of book.buckets k < book.buckets → first_with k (list_at book (bucket_of book.buckets k)) ≡ None
    → first_with k (map (λ (p : ℕ × Tuple). p.1) (filter test (uniques book))) ≡ None
none_sent book k test is within none =
    let b = bucket_of book.buckets k in
    let front = take_front (get_or (judged_cut book) b 0 - get_or book.firsts b 0) (list_at book b) in
    let here = none_front k _ (list_at book b) front none in
    let offers : first_with k (judged_offers book) ≡ None = sym (first_part book.buckets k (judged_offers book)) ∙ ap (first_with k) (judged_here_are book b is within) ∙ here in
    none_taken k test (uniques book) (none_unique k (gone book) (judged book) (ap (first_with k) (judged_are_offers book) ∙ offers))

-- ---- the book of pairs with more at its lists' ends
-- Behind what each list had stand some of the new links of its bucket.
pub record BehindLinks (pairs more : Book) (news : List Tuple) : Type 0 where
  pub book : IsBook more
  pub buckets : more.buckets ≡ pairs.buckets
  pub front : (b : ℕ) → b < pairs.buckets → IsPrefixOf (list_at pairs b) (list_at more b)
  pub takes : (b : ℕ) → b < pairs.buckets → IsPrefixOf (list_at more b) (list_at pairs b ++ part pairs.buckets b news)

past_lists : (book : Book) (b : ℕ) → IsBook book → book.buckets ≤ b → list_at book b ≡ []
past_lists book b is past = get_or_past book.lists b [] (omega (arith, is.lists, past))

no_some : {X : Type 0} {P : Type 0} (x : X) → None ≡ Some x → P
no_some x is = absurd (cc)

each_front : {X : Type 0} (P : X → Type 0) (xs ys : List X) → IsPrefixOf xs ys → AllByRecursion P ys → AllByRecursion P xs
each_front P xs ys front all = fronts xs front.0 (subst (AllByRecursion P) front.1 all)
  where
    fronts : (xs rest : List _) → AllByRecursion P (xs ++ rest) → AllByRecursion P xs
    fronts [] rest all = tt
    fronts (x ∷ xs) rest all = (all.0, fronts xs rest all.1)

pub each_both : {X : Type 0} (P : X → Type 0) (xs ys : List X) → AllByRecursion P xs → AllByRecursion P ys → AllByRecursion P (xs ++ ys)
each_both P [] ys one other = other
each_both P (x ∷ xs) ys one other = (one.0, each_both P xs ys one.1 other)

each_kept : {X : Type 0} (P : X → Type 0) (p : X → Bool) (xs : List X) → AllByRecursion P xs → AllByRecursion P (filter p xs)
each_kept P p [] all = tt
each_kept P p (x ∷ xs) all = by (p x) (each_kept P p xs all.1)
  where
    by : (kept : Bool) → AllByRecursion P (filter p xs) → AllByRecursion P (cond kept (x ∷ filter p xs) (filter p xs))
    by true rest = (all.0, rest)
    by false rest = rest

each_joined : (P : Tuple → Type 0) (lists : List (List Tuple)) → ((b : ℕ) → b < length lists → AllByRecursion P (get_or lists b [])) → AllByRecursion P (joined lists)
each_joined P [] each = tt
each_joined P (list ∷ lists) each = each_both P list (joined lists) (each 0 (omega arith)) (each_joined P lists (λ b within. each (suc b) (omega (arith, within))))

each_list : (P : Tuple → Type 0) (lists : List (List Tuple)) (b : ℕ) → AllByRecursion P (joined lists) → AllByRecursion P (get_or lists b [])
each_list P [] b all = tt
each_list P (list ∷ lists) zero all = each_front P list (list ++ joined lists) (joined lists, refl) all
each_list P (list ∷ lists) (suc b) all = each_list P lists b (behind list (joined lists) all)
  where
    behind : (xs rest : List Tuple) → AllByRecursion P (xs ++ rest) → AllByRecursion P rest
    behind [] rest all = all
    behind (x ∷ xs) rest all = behind xs rest all.1

module _ (links sent news : List Tuple) (pairs more : Book) (test : ℕ × Tuple → Bool) (whole : links ≡ sent ++ news) (is : IsBook pairs)
    (alike : AreAlike (map (λ (p : ℕ × Tuple). p.1) (filter test (uniques pairs))) sent) (offered : AreOffered links (offers_of pairs)) (behind : BehindLinks pairs more news) where
  -- a key that isn't in the list of its bucket is in no link that was sent
  none_linked : (k : ℕ) → bucket_of pairs.buckets k < pairs.buckets → first_with k (list_at pairs (bucket_of pairs.buckets k)) ≡ None → first_with k sent ≡ None
  none_linked k within none =
      no_text (first_with k sent) (sym (alike k) ∙ ap (option_map (λ (offer : Tuple). offer.aux)) (none_sent pairs k test is within none))
    where
      no_text : (o : Option Tuple) → option_map (λ (offer : Tuple). offer.aux) o ≡ None → o ≡ None
      no_text None same = refl
      no_text (Some offer) same = absurd (cc)

  listed : (k : ℕ) → first_with k (offers_of more) ≡ first_with k (list_at more (bucket_of pairs.buckets k))
  listed k = first_listed more k behind.book ∙ ap (λ (n : ℕ). first_with k (list_at more (bucket_of n k))) behind.buckets

  -- what is first with a key in the list of its bucket is first of the links
  first_link : (k : ℕ) (offer : Tuple) → bucket_of pairs.buckets k < pairs.buckets → first_with k (list_at more (bucket_of pairs.buckets k)) ≡ Some offer → first_with k links ≡ Some offer
  first_link k offer within found =
      let b = bucket_of pairs.buckets k in
      let old = list_at pairs b in
      let new = part pairs.buckets b news in
      let there : first_with k (old ++ new) ≡ Some offer = first_front k (list_at more b) (old ++ new) offer (behind.takes b within) found in
      by (first_with k old) refl (sym (first_append k old new) ∙ there)
    where
      by : (o : Option Tuple) → first_with k (list_at pairs (bucket_of pairs.buckets k)) ≡ o → option_or (first_with k (list_at pairs (bucket_of pairs.buckets k)))
          (first_with k (part pairs.buckets (bucket_of pairs.buckets k) news)) ≡ Some offer → first_with k links ≡ Some offer
      by (Some old) here both =
          let same : Some old ≡ Some offer = sym (ap (λ (o : Option Tuple). option_or o (first_with k (part pairs.buckets (bucket_of pairs.buckets k) news))) here) ∙ both in
          offered.first k offer (first_listed pairs k is ∙ here ∙ same)
      by None here both =
          let new : first_with k news ≡ Some offer = sym (first_part pairs.buckets k news)
          ∙ sym (ap (λ (o : Option Tuple). option_or o (first_with k (part pairs.buckets (bucket_of pairs.buckets k) news))) here) ∙ both in
          ap (first_with k) whole ∙ none_behind k sent news (none_linked k within here) ∙ new

  -- the book goes on holding links alone
  pub still_offered : AllByRecursion (λ (offer : Tuple). offer.op ≡ Both) news → AreOffered links (offers_of more)
  still_offered both = record {
    each = All-from_recursion (λ (offer : Tuple). offer.op ≡ Both) (offers_of more) (each_joined (λ (offer : Tuple). offer.op ≡ Both) more.lists (λ b within.
        let inside : b < pairs.buckets = omega (arith, within, behind.book.lists, behind.buckets) in
        each_front (λ (offer : Tuple). offer.op ≡ Both) (list_at more b) (list_at pairs b ++ part pairs.buckets b news) (behind.takes b inside)
        (each_both (λ (offer : Tuple). offer.op ≡ Both) (list_at pairs b) (part pairs.buckets b news)
        (each_list (λ (offer : Tuple). offer.op ≡ Both) pairs.lists b (recursion_from_All (λ (offer : Tuple). offer.op ≡ Both) (offers_of pairs) offered.each))
        (each_kept (λ (offer : Tuple). offer.op ≡ Both) (λ (offer : Tuple). nat_eq (bucket_of pairs.buckets offer.key) b) news both))));
    first = λ k offer found. ⊎_elim
        (λ past. no_some offer (sym (ap (first_with k) (past_lists more (bucket_of pairs.buckets k) behind.book (omega (arith, past.1, behind.buckets)))) ∙ sym (listed k) ∙ found))
        (λ within. first_link k offer within.1 (sym (listed k) ∙ found))
        (leb_tells pairs.buckets (bucket_of pairs.buckets k));
  }

  -- and where it has them all, a key has the same first offer there and among the links
  pub first_same : (k : ℕ) → ((b : ℕ) → b < pairs.buckets → list_at more b ≡ list_at pairs b ++ part pairs.buckets b news)
      → (pairs.buckets ≤ bucket_of pairs.buckets k → first_with k links ≡ None) → first_with k (offers_of more) ≡ first_with k links
  first_same k all fits = ⊎_elim
      (λ past. listed k ∙ ap (first_with k) (past_lists more (bucket_of pairs.buckets k) behind.book (omega (arith, past.1, behind.buckets))) ∙ sym (fits past.1))
      (λ within. listed k ∙ by within.1 (first_with k (list_at more (bucket_of pairs.buckets k))) refl)
      (leb_tells pairs.buckets (bucket_of pairs.buckets k))
    where
      by : bucket_of pairs.buckets k < pairs.buckets → (o : Option Tuple) → first_with k (list_at more (bucket_of pairs.buckets k)) ≡ o
          → first_with k (list_at more (bucket_of pairs.buckets k)) ≡ first_with k links
      by within (Some offer) found = found ∙ sym (first_link k offer within found)
      by within None none =
          let b = bucket_of pairs.buckets k in
          let old = list_at pairs b in
          let new = part pairs.buckets b news in
          let nothing : first_with k (old ++ new) ≡ None = sym (ap (first_with k) (all b within)) ∙ none in
          let none_old : first_with k old ≡ None = none_front k old (old ++ new) (new, refl) nothing in
          let none_new : first_with k news ≡ None = sym (first_part pairs.buckets k news) ∙ sym (none_behind k old new none_old) ∙ nothing in
          none ∙ sym (ap (first_with k) whole ∙ none_both k sent news (none_linked k within none_old) none_new)

-- ---- when all is judged
low_uniques : (n t : ℕ) (js : List Judged) → n + length js ≤ t → filter (λ (p : ℕ × Tuple). nat_le 0 p.0 && nat_lt p.0 t) (uniques_from n js) ≡ uniques_from n js
low_uniques n t [] le = refl
low_uniques n t (j ∷ js) le = by (is_unique j.verdict) refl (low_uniques (n + 1) t js (omega (arith, le)))
  where
    by : (unique : Bool) → is_unique j.verdict ≡ unique → filter (λ (p : ℕ × Tuple). nat_le 0 p.0 && nat_lt p.0 t) (uniques_from (n + 1) js) ≡ uniques_from (n + 1) js
        → filter (λ (p : ℕ × Tuple). nat_le 0 p.0 && nat_lt p.0 t) (uniques_from n (j ∷ js)) ≡ uniques_from n (j ∷ js)
    by true u rest = rw u (rw (le-leb 0 n (omega arith), lt-ltb n t (omega (arith, le))) (ap (λ (us : List (ℕ × Tuple)). (n, j.offer) ∷ us) rest))
    by false u rest = rw u rest

-- all that a book judged is all that it has
judged_listed : (book : Book) (k : ℕ) → IsBook book → judged_cut book ≡ lengths_of book → bucket_of book.buckets k < book.buckets
    → first_with k (judged_offers book) ≡ first_with k (list_at book (bucket_of book.buckets k))
judged_listed book k is all within =
    let b = bucket_of book.buckets k in
    let whole : take (get_or (judged_cut book) b 0 - get_or book.firsts b 0) (list_at book b) ≡ list_at book b =
    take_all (get_or (judged_cut book) b 0 - get_or book.firsts b 0) (list_at book b) (subst (λ (cut : List ℕ). length (list_at book b) ≤ get_or cut b 0 - get_or book.firsts b 0) (sym all)
    (length_here book.firsts book.lists b (omega (arith, is.firsts, within)) (omega (arith, is.lists, within)))) in
    sym (first_part book.buckets k (judged_offers book)) ∙ ap (first_with k) (judged_here_are book b is within ∙ whole)
  where
    take_all : {X : Type 0} (n : ℕ) (xs : List X) → length xs ≤ n → take n xs ≡ xs
    take_all zero [] le = refl
    take_all (suc n) [] le = refl
    take_all zero (x ∷ xs) le = absurd (omega (arith, le))
    take_all (suc n) (x ∷ xs) le = ap (λ l. x ∷ l) (take_all n xs (omega (arith, le)))

    length_here : (firsts : List ℕ) (lists : List (List Tuple)) (b : ℕ) → b < length firsts → b < length lists → length (get_or lists b []) ≤ get_or (list_lengths firsts lists) b 0 - get_or firsts b 0
    length_here [] lists b one two = absurd (omega (arith, one))
    length_here (f ∷ fs) [] b one two = absurd (omega (arith, two))
    length_here (f ∷ fs) (l ∷ ls) zero one two = omega arith
    length_here (f ∷ fs) (l ∷ ls) (suc b) one two = length_here fs ls b (omega (arith, one)) (omega (arith, two))

-- what holds of each offer in the lists holds of each that is judged
each_drop : {X : Type 0} (P : X → Type 0) (n : ℕ) (xs : List X) → AllByRecursion P xs → AllByRecursion P (drop n xs)
each_drop P zero xs all = all
each_drop P (suc n) [] all = tt
each_drop P (suc n) (x ∷ xs) all = each_drop P n xs all.1

each_take : {X : Type 0} (P : X → Type 0) (n : ℕ) (xs : List X) → AllByRecursion P xs → AllByRecursion P (take n xs)
each_take P zero xs all = tt
each_take P (suc n) [] all = tt
each_take P (suc n) (x ∷ xs) all = (all.0, each_take P n xs all.1)

each_parts : (P : Tuple → Type 0) (xs ys : List Tuple) → AllByRecursion P (xs ++ ys) → AllByRecursion P xs × AllByRecursion P ys
each_parts P [] ys all = (tt, all)
each_parts P (x ∷ xs) ys all = let rest = each_parts P xs ys all.1 in ((all.0, rest.0), rest.1)

each_stretch : (P : Tuple → Type 0) (firsts froms tos : List ℕ) (lists : List (List Tuple)) → AllByRecursion P (joined lists) → AllByRecursion P (stretch firsts froms tos lists)
each_stretch P [] froms tos lists all = tt
each_stretch P (f ∷ fs) [] tos lists all = tt
each_stretch P (f ∷ fs) (g ∷ gs) [] lists all = tt
each_stretch P (f ∷ fs) (g ∷ gs) (t ∷ ts) [] all = tt
each_stretch P (f ∷ fs) (g ∷ gs) (t ∷ ts) (l ∷ ls) all =
    let parts = each_parts P l (joined ls) all in
    each_both P (drop (g - f) (take (t - f) l)) (stretch fs gs ts ls) (each_drop P (g - f) (take (t - f) l) (each_take P (t - f) l parts.0)) (each_stretch P fs gs ts ls parts.1)

each_stretches : (P : Tuple → Type 0) (firsts from : List ℕ) (cuts : List (List ℕ)) (lists : List (List Tuple)) → AllByRecursion P (joined lists)
    → AllByRecursion P (stretches firsts from cuts lists)
each_stretches P firsts from [] lists all = tt
each_stretches P firsts from (cut ∷ cuts) lists all =
    each_both P (stretch firsts from cut lists) (stretches firsts cut cuts lists) (each_stretch P firsts from cut lists all) (each_stretches P firsts cut cuts lists all)

pub each_judged : (P : Tuple → Type 0) (book : Book) → AllByRecursion P (offers_of book) → AllByRecursion P (judged_offers book)
each_judged P book all = each_stretches P book.firsts book.firsts book.cuts book.lists all

none_each : (k : ℕ) (xs : List Tuple) → first_with k xs ≡ None → AllByRecursion (λ (offer : Tuple). is_of k offer ≡ false) xs
none_each k [] none = tt
none_each k (x ∷ xs) none = by (is_of k x) refl none (none_each k xs)
  where
    by : (here : Bool) → is_of k x ≡ here → cond here (Some x) (first_with k xs) ≡ None → (first_with k xs ≡ None → AllByRecursion (λ (offer : Tuple). is_of k offer ≡ false) xs)
        → AllByRecursion (λ (offer : Tuple). is_of k offer ≡ false) (x ∷ xs)
    by true h empty rest = absurd (cc)
    by false h empty rest = (h, rest empty)

each_none : (k : ℕ) (xs : List Tuple) → AllByRecursion (λ (offer : Tuple). is_of k offer ≡ false) xs → first_with k xs ≡ None
each_none k [] all = refl
each_none k (x ∷ xs) all = cond-false (is_of k x) (Some x) (first_with k xs) all.0 ∙ each_none k xs all.1

-- the unique pairs of a book that is judged whole are, by key and text, the first of each key of the links
pub all_alike : (links : List Tuple) (book : Book) → IsBook book → book.base ≡ empty → judged_cut book ≡ lengths_of book → AllByRecursion (λ (offer : Tuple). offer.op ≡ Both) (offers_of book)
    → ((k : ℕ) → first_with k (offers_of book) ≡ first_with k links)
    → AreAlike (map (λ (p : ℕ × Tuple). p.1) (uniques_within 0 (gone book + length (judged book)) book)) links
all_alike links book is base all both same = λ k. ap (option_map (λ (offer : Tuple). offer.aux)) (first k)
  where
    us : List Tuple
    us = map (λ (p : ℕ × Tuple). p.1) (uniques_within 0 (gone book + length (judged book)) book)

    are : us ≡ firsts_by_key (judged_offers book)
    are = ap (λ (ps : List (ℕ × Tuple)). map (λ (p : ℕ × Tuple). p.1) ps) (low_uniques (gone book) (gone book + length (judged book)) (judged book) (omega arith))
        ∙ uniques-firsts book base (each_judged (λ (offer : Tuple). offer.op ≡ Both) book both)

    past_none : (k : ℕ) → book.buckets ≤ bucket_of book.buckets k → first_with k (offers_of book) ≡ None
    past_none k past = first_listed book k is ∙ ap (first_with k) (past_lists book (bucket_of book.buckets k) is past)

    first : (k : ℕ) → first_with k us ≡ first_with k links
    first k = ap (first_with k) are ∙ first_firsts k (judged_offers book) ∙ ⊎_elim
        (λ past. each_none k (judged_offers book) (each_judged (λ (offer : Tuple). is_of k offer ≡ false) book (none_each k (offers_of book) (past_none k past.1)))
        ∙ sym (past_none k past.1) ∙ same k)
        (λ within. judged_listed book k is all within.1 ∙ sym (first_listed book k is) ∙ same k)
        (leb_tells book.buckets (bucket_of book.buckets k))
