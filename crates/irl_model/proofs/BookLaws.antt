-- The verdict of a judged offer in the judged order is its verdict in its bucket's list: equal keys share a bucket.
use Rattle.std.proofs.Common.{◌≡◌, ◌≢◌, ◌∙◌, map, None, ℕ, zero, suc, ◌+◌, ◌-◌, ◌<◌, nat_eq, Bool, true, false, List, [], ◌∷◌, take, get_or, refl, sym, ap, subst, Option, Some, cond, arith}
use Rattle.std.proofs.lemmas.Bool.Decides.{nat_tests, Decides-eqb}
use Rattle.std.specs.List.{filter, AllByRecursion, AllPairs, IsDistinct, enumerate_from}
use Rattle.std.proofs.lemmas.Map.Made.{AllPairs-from_IsDistinct}
use Rattle.std.specs.Prelude.{is_some}
use Rattle.std.specs.Ordering.{nat_cmp, eq_by_cmp}
use Rattle.std.specs.Cmp.{nat_cmp_total, unsigned_tied}
use Rattle.std.specs.FinMap.{get, insert, get-insert}
use Rattle.irl_offer.specs.declared.offer.Op.{Op}
use Rattle.irl_offer.specs.declared.offer.Op.TheVariants.{Check, Update, Both}
use Rattle.irl_offer.specs.declared.offer.Rule.{Rule}
use Rattle.irl_offer.specs.declared.offer.Verdict.{Verdict}
use Rattle.irl_offer.specs.declared.receipt.Judged.{Judged}
use Rattle.irl_offer.specs.Tuple.{Tuple}
use Rattle.irl_model.specs.Judging.{KeyMap, enters, entered, answer, combined, judgements}
use Rattle.irl_offer.specs.Buckets.{bucket_of}
use Rattle.irl_model.specs.Book.{Book, IsBook, judged_offers, judged_cut, judged_as, is_unique, uniques, gone}
use Rattle.irl_model.proofs.Agreeing.{Agree, both_entered, one_entered}
use Rattle.irl_model.proofs.Stretches.{judged_here_are}
use Rattle.irl_model.proofs.JudgingLaws.{judged_on, judgements-judged_on}

module _ (buckets b : ℕ) where
  -- whether a key is of the bucket
  abbrev pub is_here : ℕ → Bool
  is_here key = nat_eq (bucket_of buckets key) b

  -- the bucket's judgements, and its offers
  abbrev pub judgements_here : List (Tuple × Option Verdict) → List (Tuple × Option Verdict)
  judgements_here js = filter (λ p. is_here p.0.key) js

  abbrev pub offers_here : List Tuple → List Tuple
  offers_here offers = filter (λ offer. is_here offer.key) offers

  pub judged_here : (rule : Rule) (s t : KeyMap) (offers : List Tuple) → Agree is_here s t → judgements_here (judged_on rule s offers) ≡ judged_on rule t (offers_here offers)
  judged_here rule s t [] agree = refl
  judged_here rule s t (offer ∷ offers) agree = by_test (is_here offer.key) refl
      (λ here. judged_here rule (entered rule s offer) (entered rule t offer) offers (both_entered is_here rule s t offer here agree))
      (λ there. judged_here rule (entered rule s offer) t offers (one_entered is_here rule s t offer there agree))
    where
      by_test : (test : Bool) → is_here offer.key ≡ test → (is_here offer.key ≡ true
          → judgements_here (judged_on rule (entered rule s offer) offers) ≡ judged_on rule (entered rule t offer) (offers_here offers))
          → (is_here offer.key ≡ false → judgements_here (judged_on rule (entered rule s offer) offers) ≡ judged_on rule t (offers_here offers))
          → judgements_here (judged_on rule s (offer ∷ offers)) ≡ judged_on rule t (offers_here (offer ∷ offers))
      by_test true here both one =
          let same : answer offer.op (get s offer.key) ≡ answer offer.op (get t offer.key) = ap (λ (o : Option ℕ). answer offer.op o) (agree offer.key here) in
          rw here (ap (λ (v : Option Verdict). (offer, v) ∷ judgements_here (judged_on rule (entered rule s offer) offers)) same
          ∙ ap (λ (js : List (Tuple × Option Verdict)). (offer, answer offer.op (get t offer.key)) ∷ js) (both here))
      by_test false there both one = rw there (one there)

  -- the bucket's offers are judged among all as they are judged alone
  pub judgements-here : (rule : Rule) (base : KeyMap) (offers : List Tuple) → judgements_here (judgements rule base offers) ≡ judgements rule base (offers_here offers)
  judgements-here rule base offers =
      ap judgements_here (judgements-judged_on rule base offers) ∙ judged_here rule base base offers (λ key here. refl) ∙ sym (judgements-judged_on rule base (offers_here offers))

-- ---- a book's bucket
judged_on-take : (rule : Rule) (seen : KeyMap) (n : ℕ) (xs : List Tuple) → judged_on rule seen (take n xs) ≡ take n (judged_on rule seen xs)
judged_on-take rule seen zero xs = refl
judged_on-take rule seen (suc n) [] = refl
judged_on-take rule seen (suc n) (x ∷ xs) = ap (λ (js : List (Tuple × Option Verdict)). (x, answer x.op (get seen x.key)) ∷ js) (judged_on-take rule (entered rule seen x) n xs)

pub judgements-take : (rule : Rule) (base : KeyMap) (n : ℕ) (xs : List Tuple) → judgements rule base (take n xs) ≡ take n (judgements rule base xs)
judgements-take rule base n xs = judgements-judged_on rule base (take n xs) ∙ judged_on-take rule base n xs ∙ ap (take n) (sym (judgements-judged_on rule base xs))

pub judged_in_its_list : (book : Book) (b : ℕ) → IsBook book → b < book.buckets
    → judgements_here book.buckets b (judgements book.rule book.base (judged_offers book))
    ≡ take (get_or (judged_cut book) b 0 - get_or book.firsts b 0) (judgements book.rule book.base (get_or book.lists b []))
judged_in_its_list book b is within =
    let n = get_or (judged_cut book) b 0 - get_or book.firsts b 0 in
    judgements-here book.buckets b book.rule book.base (judged_offers book)
    ∙ ap (λ (os : List Tuple). judgements book.rule book.base os) (judged_here_are book b is within)
    ∙ judgements-take book.rule book.base n (get_or book.lists b [])

-- ---- no key is judged Unique twice
-- a key that is there stays
entered_stays : (rule : Rule) (seen : KeyMap) (offer : Tuple) (key : ℕ) → is_some (get seen key) ≡ true → is_some (get (entered rule seen offer) key) ≡ true
entered_stays rule seen offer key there = by_op offer.op refl
  where
    set_stays : (value : ℕ) → is_some (get (insert seen offer.key value) key) ≡ true
    set_stays value = rw (get-insert nat_cmp_total seen offer.key value key) (either (eq_by_cmp nat_cmp key offer.key))
      where
        either : (test : Bool) → is_some (cond test (Some value) (get seen key)) ≡ true
        either true = refl
        either false = there

    by_op : (op : Op) → offer.op ≡ op → is_some (get (entered rule seen offer) key) ≡ true
    by_op Check is = rw is there
    by_op Update is = rw is (set_stays _)
    by_op Both is = rw is (set_stays _)

-- what is judged Unique was not there, and is then
new_where_unique : (op : Op) (known : Option ℕ) → is_unique (answer op known) ≡ true → (is_some known ≡ false) × (enters op ≡ true)
new_where_unique Check None e = absurd (cc)
new_where_unique Check (Some value) e = absurd (cc)
new_where_unique Update known e = absurd (cc)
new_where_unique Both None e = (refl, refl)
new_where_unique Both (Some value) e = absurd (cc)

there_once_entered : (rule : Rule) (seen : KeyMap) (offer : Tuple) → enters offer.op ≡ true → is_some (get (entered rule seen offer) offer.key) ≡ true
there_once_entered rule seen offer enters_it =
    let same : eq_by_cmp nat_cmp offer.key offer.key ≡ true = unsigned_tied offer.key offer.key ∙ grind (arith, nat_tests) in
    let value = combined rule (get seen offer.key) offer.value in
    rw enters_it (rw (get-insert nat_cmp_total seen offer.key value offer.key, same) refl)

-- the keys of those that were judged Unique
abbrev pub unique_keys : List (Tuple × Option Verdict) → List ℕ
unique_keys [] = []
unique_keys (p ∷ js) = cond (is_unique p.1) (p.0.key ∷ unique_keys js) (unique_keys js)

-- a key that is there is none of them
not_again : (rule : Rule) (seen : KeyMap) (key : ℕ) (xs : List Tuple) → is_some (get seen key) ≡ true → AllByRecursion (λ (k : ℕ). nat_eq key k ≡ false) (unique_keys (judged_on rule seen xs))
not_again rule seen key [] there = tt
not_again rule seen key (x ∷ xs) there = by_verdict (is_unique (answer x.op (get seen x.key))) refl (not_again rule (entered rule seen x) key xs (entered_stays rule seen x key there))
  where
    others : nat_eq key x.key ≡ true → is_some (get seen x.key) ≡ false → ⊥
    others e none =
        let same : key ≡ x.key = grind (arith, nat_tests) in
        let no : true ≡ false = sym there ∙ ap (λ (k : ℕ). is_some (get seen k)) same ∙ none in
        cc

    differs : (test : Bool) → test ≡ nat_eq key x.key → is_some (get seen x.key) ≡ false → nat_eq key x.key ≡ false
    differs false e none = sym e
    differs true e none = absurd (others (sym e) none)

    by_verdict : (unique : Bool) → is_unique (answer x.op (get seen x.key)) ≡ unique → AllByRecursion (λ (k : ℕ). nat_eq key k ≡ false) (unique_keys (judged_on rule (entered rule seen x) xs))
        → AllByRecursion (λ (k : ℕ). nat_eq key k ≡ false) (unique_keys (judged_on rule seen (x ∷ xs)))
    by_verdict true e rest = rw e (differs (nat_eq key x.key) refl (new_where_unique x.op (get seen x.key) e).0, rest)
    by_verdict false e rest = rw e rest

distinct_on : (rule : Rule) (seen : KeyMap) (xs : List Tuple) → IsDistinct nat_eq (unique_keys (judged_on rule seen xs))
unfolding IsDistinct
distinct_on rule seen [] = tt
distinct_on rule seen (x ∷ xs) = by_verdict (is_unique (answer x.op (get seen x.key))) refl (distinct_on rule (entered rule seen x) xs)
  where
    by_verdict : (unique : Bool) → is_unique (answer x.op (get seen x.key)) ≡ unique → IsDistinct nat_eq (unique_keys (judged_on rule (entered rule seen x) xs))
        → IsDistinct nat_eq (unique_keys (judged_on rule seen (x ∷ xs)))
    by_verdict true e rest = rw e (not_again rule (entered rule seen x) x.key xs (there_once_entered rule seen x (new_where_unique x.op (get seen x.key) e).1), rest)
    by_verdict false e rest = rw e rest

keys_are : (buckets n : ℕ) (js : List (Tuple × Option Verdict)) → map (λ (p : ℕ × Tuple). p.1.key)
    (map (λ (p : ℕ × Judged). (p.0, p.1.offer)) (filter (λ (p : ℕ × Judged). is_unique p.1.verdict) (enumerate_from n (map (judged_as buckets) js)))) ≡ unique_keys js
keys_are buckets n [] = refl
keys_are buckets n (p ∷ js) = by_verdict (is_unique p.1) refl (keys_are buckets (n + 1) js)
  where
    keys : List (ℕ × Judged) → List ℕ
    keys ps = map (λ (p : ℕ × Tuple). p.1.key) (map (λ (p : ℕ × Judged). (p.0, p.1.offer)) (filter (λ (p : ℕ × Judged). is_unique p.1.verdict) ps))

    by_verdict : (unique : Bool) → is_unique p.1 ≡ unique → keys (enumerate_from (n + 1) (map (judged_as buckets) js)) ≡ unique_keys js
        → keys (enumerate_from n (map (judged_as buckets) (p ∷ js))) ≡ unique_keys (p ∷ js)
    by_verdict true e rest = rw e (ap (λ (ks : List ℕ). p.0.key ∷ ks) rest)
    by_verdict false e rest = rw e rest

-- the keys of the unique offers, each once
pub unique_keys_once : (book : Book) → IsDistinct nat_eq (map (λ p. p.1.key) (uniques book))
unique_keys_once book =
    let js = judgements book.rule book.base (judged_offers book) in
    let keys : map (λ (p : ℕ × Tuple). p.1.key) (uniques book) ≡ unique_keys (judged_on book.rule book.base (judged_offers book)) = keys_are book.buckets (gone book) js
    ∙ ap unique_keys (judgements-judged_on book.rule book.base (judged_offers book)) in
    subst (IsDistinct nat_eq) (sym keys) (distinct_on book.rule book.base (judged_offers book))

pub distinct_uniques : (book : Book) → AllPairs (λ x y. x ≢ y) (map (λ p. p.1.key) (uniques book))
distinct_uniques book = AllPairs-from_IsDistinct (λ a b. Decides-eqb a b) _ (unique_keys_once book)
