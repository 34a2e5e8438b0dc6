-- Two sets that have the same at some keys, told by a test: they answer offers of these keys alike, and go on to agree.
use Rattle.std.proofs.Common.{◌≡◌, ◌∙◌, ℕ, nat_eq, Bool, true, false, List, [], ◌∷◌, refl, sym, ap, Option, Some, cond, arith}
use Rattle.std.proofs.lemmas.Bool.Decides.{nat_tests}
use Rattle.std.specs.List.{AllByRecursion}
use Rattle.std.specs.FinMap.{get, insert}
use Rattle.irl_offer.specs.declared.offer.Op.{Op}
use Rattle.irl_offer.specs.declared.offer.Op.TheVariants.{Check, Update, Both}
use Rattle.irl_offer.specs.declared.offer.Rule.{Rule}
use Rattle.irl_offer.specs.declared.offer.Verdict.{Verdict}
use Rattle.irl_offer.specs.Tuple.{Tuple}
use Rattle.irl_model.specs.Judging.{KeyMap, after, answer, combined, entered}
use Rattle.irl_model.proofs.JudgingLaws.{judged_on}
use Rattle.irl_model.proofs.RisingKeys.{get_set}

module _ (is_here : ℕ → Bool) where
  -- two sets have the same at each key that passes
  abbrev pub Agree : KeyMap → KeyMap → Type 0
  Agree s t = (key : ℕ) → is_here key ≡ true → get s key ≡ get t key

  same_key : (q key : ℕ) → nat_eq q key ≡ true → q ≡ key
  same_key q key e = grind (arith, nat_tests)

  other_key : (q key : ℕ) → is_here q ≡ true → is_here key ≡ false → nat_eq q key ≡ false
  other_key q key here there = by_test (nat_eq q key) refl
    where
      by_test : (test : Bool) → test ≡ nat_eq q key → nat_eq q key ≡ false
      by_test false e = sym e
      by_test true e =
          let same = same_key q key (sym e) in
          let no : true ≡ false = sym here ∙ ap is_here same ∙ there in
          absurd (cc)

  both_set : (s t : KeyMap) (key x y : ℕ) → Agree s t → x ≡ y → Agree (insert s key x) (insert t key y)
  both_set s t key x y agree same q here =
      get_set s key x q ∙ ap (λ (v : ℕ). cond (nat_eq q key) (Some v) (get s q)) same ∙ ap (λ (o : Option ℕ). cond (nat_eq q key) (Some y) o) (agree q here) ∙ sym (get_set t key y q)

  one_set : (s t : KeyMap) (key x : ℕ) → Agree s t → is_here key ≡ false → Agree (insert s key x) t
  one_set s t key x agree there q here =
      get_set s key x q ∙ ap (λ (test : Bool). cond test (Some x) (get s q)) (other_key q key here there) ∙ agree q here

  -- an offer of such a key keeps that
  pub both_entered : (rule : Rule) (s t : KeyMap) (offer : Tuple) → is_here offer.key ≡ true → Agree s t → Agree (entered rule s offer) (entered rule t offer)
  both_entered rule s t offer here agree = by_op offer.op refl
    where
      value_is : combined rule (get s offer.key) offer.value ≡ combined rule (get t offer.key) offer.value
      value_is = ap (λ (o : Option ℕ). combined rule o offer.value) (agree offer.key here)

      by_op : (op : Op) → offer.op ≡ op → Agree (entered rule s offer) (entered rule t offer)
      by_op Check is = rw is agree
      by_op Update is = rw is (both_set s t offer.key _ _ agree value_is)
      by_op Both is = rw is (both_set s t offer.key _ _ agree value_is)

  -- and so does one of another key in one of them
  pub one_entered : (rule : Rule) (s t : KeyMap) (offer : Tuple) → is_here offer.key ≡ false → Agree s t → Agree (entered rule s offer) t
  one_entered rule s t offer there agree = by_op offer.op refl
    where
      by_op : (op : Op) → offer.op ≡ op → Agree (entered rule s offer) t
      by_op Check is = rw is agree
      by_op Update is = rw is (one_set s t offer.key _ agree there)
      by_op Both is = rw is (one_set s t offer.key _ agree there)

  -- ---- lists of offers
  pub both_after : (rule : Rule) (s t : KeyMap) (offers : List Tuple) → AllByRecursion (λ (offer : Tuple). is_here offer.key ≡ true) offers → Agree s t
      → Agree (after rule s offers) (after rule t offers)
  both_after rule s t [] here agree = agree
  both_after rule s t (offer ∷ offers) here agree = both_after rule (entered rule s offer) (entered rule t offer) offers here.1 (both_entered rule s t offer here.0 agree)

  pub one_after : (rule : Rule) (s t : KeyMap) (offers : List Tuple) → AllByRecursion (λ (offer : Tuple). is_here offer.key ≡ false) offers → Agree s t → Agree (after rule s offers) t
  one_after rule s t [] there agree = agree
  one_after rule s t (offer ∷ offers) there agree = one_after rule (entered rule s offer) t offers there.1 (one_entered rule s t offer there.0 agree)

  pub same_judged : (rule : Rule) (s t : KeyMap) (offers : List Tuple) → AllByRecursion (λ (offer : Tuple). is_here offer.key ≡ true) offers → Agree s t
      → judged_on rule s offers ≡ judged_on rule t offers
  same_judged rule s t [] here agree = refl
  same_judged rule s t (offer ∷ offers) here agree =
      ap (λ (o : Option ℕ). (offer, answer offer.op o) ∷ judged_on rule (entered rule s offer) offers) (agree offer.key here.0)
      ∙ ap (λ (js : List (Tuple × Option Verdict)). (offer, answer offer.op (get t offer.key)) ∷ js)
      (same_judged rule (entered rule s offer) (entered rule t offer) offers here.1 (both_entered rule s t offer here.0 agree))
