-- What is asked, against what is kept, setting by setting.
use Rattle.std.proofs.Common.{◌≡◌, ◌∙◌, ◌⊎◌, ⊎_elim, ℕ, zero, suc, ◌+◌, ◌-◌, ◌<◌, ◌≤◌, List, [], ◌∷◌, length, get_or, Option, None, Some, sym, ap, arith}
use Rattle.std.proofs.lemmas.Option.{get_or_from_slice_get, slice_get-get_or}
use Rattle.std.specs.Option.{option_map}
use Rattle.std.specs.Prelude.{slice_get, unwrap_or}
use Rattle.irl_offer.specs.Settings.{settings_of}
use Rattle.irl_offer.specs.declared.offer.Rule.{Rule}
use Rattle.irl_offer.specs.declared.settings.Asked.{Asked}
use Rattle.irl_offer.specs.declared.settings.Settings.{Settings}
use Rattle.irl_head.specs.Head.{rule_number, setting_numbers}
use Rattle.irl_head.specs.Asking.{Agrees, IsOther, asked_numbers}

-- what is asked of the settings below this one is as they are kept
abbrev pub AgreeBelow : ℕ → List (Option ℕ) → List ℕ → Type 0
AgreeBelow i wanted kept = (m a k : ℕ) → m < i → slice_get wanted m ≡ Some (Some a) → slice_get kept m ≡ Some k → a ≡ k

next_agrees : (i : ℕ) (wanted : List (Option ℕ)) (kept : List ℕ) → ((a k : ℕ) → slice_get wanted i ≡ Some (Some a) → slice_get kept i ≡ Some k → a ≡ k) → AgreeBelow i wanted kept
    → AgreeBelow (i + 1) wanted kept
next_agrees i wanted kept here before = λ m a k below asked_is kept_is.
    let split : (m < i) ⊎ (m ≡ i) = grind arith in
    ⊎_elim (λ (less : m < i). before m a k less asked_is kept_is)
    (λ (same : m ≡ i). here a k (ap (slice_get wanted) (sym same) ∙ asked_is) (ap (slice_get kept) (sym same) ∙ kept_is))
    split

-- one that is asked for as it is kept, and one that isn't asked for
pub same_agrees : (i number : ℕ) (wanted : List (Option ℕ)) (kept : List ℕ) → get_or wanted i None ≡ Some number → number ≡ get_or kept i 0 → AgreeBelow i wanted kept → AgreeBelow (i + 1) wanted kept
same_agrees i number wanted kept is same = next_agrees i wanted kept (λ a k asked_is kept_is.
    let x : get_or wanted i None ≡ Some a = get_or_from_slice_get wanted i (Some a) None asked_is in
    let y : get_or kept i 0 ≡ k = get_or_from_slice_get kept i k 0 kept_is in
    cc)

pub none_agrees : (i : ℕ) (wanted : List (Option ℕ)) (kept : List ℕ) → ((x : ℕ) → get_or wanted i None ≡ Some x → ⊥) → AgreeBelow i wanted kept → AgreeBelow (i + 1) wanted kept
none_agrees i wanted kept never = next_agrees i wanted kept (λ a k asked_is kept_is. absurd (never a (get_or_from_slice_get wanted i (Some a) None asked_is)))

-- all of them
in_list : {X : Type 0} (xs : List X) (i : ℕ) (x : X) → slice_get xs i ≡ Some x → i < length xs
in_list [] i x is = absurd cc
in_list (y ∷ xs) zero x is = omega arith
in_list (y ∷ xs) (suc i) x is = omega (arith, in_list xs i x is)

pub all_agree : (asked : Asked) (settings : Settings) (i : ℕ) (wanted : List (Option ℕ)) (kept : List ℕ) → wanted ≡ asked_numbers asked → kept ≡ setting_numbers settings → 11 ≤ i
    → AgreeBelow i wanted kept → Agrees asked settings
all_agree asked settings i wanted kept asked_are kept_are all agree = λ n a k asked_is kept_is.
    let below : n < 11 = in_list (setting_numbers settings) n k kept_is in
    agree n a k (omega (arith, below)) (ap (λ (l : List (Option ℕ)). slice_get l n) asked_are ∙ asked_is) (ap (λ (l : List ℕ). slice_get l n) kept_are ∙ kept_is)

-- the first that differs
pub first_differs : (asked : Asked) (settings : Settings) (i number : ℕ) (wanted : List (Option ℕ)) (kept : List ℕ) → wanted ≡ asked_numbers asked → kept ≡ setting_numbers settings → i < 11
    → get_or wanted i None ≡ Some number → (number ≡ get_or kept i 0 → ⊥) → AgreeBelow i wanted kept
    → IsOther asked settings (i + 1) (get_or kept i 0) number
first_differs asked settings i number wanted kept asked_are kept_are below is differs agree =
    let back : i + 1 - 1 ≡ i = omega arith in
    let wanted_long : length wanted ≡ 11 = ap length asked_are in
    let kept_long : length kept ≡ 11 = ap length kept_are in
    record {
      within = (omega arith, omega arith);
      kept_is = ap (slice_get (setting_numbers settings)) back ∙ ap (λ (l : List ℕ). slice_get l i) (sym kept_are) ∙ slice_get-get_or kept i 0 (omega arith);
      asked_is = ap (slice_get (asked_numbers asked)) back ∙ ap (λ (l : List (Option ℕ)). slice_get l i) (sym asked_are) ∙ slice_get-get_or wanted i None (omega arith) ∙ ap Some is;
      differ = λ same. differs (sym same);
      before = λ m a k less asked_is kept_is. agree m a k (omega (arith, less)) (ap (λ (l : List (Option ℕ)). slice_get l m) asked_are ∙ asked_is) (ap (λ (l : List ℕ). slice_get l m) kept_are
          ∙ kept_is);
    }

-- ---- a new store is as it was asked for
given_kind : (x a k : ℕ) → Some (Some x) ≡ Some (Some a) → Some x ≡ Some k → a ≡ k
given_kind x a k one two = cc

given_both : (o : Option ℕ) (d a k : ℕ) → Some o ≡ Some (Some a) → Some (unwrap_or o d) ≡ Some k → a ≡ k
given_both None d a k one two = cc
given_both (Some x) d a k one two = cc

given_rules : (o : Option Rule) (d : Rule) (a k : ℕ) → Some (option_map rule_number o) ≡ Some (Some a) → Some (rule_number (unwrap_or o d)) ≡ Some k → a ≡ k
given_rules None d a k one two = cc
given_rules (Some x) d a k one two = cc

pub new_agrees : (asked : Asked) → Agrees asked (settings_of asked)
new_agrees asked zero a k one two = given_kind _ a k one two
new_agrees asked (suc zero) a k one two = given_rules asked.rule _ a k one two
new_agrees asked (suc (suc zero)) a k one two = given_both asked.buckets _ a k one two
new_agrees asked (suc (suc (suc zero))) a k one two = given_both asked.array _ a k one two
new_agrees asked (suc (suc (suc (suc zero)))) a k one two = given_both asked.trigger _ a k one two
new_agrees asked (suc (suc (suc (suc (suc zero))))) a k one two = given_both asked.block _ a k one two
new_agrees asked (suc (suc (suc (suc (suc (suc zero)))))) a k one two = given_both asked.cap _ a k one two
new_agrees asked (suc (suc (suc (suc (suc (suc (suc zero))))))) a k one two = given_both asked.queues _ a k one two
new_agrees asked (suc (suc (suc (suc (suc (suc (suc (suc zero)))))))) a k one two = given_both asked.base _ a k one two
new_agrees asked (suc (suc (suc (suc (suc (suc (suc (suc (suc zero))))))))) a k one two = given_both asked.most _ a k one two
new_agrees asked (suc (suc (suc (suc (suc (suc (suc (suc (suc (suc zero)))))))))) a k one two = given_both asked.ranks _ a k one two
new_agrees asked (suc (suc (suc (suc (suc (suc (suc (suc (suc (suc (suc n))))))))))) a k one two = cc
