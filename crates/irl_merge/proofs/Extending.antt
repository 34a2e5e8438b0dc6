-- A set that has one key more, above all that it is asked for, answers alike.
use Rattle.std.proofs.Common.{◌≡◌, ◌∙◌, ℕ, ◌<◌, List, [], ◌∷◌, Some, Option, Bool, true, false, cond, refl, sym, ap, arith}
use Rattle.std.specs.Prelude.{nat_eq}
use Rattle.std.specs.List.{AllByRecursion}
use Rattle.std.specs.FinMap.{get, insert}
use Rattle.std.proofs.lemmas.Bool.Decides.{nat_tests}
use Rattle.irl_offer.specs.declared.offer.Rule.{Rule}
use Rattle.irl_offer.specs.declared.offer.Verdict.{Verdict}
use Rattle.irl_offer.specs.Tuple.{Tuple}
use Rattle.irl_model.specs.Judging.{KeyMap, after, answer, combined, entered, enters, judgements}
use Rattle.irl_model.proofs.JudgingLaws.{judged_on, judgements-judged_on}
use Rattle.irl_model.proofs.RisingKeys.{get_set, same_keys}

apart : (q a k : ℕ) (x y z : Option ℕ) → a < k → cond (nat_eq q a) x (cond (nat_eq q k) y z) ≡ cond (nat_eq q k) y (cond (nat_eq q a) x z)
apart q a k x y z lt = grind (arith, nat_tests)

below : (a k : ℕ) (x y : Option ℕ) → a < k → cond (nat_eq a k) x y ≡ y
below a k x y lt = grind (arith, nat_tests)

set_apart : (keys : KeyMap) (k v a w : ℕ) → a < k → insert (insert keys k v) a w ≡ insert (insert keys a w) k v
set_apart keys k v a w lt = same_keys _ _ (λ q.
    get_set (insert keys k v) a w q ∙ ap (cond (nat_eq q a) (Some w)) (get_set keys k v q) ∙ apart q a k (Some w) (Some v) (get keys q) lt
    ∙ sym (get_set (insert keys a w) k v q ∙ ap (cond (nat_eq q k) (Some v)) (get_set keys a w q)))

pub get_apart : (keys : KeyMap) (k v a : ℕ) → a < k → get (insert keys k v) a ≡ get keys a
get_apart keys k v a lt = get_set keys k v a ∙ below a k (Some v) (get keys a) lt

pub entered_apart : (rule : Rule) (keys : KeyMap) (k v : ℕ) (o : Tuple) → o.key < k → entered rule (insert keys k v) o ≡ insert (entered rule keys o) k v
entered_apart rule keys k v o lt =
    elim (enters o.op) as (λ (b : Bool). cond b (insert (insert keys k v) o.key (combined rule (get (insert keys k v) o.key) o.value)) (insert keys k v)
    ≡ insert (cond b (insert keys o.key (combined rule (get keys o.key) o.value)) keys) k v) [
      | true ↦ ap (λ (known : Option ℕ). insert (insert keys k v) o.key (combined rule known o.value)) (get_apart keys k v o.key lt)
          ∙ set_apart keys k v o.key (combined rule (get keys o.key) o.value) lt
      | false ↦ refl
    ]

pub after_apart : (rule : Rule) (keys : KeyMap) (k v : ℕ) (os : List Tuple) → AllByRecursion (λ (o : Tuple). o.key < k) os → after rule (insert keys k v) os ≡ insert (after rule keys os) k v
after_apart rule keys k v [] h = refl
after_apart rule keys k v (o ∷ os) h = ap (λ (m : KeyMap). after rule m os) (entered_apart rule keys k v o h.0) ∙ after_apart rule (entered rule keys o) k v os h.1

told_apart : (rule : Rule) (keys : KeyMap) (k v : ℕ) (os : List Tuple) → AllByRecursion (λ (o : Tuple). o.key < k) os → judged_on rule (insert keys k v) os ≡ judged_on rule keys os
told_apart rule keys k v [] h = refl
told_apart rule keys k v (o ∷ os) h =
    ap (λ (known : Option ℕ). (o, answer o.op known) ∷ judged_on rule (entered rule (insert keys k v) o) os) (get_apart keys k v o.key h.0)
    ∙ ap (λ (m : KeyMap). (o, answer o.op (get keys o.key)) ∷ judged_on rule m os) (entered_apart rule keys k v o h.0)
    ∙ ap (λ (ps : List (Tuple × Option Verdict)). (o, answer o.op (get keys o.key)) ∷ ps) (told_apart rule (entered rule keys o) k v os h.1)

pub judgements_apart : (rule : Rule) (keys : KeyMap) (k v : ℕ) (os : List Tuple) → AllByRecursion (λ (o : Tuple). o.key < k) os → judgements rule (insert keys k v) os ≡ judgements rule keys os
judgements_apart rule keys k v os h = judgements-judged_on rule (insert keys k v) os ∙ told_apart rule keys k v os h ∙ sym (judgements-judged_on rule keys os)
