use Rattle.std.proofs.Common.{◌≡◌, ◌∙◌, ◌<◌, ℕ, List, false, take, get_or, length, sym, ap, subst, arith, rules}
use Rattle.std.specs.Prelude.{vec_len}
use Rattle.irl_events.specs.Events.{Progress}
use Rattle.irl_fate.specs.declared.fate.Fate.{Fate}
use Rattle.irl_fate.specs.Fronts.{AreFirst}
use Rattle.irl_fate.specs.Kept.{fate_in, front_left, is_front, numbers_in, AreSorted}
use Rattle.irl_fate.proofs.Entries.{rising_sorted}
use Rattle.irl_fate.proofs.Ordering.{left_alike, left_sorted}
use Rattle.irl_fate.proofs.fates.Fates.first_of_front.Goals as goal

pub first_from-requires-clause-sorted : goal.first_from-requires-clause-sorted
first_from-requires-clause-sorted c =
    subst (λ (t : List (ℕ × Fate)). AreSorted (numbers_in t)) (sym c.deref.ensures.value)
    (rising_sorted 0 c.self.inside.read (numbers_in c.self.inside.fates.items) c.self.invariant.rising)

pub first_from-requires-clause-within : goal.first_from-requires-clause-within
first_from-requires-clause-within c =
    let count : vec_len c.self.inside.order ≡ length c.self.inside.order.items = search rules in
    omega (arith, c.self.invariant.next, ap length c.deref-2.ensures.value)

pub first_from-requires-clause-passed : goal.first_from-requires-clause-passed
first_from-requires-clause-passed c =
    let a = c.self.inside in
    subst (λ (e : List (ℕ × Fate)). (i : ℕ) → i < a.next → is_front (fate_in e (get_or c.deref-2.result.now i 0)) ≡ false) (sym c.deref.ensures.value)
    (subst (λ (o : List ℕ). (i : ℕ) → i < a.next → is_front (fate_in a.fates.items (get_or o i 0)) ≡ false) (sym c.deref-2.ensures.value) c.self.invariant.passed)

pub returns : goal.returns
returns c =
    let a = c.self.inside in
    let k = c.self.invariant in
    let entries = a.fates.items in
    let most = c.args.most in
    let first : c.in_ok-first.first.items ≡ take most (front_left entries a.order.items) =
    c.in_ok-first.ensures ∙ ap (λ (e : List (ℕ × Fate)). take most (front_left e c.deref-2.result.now)) c.deref.ensures.value
    ∙ ap (λ (o : List ℕ). take most (front_left entries o)) c.deref-2.ensures.value in
    subst (λ (x : Progress). AreFirst x.front most c.in_ok-first.first.items) c.self.view_is record {
      all = front_left entries a.order.items;
      same = left_alike entries a.order.items a.front.items k.order;
      rising = left_sorted entries a.order.items a.read k.order_rises;
      first = first;
    }
