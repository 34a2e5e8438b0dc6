use Rattle.std.proofs.Common.{◌≡◌, ◌∙◌, ◌+◌, ◌++◌, ◌<◌, ℕ, List, [], get_or, length, true, false, refl, sym, ap, subst, arith, rules, length-append}
use Rattle.std.specs.Prelude.{vec_len}
use Rattle.std.specs.Vec.{with_items}
use Rattle.std.specs.List.{list_all}
use Rattle.irl_offer.specs.declared.outcome.Outcome.{Outcome}
use Rattle.irl_base.specs.Lists.{items_of}
use Rattle.irl_events.specs.Events.{Progress, Settle, has_number, after_event, without}
use Rattle.irl_events.specs.Legal.{settles, are_distinct, are_rising}
use Rattle.irl_fate.specs.declared.fate.Fate.{Fate}
use Rattle.irl_fate.specs.declared.fates.Fates.TheInside.{Inside}
use Rattle.irl_fate.specs.Fates.{done_by}
use Rattle.irl_fate.specs.Kept.{shown, IsKept, Agree, AreSorted, fate_in, numbers_in, is_front, front_left}
use Rattle.irl_fate.specs.Standing.{total}
use Rattle.irl_fate.proofs.Agreeing.{in_front, same_fates}
use Rattle.irl_fate.proofs.Entries.{rising_sorted, with_same}
use Rattle.irl_fate.proofs.Marking.{numbers_done}
use Rattle.irl_fate.proofs.Settling.{settle_parts, settle_agree, settle_left, settle_front, settle_fresh, settle_passed, all_same}
use Rattle.irl_fate.proofs.fates.Fates.settle.Goals as goal

-- what the rule says of the fields
record Shown (a : Inside) (outcomes : List (ℕ × Outcome)) : Type 0 where
  front : list_all (λ d. is_front (fate_in a.fates.items d.0)) outcomes ≡ true
  distinct : are_distinct (numbers_done outcomes) ≡ true

shows : (a : Inside) (x : Progress) (fronts : List ℕ) (outcomes : List (ℕ × Outcome)) → IsKept a → shown a ≡ x → settles x (Settle fronts outcomes) ≡ true → Shown a outcomes
shows a x fronts outcomes k view h =
    let parts = settle_parts (shown a) fronts outcomes (subst (λ (y : Progress). settles y (Settle fronts outcomes) ≡ true) (sym view) h) in
    record {
      front = all_same (λ (d : ℕ × Outcome). is_front (fate_in a.fates.items d.0)) (λ (d : ℕ × Outcome). has_number (shown a).front d.0) outcomes (λ d. sym (in_front k.agree d.0)) ∙ parts.front;
      distinct = parts.distinct;
    }

pub settle_all-requires-clause-sorted : goal.settle_all-requires-clause-sorted
settle_all-requires-clause-sorted c =
    subst (λ (t : List (ℕ × Fate)). AreSorted (numbers_in t)) (sym c.deref_mut.ensures.value)
    (rising_sorted 0 c.self.inside.read (numbers_in c.self.inside.fates.items) c.self.invariant.rising)

pub settle_all-requires-clause-front : goal.settle_all-requires-clause-front
settle_all-requires-clause-front c =
    let a = c.self.inside in
    subst (λ (e : List (ℕ × Fate)). list_all (λ d. is_front (fate_in e d.0)) c.deref.result.now ≡ true) (sym c.deref_mut.ensures.value)
    (subst (λ (t : List (ℕ × Outcome)). list_all (λ d. is_front (fate_in a.fates.items d.0)) t ≡ true) (sym c.deref.ensures.value)
    (shows a c.args.self.now c.args.fronts.items c.args.done.items c.self.invariant c.self.view_is c.requires).front)

pub settle_all-requires-clause-distinct : goal.settle_all-requires-clause-distinct
settle_all-requires-clause-distinct c =
    subst (λ (t : List (ℕ × Outcome)). are_distinct (numbers_done t) ≡ true) (sym c.deref.ensures.value)
    (shows c.self.inside c.args.self.now c.args.fronts.items c.args.done.items c.self.invariant c.self.view_is c.requires).distinct

-- as many are done as there were in the front, and some are left
record Fewer (a : Inside) (outcomes : List (ℕ × Outcome)) : Type 0 where
  left : length (without (front_left a.fates.items a.front.items) outcomes) + length outcomes ≡ a.left

fewer : (a : Inside) (x : Progress) (fronts : List ℕ) (outcomes : List (ℕ × Outcome)) → IsKept a → shown a ≡ x → settles x (Settle fronts outcomes) ≡ true → Fewer a outcomes
fewer a x fronts outcomes k view h =
    let s = shows a x fronts outcomes k view h in
    record { left = settle_left outcomes s.front s.distinct k.agree ∙ sym k.left }

pub overflow_sub-self : goal.overflow_sub-self
overflow_sub-self c =
    let few = fewer c.self.inside c.args.self.now c.args.fronts.items c.args.done.items c.self.invariant c.self.view_is c.requires in
    let count : vec_len c.args.done ≡ length c.args.done.items = search rules in
    omega (arith, few.left, c.len.ensures)

pub extend-requires : goal.extend-requires
extend-requires c =
    let few = fewer c.self.inside c.args.self.now c.args.fronts.items c.args.done.items c.self.invariant c.self.view_is c.requires in
    omega (arith, few.left, c.self.invariant.room, ap length c.deref-2.ensures.value)

pub first_left-self-inside-requires-clause-sorted : goal.first_left-self-inside-requires-clause-sorted
first_left-self-inside-requires-clause-sorted c =
    let a = c.self.inside in
    let new = (with_items a.fates c.settle_all.new.entries).items in
    let is : new ≡ c.settle_all.new.entries = with_same a.fates c.deref_mut.result.now c.settle_all.new.entries c.deref_mut.ensures.value c.settle_all.ensures.numbers in
    let numbers : numbers_in c.deref-3.result.now ≡ numbers_in a.fates.items =
    ap numbers_in (c.deref-3.ensures.value ∙ is) ∙ c.settle_all.ensures.numbers ∙ ap numbers_in c.deref_mut.ensures.value in
    subst AreSorted (sym numbers) (rising_sorted 0 a.read (numbers_in a.fates.items) c.self.invariant.rising)

pub first_left-self-inside-requires-clause-passed : goal.first_left-self-inside-requires-clause-passed
first_left-self-inside-requires-clause-passed c =
    let a = c.self.inside in
    let old = a.fates.items in
    let new = (with_items a.fates c.settle_all.new.entries).items in
    let outcomes = c.args.done.items in
    let s = shows a c.args.self.now c.args.fronts.items outcomes c.self.invariant c.self.view_is c.requires in
    let is : new ≡ c.settle_all.new.entries = with_same a.fates c.deref_mut.result.now c.settle_all.new.entries c.deref_mut.ensures.value c.settle_all.ensures.numbers in
    let becomes = λ (q : ℕ). ap (λ (l : List (ℕ × Fate)). fate_in l q) is ∙ c.settle_all.ensures.fates q
    ∙ ap (λ (t : List (ℕ × Outcome)). done_by t q (fate_in c.deref_mut.result.now q)) c.deref.ensures.value
    ∙ ap (λ (e : List (ℕ × Fate)). done_by outcomes q (fate_in e q)) c.deref_mut.ensures.value in
    subst (λ (e : List (ℕ × Fate)). (i : ℕ) → i < a.next → is_front (fate_in e (get_or c.deref-4.result.now i 0)) ≡ false) (sym c.deref-3.ensures.value)
    (subst (λ (o : List ℕ). (i : ℕ) → i < a.next → is_front (fate_in new (get_or o i 0)) ≡ false) (sym c.deref-4.ensures.value)
    (λ i lt. ap is_front (becomes _) ∙ settle_passed (fate_in old) outcomes (get_or a.order.items i 0) s.front (c.self.invariant.passed i lt)))

pub invariant_of-self : goal.invariant_of-self
invariant_of-self c =
    let a = c.self.inside in
    let k = c.self.invariant in
    let old = a.fates.items in
    let new = (with_items a.fates c.settle_all.new.entries).items in
    let outcomes = c.args.done.items in
    let lists = items_of a.lists.items in
    let s = shows a c.args.self.now c.args.fronts.items outcomes k c.self.view_is c.requires in
    let few = fewer a c.args.self.now c.args.fronts.items outcomes k c.self.view_is c.requires in
    let is : new ≡ c.settle_all.new.entries = with_same a.fates c.deref_mut.result.now c.settle_all.new.entries c.deref_mut.ensures.value c.settle_all.ensures.numbers in
    let becomes = λ (q : ℕ). ap (λ (l : List (ℕ × Fate)). fate_in l q) is ∙ c.settle_all.ensures.fates q
    ∙ ap (λ (t : List (ℕ × Outcome)). done_by t q (fate_in c.deref_mut.result.now q)) c.deref.ensures.value
    ∙ ap (λ (e : List (ℕ × Fate)). done_by outcomes q (fate_in e q)) c.deref_mut.ensures.value in
    let front = settle_front old new a.front.items outcomes becomes in
    let done : c.extend.new.list.items ≡ a.done.items ++ outcomes = c.extend.ensures.items ∙ ap (λ (t : List (ℕ × Outcome)). a.done.items ++ t) c.deref-2.ensures.value in
    let count : vec_len c.args.done ≡ length outcomes = search rules in
    let same_len : vec_len (with_items a.fates c.settle_all.new.entries) ≡ vec_len a.fates = search rules in
    let fewer_left : length (front_left new a.front.items) ≡ length (without (front_left old a.front.items) outcomes) = ap length front in
    let more_done : length c.extend.new.list.items ≡ length a.done.items + length outcomes = ap length done ∙ length-append a.done.items outcomes in
    let last = c.first_left-self-inside.result in
    let ordered : vec_len a.order ≡ length a.order.items = search rules in
    let entries_are : vec_len a.fates ≡ length (front_left new a.front.items) + total lists + length c.extend.new.list.items = omega (arith, k.entries, few.left, k.left) in
    record {
      agree = subst (λ (t : List ℕ). Agree (fate_in new) t lists c.extend.new.list.items) (sym front)
          (subst (λ (t : List (ℕ × Outcome)). Agree (fate_in new) (without (front_left old a.front.items) outcomes) lists t) (sym done)
          (same_fates (fate_in new) becomes (settle_agree outcomes s.front s.distinct k.agree)));
      fresh = λ n le. becomes n ∙ settle_fresh (fate_in old) outcomes n s.front (k.fresh n le);
      sent = k.sent;
      begun = λ lt. refl;
      spent = k.spent;
      unused = k.unused;
      left = omega (arith, few.left, c.len.ensures);
      len = k.len;
      most = k.most;
      round = k.round;
      rising = ap (are_rising 0 a.read) (ap numbers_in is ∙ c.settle_all.ensures.numbers ∙ ap numbers_in c.deref_mut.ensures.value) ∙ k.rising;
      entries = same_len ∙ entries_are;
      order = k.order;
      order_rises = k.order_rises;
      next = omega (arith, c.first_left-self-inside.ensures.within, ap length c.deref-4.ensures.value, ordered);
      passed = subst (λ (e : List (ℕ × Fate)). (i : ℕ) → i < last → is_front (fate_in e (get_or a.order.items i 0)) ≡ false) c.deref-3.ensures.value
          (subst (λ (o : List ℕ). (i : ℕ) → i < last → is_front (fate_in c.deref-3.result.now (get_or o i 0)) ≡ false) c.deref-4.ensures.value c.first_left-self-inside.ensures.passed);
      room = omega (arith, few.left, k.room, c.len.ensures, c.extend.ensures.len, c.extend.ensures.capacity, ap length c.deref-2.ensures.value);
    }

pub returns : goal.returns
returns c =
    let a = c.self.inside in
    let old = a.fates.items in
    let new = (with_items a.fates c.settle_all.new.entries).items in
    let outcomes = c.args.done.items in
    let is : new ≡ c.settle_all.new.entries = with_same a.fates c.deref_mut.result.now c.settle_all.new.entries c.deref_mut.ensures.value c.settle_all.ensures.numbers in
    let becomes = λ (q : ℕ). ap (λ (l : List (ℕ × Fate)). fate_in l q) is ∙ c.settle_all.ensures.fates q
    ∙ ap (λ (t : List (ℕ × Outcome)). done_by t q (fate_in c.deref_mut.result.now q)) c.deref.ensures.value
    ∙ ap (λ (e : List (ℕ × Fate)). done_by outcomes q (fate_in e q)) c.deref_mut.ensures.value in
    let front = settle_front old new a.front.items outcomes becomes in
    let done : c.extend.new.list.items ≡ a.done.items ++ outcomes = c.extend.ensures.items ∙ ap (λ (t : List (ℕ × Outcome)). a.done.items ++ t) c.deref-2.ensures.value in
    let build : List ℕ → List (ℕ × Outcome) → Progress = λ front done. record (shown a) { begun = true; fronts = c.args.fronts.items; front = front; done = done } in
    ap (λ (t : List ℕ). build t c.extend.new.list.items) front
    ∙ ap (build (without (shown a).front outcomes)) done
    ∙ ap (λ (x : Progress). after_event x (Settle c.args.fronts.items outcomes) []) c.self.view_is
