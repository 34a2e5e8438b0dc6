use Rattle.std.proofs.Common.{◌≡◌, ◌∙◌, ◌+◌, ◌*◌, ◌<◌, ℕ, List, [], length, cond, min, set, get_or, sym, ap, subst, arith, rules, inl, inr}
use Rattle.std.specs.Prelude.{nat_eq, nat_lt, vec_len}
use Rattle.std.specs.Vec.{with_items}
use Rattle.std.proofs.lemmas.Bool.{cases_eq, le-ltb, cond-false}
use Rattle.irl_base.specs.Lists.{items_of, list_at}
use Rattle.irl_events.specs.Queues.{Waiting, next_queues}
use Rattle.irl_events.specs.Events.{Progress, has_number}
use Rattle.irl_fate.specs.declared.fate.Fate.{Fate}
use Rattle.irl_fate.specs.declared.fate.Fate.TheVariants.{Queue, Last}
use Rattle.irl_fate.specs.declared.fates.Fates.TheInside.{Inside}
use Rattle.irl_fate.specs.Kept.{shown, IsKept, Agree, AreSorted, fate_in, numbers_in, is_front, front_left}
use Rattle.irl_fate.specs.Passing.{ended}
use Rattle.irl_fate.proofs.Agreeing.{same_fates, turn, turn_front}
use Rattle.irl_fate.proofs.Steps.{all_last, turned_left, turned_fresh}
use Rattle.irl_fate.proofs.Totals.{total_turned}
use Rattle.irl_fate.proofs.Waiting.{turned_unused}
use Rattle.irl_fate.proofs.Entries.{rising_sorted, with_same}
use Rattle.irl_events.specs.Legal.{are_rising}
use Rattle.irl_fate.specs.Standing.{total}
use Rattle.irl_fate.proofs.fates.Fates.end_pass.Goals as goal

-- the first queue was read too
first_spent : (a : Inside) → IsKept a → list_at (items_of a.lists.items) a.passes ≡ [] → list_at (items_of a.lists.items) 0 ≡ []
first_spent a k now = elim (cases_eq a.passes 0) [
  | inl none ↦ ap (list_at (items_of a.lists.items)) (sym none) ∙ now
  | inr some ↦ k.spent 0 (omega arith)
]

pub begin_round-requires-clause-sorted : goal.begin_round-requires-clause-sorted
begin_round-requires-clause-sorted c =
    subst (λ (t : List (ℕ × Fate)). AreSorted (numbers_in t)) (sym c.deref_mut.ensures.value)
    (rising_sorted 0 c.self.inside.read (numbers_in c.self.inside.fates.items) c.self.invariant.rising)

pub begin_round-requires-clause-last : goal.begin_round-requires-clause-last
begin_round-requires-clause-last c =
    let a = c.self.inside in
    let same : c.deref.result.now ≡ list_at (items_of a.lists.items) 64 = c.deref.ensures.value ∙ c.take_out-last.ensures.taken in
    subst (λ (e : List (ℕ × Fate)). (i : ℕ) → i < length c.deref.result.now → fate_in e (get_or c.deref.result.now i 0) ≡ Last) (sym c.deref_mut.ensures.value)
    (subst (λ (t : List ℕ). (i : ℕ) → i < length t → fate_in a.fates.items (get_or t i 0) ≡ Last) (sym same) (all_last _ _ _ _ c.self.invariant.agree))

pub invariant_of-self-2 : goal.invariant_of-self-2
invariant_of-self-2 c =
    let a = c.self.inside in
    let k = c.self.invariant in
    let old = a.fates.items in
    let new = (with_items a.fates c.begin_round.new.entries).items in
    let is : new ≡ c.begin_round.new.entries = with_same a.fates c.deref_mut.result.now c.begin_round.new.entries c.deref_mut.ensures.value c.begin_round.ensures.numbers in
    let lists = items_of a.lists.items in
    let last : List ℕ = list_at lists 64 in
    let same : c.deref.result.now ≡ last = c.deref.ensures.value ∙ c.take_out-last.ensures.taken in
    let becomes = λ (q : ℕ). ap (λ (l : List (ℕ × Fate)). fate_in l q) is ∙ c.begin_round.ensures.fates q
    ∙ ap (λ (e : List (ℕ × Fate)). cond (has_number c.deref.result.now q) (Queue 1) (fate_in e q)) c.deref_mut.ensures.value
    ∙ ap (λ (t : List ℕ). cond (has_number t q) (Queue 1) (fate_in old q)) same in
    let now : items_of c.replace_at.new.lists.items ≡ set (set lists 64 []) 0 last =
    c.replace_at.ensures.lists ∙ ap (λ (t : List (List ℕ)). set t 0 c.take_out-last.result.items) c.take_out-last.ensures.left
    ∙ ap (set (set lists 64 []) 0) c.take_out-last.ensures.taken in
    let read : list_at lists a.passes ≡ [] = subst (λ (x : Progress). list_at x.waiting.lists x.waiting.passes ≡ []) (sym c.self.view_is) c.requires in
    let front = turned_left old new a.front.items (front_left old a.front.items) lists a.done.items k.agree becomes in
    let same_len : vec_len (with_items a.fates c.begin_round.new.entries) ≡ vec_len a.fates = search rules in
    record {
      agree = subst (λ (t : List ℕ). Agree (fate_in new) t (items_of c.replace_at.new.lists.items) a.done.items) (sym front)
          (subst (λ (t : List (List ℕ)). Agree (fate_in new) (front_left old a.front.items) t a.done.items) (sym now)
          (same_fates (fate_in new) becomes (turn (first_spent a k read) k.agree)));
      fresh = λ n le. becomes n ∙ turned_fresh (fate_in old) (front_left old a.front.items) lists a.done.items n k.agree (k.fresh n le);
      sent = k.sent;
      begun = k.begun;
      spent = λ i lt. absurd (omega arith);
      unused = λ i le lt. ap (λ (t : List (List ℕ)). list_at t i) now ∙ turned_unused lists i (omega arith) lt (k.unused i (omega (arith, c.queues_after-self-inside.ensures.least)) lt);
      left = k.left ∙ sym (ap length front);
      len = c.replace_at.ensures.len ∙ c.take_out-last.ensures.len ∙ k.len;
      most = c.queues_after-self-inside.ensures.most;
      round = omega (arith, c.queues_after-self-inside.ensures.least, k.round);
      rising = ap (are_rising 0 a.read) (ap numbers_in is ∙ c.begin_round.ensures.numbers ∙ ap numbers_in c.deref_mut.ensures.value) ∙ k.rising;
      entries = same_len ∙ k.entries ∙ sym (ap (λ (t : List (List ℕ)). length (front_left new a.front.items) + total t + length a.done.items) (now)
          ∙ ap (λ n. n + total (set (set lists 64 []) 0 last) + length a.done.items) (ap length front)
          ∙ ap (λ n. length (front_left old a.front.items) + n + length a.done.items) (total_turned lists k.agree.many (first_spent a k read)));
      order = k.order;
      order_rises = k.order_rises;
      next = k.next;
      passed = λ i lt. ap is_front (becomes _) ∙ turn_front k.agree (get_or a.order.items i 0) ∙ k.passed i lt;
      room = k.room;
    }

pub returns : goal.returns
returns c =
    let a = c.self.inside in
    let old = a.fates.items in
    let new = (with_items a.fates c.begin_round.new.entries).items in
    let is : new ≡ c.begin_round.new.entries = with_same a.fates c.deref_mut.result.now c.begin_round.new.entries c.deref_mut.ensures.value c.begin_round.ensures.numbers in
    let lists = items_of a.lists.items in
    let last : List ℕ = list_at lists 64 in
    let same : c.deref.result.now ≡ last = c.deref.ensures.value ∙ c.take_out-last.ensures.taken in
    let becomes = λ (q : ℕ). ap (λ (l : List (ℕ × Fate)). fate_in l q) is ∙ c.begin_round.ensures.fates q
    ∙ ap (λ (e : List (ℕ × Fate)). cond (has_number c.deref.result.now q) (Queue 1) (fate_in e q)) c.deref_mut.ensures.value
    ∙ ap (λ (t : List ℕ). cond (has_number t q) (Queue 1) (fate_in old q)) same in
    let now : items_of c.replace_at.new.lists.items ≡ set (set lists 64 []) 0 last =
    c.replace_at.ensures.lists ∙ ap (λ (t : List (List ℕ)). set t 0 c.take_out-last.result.items) c.take_out-last.ensures.left
    ∙ ap (set (set lists 64 []) 0) c.take_out-last.ensures.taken in
    let front = turned_left old new a.front.items (front_left old a.front.items) lists a.done.items c.self.invariant.agree becomes in
    let count : c.len.result ≡ length last = c.len.ensures ∙ search rules ∙ ap length c.take_out-last.ensures.taken in
    let queues : c.queues_after-self-inside.result ≡ next_queues a.queues last =
    c.queues_after-self-inside.ensures.value ∙ ap (λ n. cond (nat_eq n 0) a.queues (min (2 * a.queues) 64)) count in
    let build : List ℕ → List (List ℕ) → ℕ → Progress = λ front lists queues. record (shown a) { front = front; waiting = record { lists = lists; queues = queues; passes = 0 } } in
    let rounds : Waiting ℕ → Progress = λ w. record (shown a) { waiting = w } in
    let whole : Waiting ℕ = record { lists = lists; queues = a.queues; passes = a.passes + 1 } in
    let begun : Waiting ℕ = record { lists = set (set lists 64 []) 0 last; queues = next_queues a.queues last; passes = 0 } in
    ap (λ (t : List ℕ). build t (items_of c.replace_at.new.lists.items) c.queues_after-self-inside.result) front
    ∙ ap (λ (t : List (List ℕ)). build (shown a).front t c.queues_after-self-inside.result) now
    ∙ ap (build (shown a).front (set (set lists 64 []) 0 last)) queues
    ∙ ap rounds (sym (cond-false (nat_lt (a.passes + 1) a.queues) whole begun (le-ltb (a.passes + 1) a.queues c.if-passes-self.false)))
    ∙ ap ended c.self.view_is
