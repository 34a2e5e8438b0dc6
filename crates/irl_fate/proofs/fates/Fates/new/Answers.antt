use Rattle.std.proofs.Common.{◌≡◌, ◌∙◌, ℕ, List, length, arith, sym, ap}
use Rattle.irl_base.specs.Lists.{items_of, list_at}
use Rattle.irl_events.specs.Legal.{are_rising}
use Rattle.irl_fate.specs.declared.fate.Fate.{Fate}
use Rattle.irl_fate.specs.Kept.{front_left, numbers_in}
use Rattle.irl_fate.specs.Standing.{count, total}
use Rattle.irl_fate.proofs.Steps.{none_agree, none_fresh, empty_at}
use Rattle.irl_fate.proofs.fates.Fates.new.Goals as goal

pub invariant_of-result : goal.invariant_of-result
invariant_of-result c =
    let none = c.new.ensures.items in
    let front = c.new-2.ensures.items in
    let order = c.new-3.ensures.items in
    let done = c.new-4.ensures.items in
    let none_left : length (front_left c.new.result.items c.new-2.result.items) ≡ 0 = ap (λ (t : List ℕ). length (front_left c.new.result.items t)) front in
    let none_wait : total (items_of c.in_ok-lists.lists.items) ≡ 0 = ap total c.in_ok-lists.ensures.lists in
    record {
      agree = none_agree _ _ _ _ none front c.in_ok-lists.ensures.lists done;
      fresh = none_fresh _ none;
      sent = omega arith;
      begun = λ lt. absurd (omega (arith, lt));
      spent = λ k lt. absurd (omega arith);
      unused = λ k le lt. ap (λ (t : List (List ℕ)). list_at t k) c.in_ok-lists.ensures.lists ∙ empty_at k;
      left = sym (ap (λ (t : List ℕ). length (front_left c.new.result.items t)) front);
      len = c.in_ok-lists.ensures.len;
      most = c.requires.most;
      round = c.requires.least;
      rising = ap (λ (t : List (ℕ × Fate)). are_rising 0 0 (numbers_in t)) none;
      entries = omega (arith, c.new.ensures.len, none_left, none_wait, ap length done);
      order = λ n. ap (count n) order ∙ sym (ap (count n) front);
      order_rises = ap (are_rising 0 0) order;
      next = omega arith;
      passed = λ i lt. absurd (omega arith);
      room = omega (arith, c.new-4.ensures.len);
    }
