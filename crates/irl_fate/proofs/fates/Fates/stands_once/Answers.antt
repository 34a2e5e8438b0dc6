use Rattle.std.proofs.Common.{◌≡◌, ◌∙◌, ◌≤◌, ◌<◌, ℕ, [], length, true, sym, ap, subst, arith}
use Rattle.irl_base.specs.Lists.{list_at}
use Rattle.irl_events.specs.Events.{Progress, has_number}
use Rattle.irl_fate.specs.declared.fate.Fate.{Fate}
use Rattle.irl_fate.specs.declared.fate.Fate.TheVariants.{Fresh, Queue}
use Rattle.irl_fate.specs.Fates.{fate_of}
use Rattle.irl_fate.specs.Standing.{one_if, is_placed, stands, IsWaiting}
use Rattle.irl_fate.specs.Kept.{shown, fate_in}
use Rattle.irl_fate.proofs.Fresh.{queue_within}
use Rattle.irl_fate.proofs.Agreeing.{in_front, stands_where}
use Rattle.irl_fate.proofs.Ordering.{in_front_below}
use Rattle.irl_fate.proofs.Standing.{stands_as}
use Rattle.irl_fate.proofs.fates.Fates.stands_once.Goals as goal

pub returns : goal.returns
returns c =
    let k = c.self.invariant in
    let view = c.self.view_is in
    let waits : IsWaiting (shown c.self.inside).waiting = record { lists = k.agree.many; round = k.round; most = k.most; spent = k.spent; unused = k.unused } in
    record {
      once = subst (λ (x : Progress). (n : ℕ) → stands x n ≡ one_if (is_placed (fate_of x n))) view
          (λ n. stands_as k.agree n ∙ ap (λ (v : Fate). one_if (is_placed v)) (stands_where k.agree n));
      fresh = subst (λ (x : Progress). (n : ℕ) → x.read ≤ n → fate_of x n ≡ Fresh) view
          (λ n le. sym (stands_where k.agree n) ∙ k.fresh n le);
      sent = subst (λ (x : Progress). x.read ≤ x.sent) view k.sent;
      begun = subst (λ (x : Progress). (n : ℕ) → has_number x.front n ≡ true → x.begun ≡ true) view
          (λ n there. k.begun (omega (arith, in_front_below (fate_in c.self.inside.fates.items) c.self.inside.read n k.fresh (sym (in_front k.agree n) ∙ there))));
      spent = subst (λ (x : Progress). (i : ℕ) → i < x.waiting.passes → list_at x.waiting.lists i ≡ []) view k.spent;
      unused = subst (λ (x : Progress). (i : ℕ) → x.waiting.queues ≤ i → i < 64 → list_at x.waiting.lists i ≡ []) view k.unused;
      queue = subst (λ (x : Progress). (n i : ℕ) → fate_of x n ≡ Queue i → (x.waiting.passes < i) × (i ≤ x.waiting.queues)) view
          (λ n i h. queue_within (shown c.self.inside) n i waits h);
      lists = subst (λ (x : Progress). length x.waiting.lists ≡ 65) view k.agree.many;
      round = subst (λ (x : Progress). x.waiting.passes < x.waiting.queues) view k.round;
      most = subst (λ (x : Progress). x.waiting.queues ≤ 64) view k.most;
    }
