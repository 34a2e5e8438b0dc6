use Rattle.std.proofs.Common.{◌≡◌, ◌∙◌, ◌<◌, ◌++◌, [], List, length, arith, rules, refl, sym, subst}
use Rattle.std.proofs.lemmas.List.{append-nil}
use Rattle.irl_offer.specs.declared.receipt.Pair.{Pair}
use Rattle.irl_merge.specs.declared.sweep.Sweep.{Sweep}
use Rattle.irl_merge.specs.Sweeping.{HasAsked, next_key}
use Rattle.irl_merge.proofs.Keys.{joined, none_more}
use Rattle.irl_merge.proofs.Asking.{next_at, prefix_both}
use Rattle.irl_merge.proofs.sweep.Sweep.ask_below.Goals as goal

pub loop-i-init : goal.loop-i-init
loop-i-init c = record {
  at = search rules;
  asked = λ rule keys given more e has. subst (λ (ps : List Pair). HasAsked rule keys ps c.args.self.now) (none_more given c.args.out.now.items more e) has;
  behind = λ b. b;
  same = refl;
  sound = refl;
  kept = ([], sym (append-nil c.args.out.now.items));
}

pub loop-i-preserved : goal.loop-i-preserved
loop-i-preserved c =
    let mid : Sweep = c.loop-i.self in
    let within : c.loop-i.i < length mid.queries.items = search rules in
    let next : next_key mid ≡ c.index.result.now.key = next_at mid c.loop-i.i c.index.result.now c.loop-i.invariant.at within c.index.ensures in
    let before : next_key mid < c.args.key = omega (arith, next, c.if-index-key.false) in
    let so_far = c.loop-i.invariant.kept in
    let step = c.ask_next.ensures.kept in
    record {
      at = omega (arith, c.loop-i.invariant.at, c.in_ok-ask_next.ensures.count);
      asked = λ rule keys given more e has.
          subst (λ (ps : List Pair). HasAsked rule keys ps c.ask_next.new.self) (joined given c.args.out.now.items c.loop-i.out.items c.ask_next.new.out.items more so_far step e)
          (c.in_ok-ask_next.ensures.asked rule keys (given ++ so_far.0) step.0 step.1 (c.loop-i.invariant.asked rule keys given so_far.0 so_far.1 has));
      behind = λ b. c.in_ok-ask_next.ensures.behind c.args.key before (c.loop-i.invariant.behind b);
      same = c.ask_next.ensures.same ∙ c.loop-i.invariant.same;
      sound = c.ask_next.ensures.sound ∙ c.loop-i.invariant.sound;
      kept = prefix_both c.args.out.now.items c.loop-i.out.items c.ask_next.new.out.items so_far step;
    }
