use Rattle.std.proofs.Common.{◌∙◌, ◌++◌, [], List, arith, rules, refl, sym, subst}
use Rattle.std.proofs.lemmas.List.{append-nil}
use Rattle.irl_offer.specs.declared.receipt.Pair.{Pair}
use Rattle.irl_merge.specs.Sweeping.{HasAsked}
use Rattle.irl_merge.proofs.Keys.{joined, none_more}
use Rattle.irl_merge.proofs.Asking.{prefix_both}
use Rattle.irl_merge.proofs.sweep.Sweep.ask_rest.Goals as goal

pub loop-init : goal.loop-init
loop-init c = record {
  at = search rules;
  asked = λ rule keys given more e has. subst (λ (ps : List Pair). HasAsked rule keys ps c.args.self.now) (none_more given c.args.out.now.items more e) has;
  same = refl;
  kept = ([], sym (append-nil c.args.out.now.items));
}

pub loop-preserved : goal.loop-preserved
loop-preserved c =
    let so_far = c.loop.invariant.kept in
    let step = c.ask_next.ensures.kept in
    record {
      at = omega (arith, c.loop.invariant.at, c.in_ok-ask_next.ensures.count);
      asked = λ rule keys given more e has.
          subst (λ (ps : List Pair). HasAsked rule keys ps c.ask_next.new.self) (joined given c.args.out.now.items c.loop.out.items c.ask_next.new.out.items more so_far step e)
          (c.in_ok-ask_next.ensures.asked rule keys (given ++ so_far.0) step.0 step.1 (c.loop.invariant.asked rule keys given so_far.0 so_far.1 has));
      same = c.ask_next.ensures.same ∙ c.loop.invariant.same;
      kept = prefix_both c.args.out.now.items c.loop.out.items c.ask_next.new.out.items so_far step;
    }
