use Rattle.std.proofs.Common.{◌≡◌, ◌∙◌, ◌+◌, ◌++◌, ◌∷◌, [], List, take, take_all, get_or, refl, sym, ap, subst, append_assoc}
use Rattle.std.proofs.lemmas.List.{append-nil, take_more}
use Rattle.irl_offer.specs.declared.receipt.Pair.{Pair}
use Rattle.std.specs.FinMap.{insert}
use Rattle.irl_model.specs.Judging.{after}
use Rattle.irl_model.proofs.RisingKeys.{rising_front}
use Rattle.irl_merge.specs.declared.sweep.Sweep.{Sweep}
use Rattle.irl_model.specs.Pairs.{IsRising, keys_of}
use Rattle.irl_merge.specs.Pairs.{HasGiven, IsUpTo}
use Rattle.irl_merge.specs.Sweeping.{HasSwept, IsBehind, judged}
use Rattle.irl_merge.proofs.Keys.{joined, none_more, rising_below}
use Rattle.irl_merge.proofs.Asking.{prefix_both, swept_more, up_behind}
use Rattle.irl_merge.proofs.sweep.Sweep.feed_all.Goals as goal

pub loop-pair-init : goal.loop-pair-init
loop-pair-init c = record {
  swept = λ rule offers fed given more e has rising.
      subst (λ (l : List Pair). HasSwept rule offers l (given ++ more) c.args.self.now) (sym (append-nil fed))
      (subst (λ (l : List Pair). HasSwept rule offers fed l c.args.self.now) (none_more given c.args.out.now.items more e) has);
  sound = refl;
  kept = ([], sym (append-nil c.args.out.now.items));
}

pub loop-pair-preserved : goal.loop-pair-preserved
loop-pair-preserved c =
    let block = c.args.block.now in
    let i = c.loop-pair.pair-index in
    let nothing : Pair = record { key = 0; value = 0 } in
    let p : Pair = get_or block i nothing in
    let mid : Sweep = c.ask_below.new.self in
    let first = c.args.out.now.items in
    let so_far = c.loop-pair.invariant.kept in
    let asking = c.ask_below.ensures.kept in
    let putting = c.set_last.ensures.kept in
    let both = prefix_both c.loop-pair.out.items c.ask_below.new.out.items c.set_last.new.out.items asking putting in
    record {
      swept = λ rule offers fed given more e has rising.
          let before = fed ++ take i block in
          let all : fed ++ take (i + 1) block ≡ before ++ p ∷ [] =
          ap (λ (l : List Pair). fed ++ l) (take_more block i nothing c.loop-pair-test.true) ∙ sym (append_assoc fed (take i block) (p ∷ [])) in
          let rises : IsRising (before ++ p ∷ []) = subst IsRising all rising in
          let swept = c.loop-pair.invariant.swept rule offers fed given so_far.0 so_far.1 has (rising_front before (p ∷ []) rises) in
          let asked = c.in_ok-ask_below.ensures.asked rule (keys_of before) (given ++ so_far.0) asking.0 asking.1 swept.asked in
          let behind : IsBehind p.key mid = c.in_ok-ask_below.ensures.behind (swept.behind p.key (rising_below before p rises)) in
          let up : IsUpTo mid.last p.key = up_behind mid.last p.key behind.held in
          let put = c.in_ok-set_last.ensures.given (after rule (keys_of before) (judged mid)) ((given ++ so_far.0) ++ asking.0) putting.0 putting.1 asked.made up in
          let given_all : ((given ++ so_far.0) ++ asking.0) ++ putting.0 ≡ given ++ more =
          append_assoc (given ++ so_far.0) asking.0 putting.0 ∙ joined given first c.loop-pair.out.items c.set_last.new.out.items more so_far both e in
          swept_more rule offers before (fed ++ take (i + 1) block) (given ++ so_far.0) ((given ++ so_far.0) ++ asking.0) (given ++ more)
          c.loop-pair.self mid _ p all rises swept asked behind c.in_ok-ask_below.ensures.ahead c.ask_below.ensures.same refl refl refl c.in_ok-set_last.ensures.last
          (subst (λ (l : List Pair). HasGiven (insert (after rule (keys_of before) (judged mid)) p.key p.value) l c.set_last.new.last) given_all put);
      sound = c.ask_below.ensures.sound ∙ c.loop-pair.invariant.sound;
      kept = prefix_both first c.loop-pair.out.items c.set_last.new.out.items so_far both;
    }

pub returns-clause-swept : goal.returns-clause-swept
returns-clause-swept c = λ rule offers fed given more e has rising.
    let block = c.args.block.now in
    let all : take c.loop-pair.pair-index block ≡ block = take_all _ _ c.loop-pair-test.false in
    let swept = c.loop-pair.invariant.swept rule offers fed given more e has (subst (λ (l : List Pair). IsRising (fed ++ l)) (sym all) rising) in
    subst (λ (l : List Pair). HasSwept rule offers (fed ++ l) (given ++ more) c.loop-pair.self) all swept
