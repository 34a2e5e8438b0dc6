use Rattle.std.proofs.Common.{◌≡◌, ◌∙◌, ◌+◌, [], ◌∷◌, ◌++◌, take, take_all, sym, ap}
use Rattle.std.proofs.lemmas.List.{length-map, map-append, take_more}
use Rattle.irl_offer.specs.Tuple.{Tuple}
use Rattle.irl_model.specs.Judging.{KeyMap, after, entered}
use Rattle.irl_model.proofs.JudgingLaws.{length-judged_on, after-more, judged_on-more, judgements-judged_on}
use Rattle.irl_model.proofs.key_set.KeySet.ask_all.Goals as goal

pub loop-offer-preserved : goal.loop-offer-preserved
loop-offer-preserved c =
    let rule = c.args.rule in
    let first = c.args.self.now in
    let offers = c.args.offers.now in
    let before = take c.loop-offer.offer-index offers in
    let x = c.offer-item.result in
    let more : take (c.loop-offer.offer-index + 1) offers ≡ before ++ x ∷ [] =
    take_more offers c.loop-offer.offer-index x c.loop-offer-test.true ∙ ap (λ (y : Tuple). before ++ y ∷ []) (sym c.offer-item.is) in
    record {
      seen = c.in_ok-ask.ensures.ok ∙ ap (λ (m : KeyMap). entered rule m x) c.loop-offer.invariant.seen ∙ sym (after-more rule first before x) ∙ ap (after rule first) (sym more);
      told = rw (more, judged_on-more rule first before x, map-append, ← c.loop-offer.invariant.told, ← c.loop-offer.invariant.seen, ← c.in_ok-ask.ensures.verdict) c.in_ok-push.ensures.items;
    }

pub returns : goal.returns
returns c =
    let all : take c.loop-offer.offer-index c.args.offers.now ≡ c.args.offers.now = take_all _ _ c.loop-offer-test.false in
    record {
      verdicts = rw (judgements-judged_on c.args.rule c.args.self.now c.args.offers.now) (rw all at c.loop-offer.invariant.told);
      count = rw (c.loop-offer.invariant.told, all) (length-map _ _ ∙ length-judged_on c.args.rule c.args.self.now c.args.offers.now);
      ok = rw all at c.loop-offer.invariant.seen;
    }
