use Rattle.std.proofs.Common.{◌≡◌, ◌∙◌, ◌++◌, ◌∷◌, [], ℕ, List, map, ap, sym, Option}
use Rattle.std.specs.FinMap.{empty, get}
use Rattle.std.proofs.lemmas.List.{map-append, map-id}
use Rattle.std.proofs.lemmas.Iterator.Consumers.{YieldsList-end}
use Rattle.std.proofs.lemmas.Iterator.Adapters.{YieldsList-from_vec}
use Rattle.irl_offer.specs.declared.offer.Verdict.{Verdict}
use Rattle.irl_offer.specs.declared.receipt.Judged.{Judged}
use Rattle.irl_offer.specs.Tuple.{Tuple}
use Rattle.irl_offer.specs.Buckets.{bucket_of}
use Rattle.irl_model.specs.Judging.{KeyMap, after, answer, entered}
use Rattle.irl_model.specs.Book.{judged_as, judged_offers}
use Rattle.irl_base.specs.Lists.{items_of}
use Rattle.irl_model.specs.Plain.{whole_book}
use Rattle.irl_model.proofs.JudgingLaws.{judged_on, after-more, judged_on-more, judgements-judged_on}
use Rattle.irl_model.proofs.plain.judged.Goals as goal

-- a judged offer, put together from its parts
told_as : (buckets bucket : ℕ) (x : Tuple) (verdict told : Option Verdict) → bucket ≡ bucket_of buckets x.key → verdict ≡ told
    → ◌≡◌ {A = Judged} (record { bucket = bucket; offer = x; verdict = verdict }) (judged_as buckets (x, told))
told_as buckets bucket x verdict told b v = ap (λ (n : ℕ). record { bucket = n; offer = x; verdict = verdict }) b ∙ ap (λ (w : Option Verdict). judged_as buckets (x, w)) v

pub loop-offer-preserved : goal.loop-offer-preserved
loop-offer-preserved c =
    let rule = c.args.rule in
    let before : List Tuple = c.loop-offer.yielded in
    let x : Tuple = c.in-Some.offer in
    let as_told : Tuple × Option Verdict → Judged = judged_as c.args.buckets in
    let told : Option Verdict = answer x.op (get (after rule empty before) x.key) in
    let so_far = judged_on rule empty before in
    let one : Judged = record { bucket = c.bucket_of-bucket.result; offer = x; verdict = c.in_ok-verdict.verdict } in
    let one_is : one ≡ as_told (x, told) =
    told_as c.args.buckets c.bucket_of-bucket.result x c.in_ok-verdict.verdict told
    (c.bucket_of-bucket.ensures.value ∙ ap (λ (o : Tuple). bucket_of c.args.buckets o.key) c.offer.view_is)
    (c.in_ok-verdict.ensures.verdict ∙ ap (λ (m : KeyMap). answer x.op (get m x.key)) c.loop-offer.invariant.seen) in
    record {
      seen = c.in_ok-verdict.ensures.ok ∙ ap (λ (m : KeyMap). entered rule m x) c.loop-offer.invariant.seen ∙ sym (after-more rule empty before x);
      told = c.in_ok-push.ensures.items ∙ ap (λ (js : List Judged). js ++ one ∷ []) c.loop-offer.invariant.told ∙ ap (λ (j : Judged). map as_told so_far ++ j ∷ []) one_is
          ∙ sym (map-append as_told so_far ((x, told) ∷ [])) ∙ ap (map as_told) (sym (judged_on-more rule empty before x));
    }

pub returns : goal.returns
returns c =
    let rule = c.args.rule in
    let offers : List Tuple = judged_offers (whole_book c.args.buckets rule (items_of c.args.lists.now) (items_of c.args.cuts.now)) in
    let gives = c.into_iter-offer-iterator.ensures.into_iter_gives in
    let road = YieldsList-from_vec {s = c.into_iter-offer-iterator.result} c.in_ok-offer-items.offer-items.items gives.0 (gives.1 ∙ c.in_ok-offer-items.offer-items.ok.0) in
    let end = YieldsList-end road c.loop-offer.yielded c.loop-offer.offer-iterator c.loop-offer.yielded_by c.next.result c.next.new.self c.in-None.is c.next.ensures.steps in
    let all : c.loop-offer.yielded ≡ offers = sym (map-id c.loop-offer.yielded) ∙ end.0 ∙ c.in_ok-offer-items.ensures rule in
    c.loop-offer.invariant.told ∙ ap (λ (os : List Tuple). map (judged_as c.args.buckets) (judged_on rule empty os)) all
    ∙ ap (map (judged_as c.args.buckets)) (sym (judgements-judged_on rule empty offers))
