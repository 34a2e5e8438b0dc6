use Rattle.std.proofs.Common.{◌∙◌, [], ◌∷◌, ◌++◌, Option, Err, refl, ap, subst}
use Rattle.std.proofs.lemmas.Result.{err_from_is_err_and}
use Rattle.irl_offer.specs.Offering.{fault_or}
use Rattle.irl_offer.specs.Tuple.{Tuple}
use Rattle.irl_answer.specs.Found.{GivesFirst}
use Rattle.irl_fetch.specs.Telling.{offering}
use Rattle.irl_fetch.proofs.Paging.{offered_more, offered_same, offers_stop, memory_kept}
use Rattle.irl_fetch.proofs.pages.offer_all.Goals as goal

pub loop-receipts-preserved : goal.loop-receipts-preserved
loop-receipts-preserved g c =
    let o = offering g.O.Offers.entries g.O.Offers.last_fault g.O.Offers.takes g.O.Offers.follows c.args.sink.now in
    let p = offering g.O.Offers.entries g.O.Offers.last_fault g.O.Offers.takes g.O.Offers.follows c.loop-receipts.sink in
    let q = offering g.O.Offers.entries g.O.Offers.last_fault g.O.Offers.takes g.O.Offers.follows c.offer.new.self in
    let first = subst (λ (one : Option Tuple). GivesFirst c.loop-receipts.found one c.next.new.self) c.in-Some.is c.in_ok-offer.ensures.ok in
    record {
      far = offered_more c.args.found.now c.loop-receipts.found c.next.new.self c.in-Some.offer c.loop-receipts.receipts c.push.new.self c.in-Ok.receipt o p q c.loop-receipts.invariant.far first
          c.in-Ok.ensures.entries c.offer.ensures.takes (λ value did. g.met.O.Offers.follows_both value c.loop-receipts.sink c.offer.new.self did c.offer.ensures.follows)
          c.in_ok-push-in-Ok.ensures.ok;
      calm = c.in-Ok.ensures.fault ∙ c.loop-receipts.invariant.calm;
    }

pub returns-in_err-push-in-Ok : goal.returns-in_err-push-in-Ok
returns-in_err-push-in-Ok g c =
    let o = offering g.O.Offers.entries g.O.Offers.last_fault g.O.Offers.takes g.O.Offers.follows c.args.sink.now in
    let p = offering g.O.Offers.entries g.O.Offers.last_fault g.O.Offers.takes g.O.Offers.follows c.loop-receipts.sink in
    let q = offering g.O.Offers.entries g.O.Offers.last_fault g.O.Offers.takes g.O.Offers.follows c.offer.new.self in
    let first = subst (λ (one : Option Tuple). GivesFirst c.loop-receipts.found one c.next.new.self) c.in-Some.is c.in_ok-offer.ensures.ok in
    let receipts = c.loop-receipts.receipts ++ c.in-Ok.receipt ∷ [] in
    let far = offered_more c.args.found.now c.loop-receipts.found c.next.new.self c.in-Some.offer c.loop-receipts.receipts receipts c.in-Ok.receipt o p q c.loop-receipts.invariant.far first
    c.in-Ok.ensures.entries c.offer.ensures.takes (λ value did. g.met.O.Offers.follows_both value c.loop-receipts.sink c.offer.new.self did c.offer.ensures.follows) refl in
    let out = err_from_is_err_and c.from_residual-in_err-push-in-Ok.result c.from_residual-in_err-push-in-Ok.ensures.1 in
    offers_stop c.from_residual-in_err-push-in-Ok.result out.0 c.args.found.now c.next.new.self receipts o q out.1 far
    (memory_kept o.last_fault q.last_fault out.0 out.2 (c.in-Ok.ensures.fault ∙ c.loop-receipts.invariant.calm))

pub returns-in-Err : goal.returns-in-Err
returns-in-Err g c =
    let o = offering g.O.Offers.entries g.O.Offers.last_fault g.O.Offers.takes g.O.Offers.follows c.args.sink.now in
    let p = offering g.O.Offers.entries g.O.Offers.last_fault g.O.Offers.takes g.O.Offers.follows c.loop-receipts.sink in
    let q = offering g.O.Offers.entries g.O.Offers.last_fault g.O.Offers.takes g.O.Offers.follows c.offer.new.self in
    let far = offered_same c.args.found.now c.loop-receipts.found c.loop-receipts.found c.loop-receipts.receipts o p q c.loop-receipts.invariant.far refl c.in-Err.ensures.entries c.offer.ensures.takes
    (λ value did. g.met.O.Offers.follows_both value c.loop-receipts.sink c.offer.new.self did c.offer.ensures.follows) in
    offers_stop (Err c.in-Err.fault) c.in-Err.fault c.args.found.now c.loop-receipts.found c.loop-receipts.receipts o q refl far
    (c.in-Err.ensures.fault ∙ ap (λ last. fault_or last c.in-Err.fault) c.loop-receipts.invariant.calm)
