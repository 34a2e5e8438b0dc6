use Rattle.std.proofs.Common.{◌∙◌, inl, inr, ⊎_elim, Err, refl, take, arith}
use Rattle.std.proofs.lemmas.Result.{err_from_is_err_and}
use Rattle.irl_desk.specs.Serving.{serving_of}
use Rattle.irl_crawl.proofs.Lifting.{last_named}
use Rattle.irl_crawl.proofs.Seeding.{offered_next, offered_same, offers_stop}
use Rattle.irl_crawl.proofs.seeds.offer_seeds.Goals as goal

pub returns-in_err-offer_of : goal.returns-in_err-offer_of
returns-in_err-offer_of g c =
    let out = err_from_is_err_and c.from_residual.result c.from_residual.ensures.1 in
    offers_stop g.S.Store.told c.from_residual.result out.0 c.loop-web.web-index c.args.seeds.now (serving_of c.args.desk.now) (serving_of c.loop-web.desk) out.1 c.loop-web.invariant.done (inl out.2)

pub returns-in-Err : goal.returns-in-Err
returns-in-Err g c =
    let old = serving_of c.args.desk.now in
    let mid = serving_of c.loop-web.desk in
    let now = serving_of c.offer.new.self in
    let one = offered_same g.S.Store.told g.met.S.Store.is_consistent (take c.loop-web.web-index c.args.seeds.now) old mid now c.loop-web.invariant.done c.in-Err.ensures.serves in
    offers_stop g.S.Store.told (Err c.in-Err.fault) c.in-Err.fault c.loop-web.web-index c.args.seeds.now old now refl one
    (⊎_elim (λ memory. inl memory) (λ last. inr (c.in-Err.ensures.fault ∙ last)) (last_named mid.last c.in-Err.fault))

pub loop-web-preserved : goal.loop-web-preserved
loop-web-preserved g c =
    let old = serving_of c.args.desk.now in
    let mid = serving_of c.loop-web.desk in
    let now = serving_of c.offer.new.self in
    record {
      done = offered_next g.S.Store.told g.met.S.Store.is_consistent c.args.seeds.now c.loop-web.web-index c.web-item.result c.in_default.field-0 c.in_ok-offer_of.field-0 old mid now (omega arith)
          c.web-item.is
          c.loop-web.invariant.done c.in_default.ensures.serves c.in_ok-offer_of.ensures.is;
      takes = λ offer page. (c.offer.ensures.takes offer).1 (c.loop-web.invariant.takes offer page);
    }
