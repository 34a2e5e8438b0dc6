use Rattle.std.proofs.Common.{[], ◌∷◌, Ok, refl}
use Rattle.irl_schedule.specs.Schedule.{none_more}
use Rattle.irl_ledger.specs.Running.{nowhere}
use Rattle.irl_ledger.proofs.Handing.{feeding_both, feeding_ok, prefix_all}
use Rattle.irl_ledger.proofs.feeding.hand_in.Goals as goal

pub put-requires-clause-long : goal.put-requires-clause-long
put-requires-clause-long g c = let goes = c.in_ok-before_offer.ensures.feeds.goes_on in goes.long (goes.sound (λ failed. let no : ⊥ = cc in absurd no))

pub returns : goal.returns
returns g c =
    let told = g.S.Store.told in
    let old = c.args.bay.now in
    let mid = c.before_offer.new.bay in
    let s = told c.args.store.now in
    let t = told c.before_offer.new.store in
    let news = c.args.offer ∷ [] in
    let first = feeding_ok c.before_offer.result _ (tt {0}) nowhere 0 none_more [] c.args.arrays.now c.before_offer.new.arrays old mid s t c.in_ok-before_offer.was c.before_offer.ensures.feeds in
    record {
      news = news;
      front = prefix_all news;
      all = refl;
      feeding = feeding_both (tt {0}) (Ok (tt {0})) nowhere 0 none_more [] news c.args.arrays.now c.before_offer.new.arrays c.put.new.arrays old mid mid s t t
          (g.met.S.Store.is_consistent c.before_offer.new.store) first c.put.ensures;
    }
