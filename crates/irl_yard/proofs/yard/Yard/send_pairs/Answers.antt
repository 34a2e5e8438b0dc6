use Rattle.std.proofs.Common.{◌∙◌, Result, Err, refl, sym, ap, subst}
use Rattle.std.proofs.lemmas.Result.{err_from_is_err_and}
use Rattle.irl_base.specs.declared.fault.Fault.{Fault}
use Rattle.irl_yard.specs.Sending.{OffersState, SendsPairs}
use Rattle.irl_yard.proofs.SentWhole.{offers_alone, sends_whole, sent_again, told_alone}
use Rattle.irl_yard.proofs.yard.Yard.send_pairs.Goals as goal

pub returns-in_err-offer_pairs-clause-sends : goal.returns-in_err-offer_pairs-clause-sends
returns-in_err-offer_pairs-clause-sends g c =
    let tells = g.S.Store.told in
    let was = c.args.self.now in
    let next = c.offer_pairs.new.self in
    let out = err_from_is_err_and c.from_residual.result c.from_residual.ensures.1 in
    let is = out.1 ∙ ap (λ e. Err e) out.2 in
    offers_alone c.from_residual.result _ was.parts next.parts (tells was.store) (tells next.store) is
    (subst (λ (r : Result Unit Fault). OffersState r was.parts next.parts (tells was.store) (tells next.store)) (c.in_err-offer_pairs.was ∙ sym is) c.offer_pairs.ensures.offers)
    c.offer_pairs.ensures.begun

pub returns-in_err-tell_pairs-clause-sends : goal.returns-in_err-tell_pairs-clause-sends
returns-in_err-tell_pairs-clause-sends g c =
    let tells = g.S.Store.told in
    let was = c.args.self.now in
    let mid = c.offer_pairs.new.self in
    let next = c.tell_pairs.new.self in
    let out = err_from_is_err_and c.from_residual-in_err-tell_pairs.result c.from_residual-in_err-tell_pairs.ensures.1 in
    let is = out.1 ∙ ap (λ e. Err e) out.2 in
    subst (λ (r : Result Unit Fault). SendsPairs r was.parts next.parts (tells was.store) (tells next.store)) (c.in_err-tell_pairs.was ∙ sym is)
    (told_alone c.offer_pairs.result c.tell_pairs.result _ was.parts mid.parts next.parts (tells was.store) (tells mid.store) (tells next.store) c.offer_pairs.ensures.goes_on.drum
    c.tell_pairs.ensures.goes_on.drum (g.met.S.Store.is_consistent mid.store) (g.met.S.Store.is_consistent next.store)
    c.in_ok-offer_pairs.was c.offer_pairs.ensures.offers c.offer_pairs.ensures.begun was.rest_is mid.rest_is
    c.tell_pairs.ensures.tells c.tell_pairs.ensures.begun _ c.in_err-tell_pairs.was)

pub returns-clause-sends : goal.returns-clause-sends
returns-clause-sends g c =
    let tells = g.S.Store.told in
    let was = c.args.self.now in
    let mid = c.offer_pairs.new.self in
    let next = c.tell_pairs.new.self in
    let last = c.log_pairs.new.self in
    sends_whole c.offer_pairs.result c.tell_pairs.result _ was.parts mid.parts next.parts (tells was.store) (tells mid.store) (tells next.store) c.offer_pairs.ensures.goes_on.drum
    c.tell_pairs.ensures.goes_on.drum (g.met.S.Store.is_consistent mid.store) (g.met.S.Store.is_consistent next.store)
    c.in_ok-offer_pairs.was c.offer_pairs.ensures.offers c.offer_pairs.ensures.begun was.rest_is mid.rest_is
    c.tell_pairs.ensures.tells c.tell_pairs.ensures.begun tells c.log_pairs.result last.parts next.store last.store (g.met.S.Store.is_consistent last.store) refl _ c.in_ok-tell_pairs.was
    c.log_pairs.ensures.logs c.log_pairs.ensures.begun

pub returns-in_err-offer_pairs-clause-idle : goal.returns-in_err-offer_pairs-clause-idle
returns-in_err-offer_pairs-clause-idle g c =
    let was = c.args.self.now in
    let last = c.offer_pairs.new.self in
    sent_again c.from_residual.result was.parts last.parts (g.S.Store.told was.store) (g.S.Store.told last.store) was.rest_is c.requires.begun (returns-in_err-offer_pairs-clause-sends g c)

pub returns-in_err-tell_pairs-clause-idle : goal.returns-in_err-tell_pairs-clause-idle
returns-in_err-tell_pairs-clause-idle g c =
    let was = c.args.self.now in
    let last = c.tell_pairs.new.self in
    sent_again c.from_residual-in_err-tell_pairs.result was.parts last.parts (g.S.Store.told was.store) (g.S.Store.told last.store) was.rest_is c.requires.begun
    (returns-in_err-tell_pairs-clause-sends g c)

pub returns-clause-idle : goal.returns-clause-idle
returns-clause-idle g c =
    let was = c.args.self.now in
    let last = c.log_pairs.new.self in
    sent_again c.log_pairs.result was.parts last.parts (g.S.Store.told was.store) (g.S.Store.told last.store) was.rest_is c.requires.begun (returns-clause-sends g c)
