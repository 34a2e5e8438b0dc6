use Rattle.std.proofs.Common.{◌≡◌, ◌∙◌, [], Result, Err, OnOk, refl, sym, ap, subst}
use Rattle.std.specs.Option.{ForSome}
use Rattle.std.proofs.lemmas.Bool.{false≢true}
use Rattle.std.proofs.lemmas.Result.{err_from_is_err_and}
use Rattle.irl_base.specs.declared.fault.Fault.{Fault}
use Rattle.irl_base.specs.declared.fault.Fault.TheVariants.{Damaged}
use Rattle.irl_events.specs.Events.{Event, Pairs}
use Rattle.irl_events.specs.Seen.{seen}
use Rattle.irl_bay.specs.Drum.{Drum}
use Rattle.irl_bay.specs.Holding.{IsLong}
use Rattle.irl_ledger.specs.declared.ledger.Ledger.{Ledger}
use Rattle.irl_ledger.specs.Redoing.{Redoes, RedoesBy, RedoesOther}
use Rattle.irl_ledger.specs.Opening.{IsCounted}
use Rattle.irl_ledger.proofs.Opening.{named_by, next_books, other_refused, redoes_by, when_ok}
use Rattle.irl_ledger.proofs.RedonePairs.{pairs_done, pairs_known}
use Rattle.irl_ledger.proofs.ledger.Ledger.redo_pairs.Goals as goal

pub returns-then-not-have : goal.returns-then-not-have
returns-then-not-have g c =
    let s = g.S.Store.told c.args.store.now in
    let urls = c.args.urls.now in
    let old = c.args.self.now in
    let event : Event = Pairs c.args.sent.0 c.args.sent.1 c.args.sent.2 in
    subst (λ (e : Event). RedoesBy c.args.counts.now (Err (Damaged 1 c.args.at)) c.args.at e urls old old s s) (sym c.requires.is)
    (named_by c.args.at event urls old s (g.met.S.Store.is_consistent c.args.store.now) c.args.counts.now
    ([], refl, λ legal fits. false≢true (sym c.if-not-have.true ∙ c.have.ensures.known fits.2.0 fits.2.1 fits.2.2 fits.1.0 fits.1.1 fits.0))
    (λ settings u p first more places next is.
    let known = pairs_known s urls old c.args.counts.now c.args.sent.0 c.args.sent.1 c.args.sent.2 settings u p first more places next is in
    false≢true (sym c.if-not-have.true
    ∙ c.have.ensures.known known.cuts_within known.judged_within known.pairs_within known.at_cut known.at_pairs known.rising)))

pub returns-in_err-redo_other : goal.returns-in_err-redo_other
returns-in_err-redo_other g c =
    let s = g.S.Store.told c.args.store.now in
    let urls = c.args.urls.now in
    let old = c.args.self.now in
    let new = c.redo_other.new.self in
    let event : Event = Pairs c.args.sent.0 c.args.sent.1 c.args.sent.2 in
    let out = err_from_is_err_and c.from_residual.result c.from_residual.ensures.1 in
    let fault = c.in_err-redo_other.field-0.0 in
    let is : c.from_residual.result ≡ Err fault = out.1 ∙ ap (λ e. Err e) out.2 in
    let other = subst (λ (r : Result Unit Fault). RedoesOther r c.args.at event old new) (c.in_err-redo_other.was)
    (subst (λ (e : Event). RedoesOther c.redo_other.result c.args.at e old new) c.requires.is c.redo_other.ensures) in
    redoes_by c.args.counts.now c.from_residual.result c.args.at (seen c.args.event.now) urls old new s s
    (subst (λ (r : Result Unit Fault). OnOk r (IsCounted c.args.counts.now.urls.items c.args.counts.now.pairs.items (seen c.args.event.now))) (sym is) tt)
    (subst (λ (r : Result Unit Fault). Redoes r c.args.at (seen c.args.event.now) urls old new s s) (sym is)
    (subst (λ (e : Event). Redoes (Err fault) c.args.at e urls old new s s) (sym c.requires.is)
    (other_refused c.args.at event urls old s (g.met.S.Store.is_consistent c.args.store.now) fault new other refl
    (λ settings u p first more places next. (next_books s urls old settings u p first more event places next).1))))

pub tell_pairs_to-requires-clause-long : goal.tell_pairs_to-requires-clause-long
tell_pairs_to-requires-clause-long g c =
    let old = c.args.self.now in
    let mid = c.redo_other.new.self in
    let other = subst (λ (r : Result Unit Fault). RedoesOther r c.args.at (seen c.args.event.now) old mid) c.in_ok-redo_other.was c.redo_other.ensures in
    subst (λ (d : Drum). ForSome (g.S.Store.told c.args.store.now).files (λ f. IsLong d f)) (sym (ap (λ (l : Ledger). l.pairs) other.done)) c.requires.may.pairs_long

pub returns : goal.returns
returns g c =
    let s = g.S.Store.told c.args.store.now in
    let t = g.S.Store.told c.tell_pairs_to.new.store in
    let urls = c.args.urls.now in
    let old = c.args.self.now in
    let mid = c.redo_other.new.self in
    let event : Event = Pairs c.args.sent.0 c.args.sent.1 c.args.sent.2 in
    let other = subst (λ (r : Result Unit Fault). RedoesOther r c.args.at event old mid) c.in_ok-redo_other.was
    (subst (λ (e : Event). RedoesOther c.redo_other.result c.args.at e old mid) c.requires.is c.redo_other.ensures) in
    redoes_by c.args.counts.now c.tell_pairs_to.result c.args.at (seen c.args.event.now) urls old c.tell_pairs_to.new.self s t
    (when_ok c.tell_pairs_to.result _ (subst (IsCounted c.args.counts.now.urls.items c.args.counts.now.pairs.items) (sym c.requires.is) (c.have.ensures.has c.if-not-have.false)))
    (subst (λ (e : Event). Redoes c.tell_pairs_to.result c.args.at e urls old c.tell_pairs_to.new.self s t) (sym c.requires.is)
    (pairs_done c.args.at c.args.sent.0 c.args.sent.1 c.args.sent.2 urls old mid s t c.requires.may.redone other.legal (c.have.ensures.within c.if-not-have.false) other.done
    c.tell_pairs_to.result c.tell_pairs_to.new.self c.tell_pairs_to.ensures.tells c.tell_pairs_to.ensures.all))
