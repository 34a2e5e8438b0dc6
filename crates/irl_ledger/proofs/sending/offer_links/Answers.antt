use Rattle.std.proofs.Common.{◌≡◌, ◌∙◌, Err, ap}
use Rattle.std.proofs.lemmas.Result.{err_from_is_err_and}
use Rattle.irl_base.specs.declared.fault.Fault.TheVariants.{Memory}
use Rattle.irl_ledger.proofs.LinksOffered.{offers_nothing}
use Rattle.irl_ledger.proofs.sending.offer_links.Goals as goal

pub returns-in_err-arrays : goal.returns-in_err-arrays
returns-in_err-arrays g c =
    let out = err_from_is_err_and c.from_residual.result c.from_residual.ensures.1 in
    let is : c.from_residual.result ≡ Err Memory = out.1 ∙ ap (λ e. Err e) out.2 in
    offers_nothing c.from_residual.result c.args.suffixes.now c.args.from c.args.urls.now c.args.pairs.now (g.S.Store.told c.args.store.now) is (g.met.S.Store.is_consistent c.args.store.now)
    c.is_sound-is_sound.ensures.drum c.requires.sound c.requires.long
