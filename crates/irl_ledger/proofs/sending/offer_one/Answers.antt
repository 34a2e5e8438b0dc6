use Rattle.std.proofs.Common.{◌≡◌, ◌∙◌, List, [], ◌∷◌, Ok, Err, refl, sym, ap, subst, arith}
use Rattle.std.proofs.lemmas.Result.{err_from_is_err_and}
use Rattle.irl_offer.specs.Tuple.{Tuple}
use Rattle.irl_base.specs.declared.fault.Fault.TheVariants.{Damaged, Failed, Full}
use Rattle.irl_bay.specs.JudgedParts.{as_judged}
use Rattle.irl_ledger.specs.Running.{HandsIn, nowhere}
use Rattle.irl_ledger.specs.Sending.{IsStrangeIn, links_of, option_items}
use Rattle.irl_ledger.proofs.Handing.{hands_none, hands_nothing, hands_wider}
use Rattle.irl_ledger.proofs.Links.{same_answer}
use Rattle.irl_ledger.proofs.sending.offer_one.Goals as goal

pub returns-in_err-link : goal.returns-in_err-link
returns-in_err-link g c =
    let one = as_judged c.args.one.now in
    let out = err_from_is_err_and c.from_residual.result c.from_residual.ensures.1 in
    let is = out.1 ∙ ap (λ e. Err e) out.2 in
    hands_nothing c.from_residual.result _ (IsStrangeIn c.args.number (one ∷ [])) (links_of c.args.suffixes.now (one ∷ [])) c.args.arrays.now c.args.pairs.now (g.S.Store.told c.args.store.now) is
    (g.met.S.Store.is_consistent c.args.store.now) c.is_sound-is_sound.ensures.drum c.requires.arrays c.requires.sound c.requires.long
    (λ failed. c.link_of.ensures.failed (same_answer c.link_of.result c.from_residual.result _ Failed c.in_err-link.was is failed))
    (λ n full. c.link_of.ensures.full n (same_answer c.link_of.result c.from_residual.result _ (Full n) c.in_err-link.was is full))
    (λ f at damaged.
    let why = c.link_of.ensures.damaged f at (same_answer c.link_of.result c.from_residual.result _ (Damaged f at) c.in_err-link.was is damaged) in
    record { file = why.0; i = 0; one = one; found_at = refl; place = omega (arith, why.1); strange = why.2 })

pub returns-in-Some : goal.returns-in-Some
returns-in-Some g c =
    let told = g.S.Store.told in
    let one = as_judged c.args.one.now in
    let elsewhere = IsStrangeIn c.args.number (one ∷ []) in
    let same : links_of c.args.suffixes.now (one ∷ []) ≡ c.in-Some.link ∷ [] = sym c.in_ok-link.ensures.value ∙ ap option_items c.in-Some.is in
    subst (λ (l : List Tuple). HandsIn c.hand_in.result elsewhere l c.args.arrays.now c.hand_in.new.arrays c.args.pairs.now c.hand_in.new.bay (told c.args.store.now) (told c.hand_in.new.store))
    (sym same) (hands_wider c.hand_in.result nowhere elsewhere (c.in-Some.link ∷ []) c.args.arrays.now c.hand_in.new.arrays c.args.pairs.now c.hand_in.new.bay (told c.args.store.now)
    (told c.hand_in.new.store) (λ f at no. absurd no) c.hand_in.ensures)

pub returns-in-None : goal.returns-in-None
returns-in-None g c =
    let told = g.S.Store.told in
    let one = as_judged c.args.one.now in
    let elsewhere = IsStrangeIn c.args.number (one ∷ []) in
    let same : links_of c.args.suffixes.now (one ∷ []) ≡ [] = sym c.in_ok-link.ensures.value ∙ ap option_items c.in-None.is in
    subst (λ (l : List Tuple). HandsIn (Ok (tt {0})) elsewhere l c.args.arrays.now c.args.arrays.now c.args.pairs.now c.args.pairs.now (told c.args.store.now) (told c.args.store.now)) (sym same)
    (hands_none elsewhere c.args.arrays.now c.args.pairs.now (told c.args.store.now) (g.met.S.Store.is_consistent c.args.store.now) c.is_sound-is_sound.ensures.drum c.requires.arrays c.requires.sound
    c.requires.long)
