use Rattle.std.proofs.Common.{◌≡◌, ◌∙◌, ◌+◌, List, [], ◌∷◌, ◌++◌, take, drop, Ok, Err, sym, ap, subst, arith}
use Rattle.std.proofs.lemmas.Result.{err_from_is_err_and}
use Rattle.irl_offer.specs.Tuple.{Tuple}
use Rattle.irl_offer.specs.declared.receipt.Judged.{Judged}
use Rattle.irl_bay.specs.JudgedParts.{as_judged}
use Rattle.irl_ledger.specs.Running.{HandsIn}
use Rattle.irl_ledger.specs.Sending.{IsStrangeIn, links_of}
use Rattle.irl_ledger.proofs.Handing.{hands_both, hands_err, hands_more, hands_none, hands_ok, hands_wider}
use Rattle.irl_ledger.proofs.Links.{links_both, links_split, strange_part, take_all, take_next}
use Rattle.irl_ledger.proofs.sending.offer_part.Goals as goal

pub loop-i-init : goal.loop-i-init
loop-i-init g c =
    hands_none (IsStrangeIn c.args.from c.args.part.now) c.args.arrays.now c.args.pairs.now (g.S.Store.told c.args.store.now) (g.met.S.Store.is_consistent c.args.store.now)
    c.is_sound-is_sound.ensures.drum c.requires.arrays c.requires.sound c.requires.long

pub offer_one-requires-clause-sound : goal.offer_one-requires-clause-sound
offer_one-requires-clause-sound g c = c.loop-i.invariant.feeding.goes_on.sound (λ failed. let no : ⊥ = cc in absurd no)

pub offer_one-requires-clause-long : goal.offer_one-requires-clause-long
offer_one-requires-clause-long g c = let goes = c.loop-i.invariant.feeding.goes_on in goes.long (goes.sound (λ failed. let no : ⊥ = cc in absurd no))

pub offer_one-requires-clause-arrays : goal.offer_one-requires-clause-arrays
offer_one-requires-clause-arrays g c = c.loop-i.invariant.feeding.arrays

pub returns-in_err-offer_one : goal.returns-in_err-offer_one
returns-in_err-offer_one g c =
    let told = g.S.Store.told in
    let part = c.args.part.now in
    let i = c.loop-i.i in
    let one = as_judged c.get.result in
    let elsewhere = IsStrangeIn c.args.from part in
    let p = c.args.arrays.now in
    let r = c.offer_one.new.arrays in
    let x = c.args.pairs.now in
    let z = c.offer_one.new.pairs in
    let s = told c.args.store.now in
    let w = told c.offer_one.new.store in
    let xs = links_of c.args.suffixes.now (take i part) in
    let ys = links_of c.args.suffixes.now (one ∷ []) in
    let more = links_of c.args.suffixes.now (drop (i + 1) part) in
    let last = hands_wider c.offer_one.result (IsStrangeIn (c.args.from + i) (one ∷ [])) elsewhere ys c.loop-i.arrays r c.loop-i.pairs z (told c.loop-i.store) w
    (λ f at there. strange_part c.args.from i part one f at c.get.ensures there) c.offer_one.ensures in
    let both = hands_both (tt {0}) c.offer_one.result elsewhere xs ys p c.loop-i.arrays r x c.loop-i.pairs z s (told c.loop-i.store) w (g.met.S.Store.is_consistent c.loop-i.store) c.loop-i.invariant
    last in
    let out = err_from_is_err_and c.from_residual.result c.from_residual.ensures.1 in
    hands_err c.offer_one.result c.from_residual.result _ elsewhere (links_of c.args.suffixes.now part) p r x z s w c.in_err-offer_one.was (out.1 ∙ ap (λ e. Err e) out.2)
    (subst (λ (l : List Tuple). HandsIn c.offer_one.result elsewhere l p r x z s w) (sym (links_split c.args.suffixes.now part i one c.get.ensures))
    (hands_more c.offer_one.result _ elsewhere (xs ++ ys) more p r x z s w c.in_err-offer_one.was both))

pub loop-i-preserved : goal.loop-i-preserved
loop-i-preserved g c =
    let told = g.S.Store.told in
    let part = c.args.part.now in
    let i = c.loop-i.i in
    let one = as_judged c.get.result in
    let elsewhere = IsStrangeIn c.args.from part in
    let p = c.args.arrays.now in
    let r = c.offer_one.new.arrays in
    let x = c.args.pairs.now in
    let z = c.offer_one.new.pairs in
    let s = told c.args.store.now in
    let w = told c.offer_one.new.store in
    let xs = links_of c.args.suffixes.now (take i part) in
    let ys = links_of c.args.suffixes.now (one ∷ []) in
    let last = hands_wider (Ok (tt {0})) (IsStrangeIn (c.args.from + i) (one ∷ [])) elsewhere ys c.loop-i.arrays r c.loop-i.pairs z (told c.loop-i.store) w
    (λ f at there. strange_part c.args.from i part one f at c.get.ensures there)
    (hands_ok c.offer_one.result _ (tt {0}) (IsStrangeIn (c.args.from + i) (one ∷ [])) ys c.loop-i.arrays r c.loop-i.pairs z (told c.loop-i.store) w c.in_ok-offer_one.was c.offer_one.ensures) in
    let both = hands_both (tt {0}) (Ok (tt {0})) elsewhere xs ys p c.loop-i.arrays r x c.loop-i.pairs z s (told c.loop-i.store) w (g.met.S.Store.is_consistent c.loop-i.store) c.loop-i.invariant
    last in
    let same : xs ++ ys ≡ links_of c.args.suffixes.now (take (i + 1) part) =
    sym (ap (links_of c.args.suffixes.now) (take_next part i one c.get.ensures) ∙ links_both c.args.suffixes.now (take i part) (one ∷ [])) in
    subst (λ (l : List Tuple). HandsIn (Ok (tt {0})) elsewhere l p r x z s w) same both

pub returns : goal.returns
returns g c =
    let told = g.S.Store.told in
    let part = c.args.part.now in
    let all : take c.loop-i.i part ≡ part = take_all c.loop-i.i part (omega (arith, c.loop-i-test.false, c.len-i-end.ensures)) in
    subst (λ (l : List Judged). HandsIn (Ok (tt {0})) (IsStrangeIn c.args.from part) (links_of c.args.suffixes.now l) c.args.arrays.now c.loop-i.arrays c.args.pairs.now c.loop-i.pairs
    (told c.args.store.now) (told c.loop-i.store)) all c.loop-i.invariant
