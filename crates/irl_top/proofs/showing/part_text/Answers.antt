use Rattle.std.proofs.Common.{◌≡◌, ◌∙◌, ◌+◌, ◌++◌, List, [], ◌∷◌, ℕ, suc, length, take, sym, ap, arith}
use Rattle.std.proofs.Math.Seq.{take-suc}
use Rattle.std.proofs.lemmas.List.{length-take-le}
use Rattle.std.proofs.lemmas.Option.{get_or_from_slice_get, slice_get_within}
use Rattle.irl_offer.specs.declared.receipt.Judged.{Judged}
use Rattle.irl_bay.specs.JudgedParts.{as_judged}
use Rattle.irl_top.proofs.Listed.{lines_from, lines_both}
use Rattle.irl_top.proofs.showing.part_text.Goals as goal

pub loop-i-preserved : goal.loop-i-preserved
loop-i-preserved g c = λ state holds.
    let settings = c.args.yard.now.parts.urls.settings in
    let judged = c.args.judged.now in
    let first = c.args.first in
    let i = c.loop-i.i in
    let one = as_judged c.get.result in
    let within = slice_get_within judged i one c.get.ensures in
    let more : i + 1 ≡ suc i = omega arith in
    let next : take (i + 1) judged ≡ take i judged ++ one ∷ [] =
    ap (λ (n : ℕ). take n judged) more ∙ take-suc judged i one within ∙ ap (λ (last : Judged). take i judged ++ last ∷ []) (get_or_from_slice_get judged i one one c.get.ensures) in
    let long : first + length (take i judged) ≡ first + i = omega (arith, length-take-le i judged (omega (arith, within))) in
    c.in_ok-push_url.ensures state holds
    ∙ ap (λ (text : List ℕ). text ++ lines_from settings state (first + i) (one ∷ [])) (c.loop-i.invariant state holds)
    ∙ ap (λ (n : ℕ). lines_from settings state first (take i judged) ++ lines_from settings state n (one ∷ [])) (sym long)
    ∙ sym (lines_both settings state first (take i judged) (one ∷ []))
    ∙ ap (lines_from settings state first) (sym next)
