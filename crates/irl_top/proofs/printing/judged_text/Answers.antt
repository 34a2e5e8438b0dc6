use Rattle.std.proofs.Common.{◌≡◌, ◌∙◌, ◌+◌, ◌<◌, ◌++◌, List, [], ◌∷◌, ℕ, suc, length, take, append-nil, sym, ap, arith}
use Rattle.std.proofs.Math.Seq.{take-suc}
use Rattle.std.proofs.lemmas.List.Concat.{flat_map-cons}
use Rattle.std.proofs.lemmas.Option.{get_or_from_slice_get, slice_get_within}
use Rattle.irl_offer.specs.declared.receipt.Judged.{Judged}
use Rattle.irl_bay.specs.JudgedParts.{as_judged}
use Rattle.irl_top.specs.Printed.{judged_line, judged_lines}
use Rattle.irl_top.proofs.Unprinted.{lines-append}
use Rattle.irl_top.proofs.printing.judged_text.Goals as goal

pub loop-i-preserved : goal.loop-i-preserved
loop-i-preserved c =
    let kind = c.args.kind in
    let judged = c.args.judged.now in
    let i = c.loop-i.i in
    let one = as_judged c.get.result in
    let within : i < length judged = slice_get_within judged i one c.get.ensures in
    let more : i + 1 ≡ suc i = omega arith in
    let next : take (i + 1) judged ≡ take i judged ++ one ∷ [] =
    ap (λ (n : ℕ). take n judged) more ∙ take-suc judged i one within ∙ ap (λ (last : Judged). take i judged ++ last ∷ []) (get_or_from_slice_get judged i one one c.get.ensures) in
    let line : judged_lines kind (one ∷ []) ≡ judged_line kind one = flat_map-cons (judged_line kind) one [] ∙ append-nil (judged_line kind one) in
    c.in_ok-push_judged.ensures
    ∙ ap (λ (text : List ℕ). text ++ judged_line kind one) c.loop-i.invariant
    ∙ ap (λ (text : List ℕ). judged_lines kind (take i judged) ++ text) (sym line)
    ∙ sym (lines-append kind (take i judged) (one ∷ []))
    ∙ ap (judged_lines kind) (sym next)
