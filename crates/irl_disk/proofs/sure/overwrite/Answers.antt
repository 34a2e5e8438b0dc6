use Rattle.std.proofs.Common.{◌≡◌, ◌+◌, ◌-◌, ◌++◌, ℕ, List, ap, ◌∙◌, length, take, drop, arith}
use Rattle.std.proofs.lemmas.List.{drop-drop}
use Rattle.irl_disk.proofs.Pieces.{before, file_overwritten}
use Rattle.irl_disk.proofs.sure.overwrite.Goals as goal

pub returns : goal.returns
returns c =
    let bs = c.args.bytes.now in
    let new = c.args.new.now in
    let start = c.start_of.result + c.args.at in
    let count : start + (start + length new - start) ≡ before c.args.f c.args.lengths.now + c.args.at + length new = omega arith in
    file_overwritten c.args.lengths.now c.args.f bs c.args.at new _ c.requires.file c.requires.fits c.requires.within
    (ap (λ (xs : List ℕ). take start bs ++ (xs ++ drop (start + length new - start) (drop start bs))) c.copy_from_slice.ensures.after
    ∙ ap (λ (xs : List ℕ). take start bs ++ (new ++ xs)) (drop-drop (start + length new - start) start bs ∙ ap (λ (k : ℕ). drop k bs) count)
    ∙ ap (λ (k : ℕ). take (k + c.args.at) bs ++ (new ++ drop (before c.args.f c.args.lengths.now + c.args.at + length new) bs)) c.start_of.ensures)
