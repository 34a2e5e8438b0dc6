use Rattle.std.proofs.Common.{◌∙◌, ℕ, ap, take, drop}
use Rattle.irl_disk.proofs.Pieces.{before, piece_at}
use Rattle.irl_disk.proofs.sure.SureStore.new.Goals as goal

pub returns-clause-empty : goal.returns-clause-empty
returns-clause-empty c = λ f.
    let lengths = c.in_ok-zeros.field-0.items in
    let bytes = c.in_ok-vec.field-0.items in
    piece_at lengths bytes f ∙ ap (λ (n : ℕ). take n (drop (before f lengths) bytes)) (c.in_ok-zeros.ensures.each f)
