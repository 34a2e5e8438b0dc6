use Rattle.std.proofs.Common.{◌≡◌, ◌+◌, ◌-◌, ℕ, ap, ◌∙◌, sym, get_or, take, drop, arith}
use Rattle.irl_disk.proofs.Pieces.{piece_at}
use Rattle.irl_disk.proofs.sure.file_in.Goals as goal

pub returns : goal.returns
returns c =
    let ns = c.args.lengths.now in
    let bs = c.args.bytes.now in
    let start = c.start_of-start.result in
    let n = get_or ns c.args.f 0 in
    let count : start + n - start ≡ n = omega arith in
    ap (λ (k : ℕ). take k (drop start bs)) count ∙ ap (λ (k : ℕ). take n (drop k bs)) c.start_of-start.ensures ∙ sym (piece_at ns bs c.args.f)
