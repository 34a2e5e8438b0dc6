use Rattle.std.proofs.Common.{◌≡◌, ◌∙◌, ℕ, ◌+◌, ◌*◌, suc, List, [], ◌∷◌, ◌++◌, drop, sym, ap, arith}
use Rattle.byteorder.specs.Endian.{little_number}
use Rattle.irl_layout.specs.Commits.{numbers_in}
use Rattle.irl_layout.proofs.CommitBytes.{numbers-more, to_end}
use Rattle.irl_layout.proofs.decode.numbers.Goals as goal

pub loop-i-preserved : goal.loop-i-preserved
loop-i-preserved c =
    let next : c.loop-i.i + 1 ≡ suc c.loop-i.i = omega arith in
    let read : c.read_u64.result ≡ little_number 8 (drop (8 * c.loop-i.i) c.args.bytes.now) = c.read_u64.ensures ∙ ap (little_number 8) (to_end (8 * c.loop-i.i) c.args.bytes.now) in
    c.in_ok-push.ensures.items
    ∙ ap (λ (l : List ℕ). l ++ c.read_u64.result ∷ []) c.loop-i.invariant
    ∙ ap (λ (n : ℕ). numbers_in c.loop-i.i c.args.bytes.now ++ n ∷ []) read
    ∙ sym (numbers-more c.loop-i.i c.args.bytes.now)
    ∙ ap (λ (n : ℕ). numbers_in n c.args.bytes.now) (sym next)
