use Rattle.std.proofs.Common.{◌∙◌, ℕ, ◌*◌, ◌-◌, ◌<◌, List, length, drop, ap, arith}
use Rattle.std.proofs.lemmas.List.{drop-drop}
use Rattle.byteorder.specs.Endian.{little_number}
use Rattle.irl_head.proofs.NumberBytes.{to_end}
use Rattle.irl_head.proofs.head.numbers_in.Goals as goal

pub returns : goal.returns
returns c = λ n from to.
    let below : n - 1 < length c.read_u64_into.new.dst = omega (arith, c.read_u64_into.auto.dst) in
    c.read_u64_into.ensures (n - 1) below
    ∙ ap (λ (l : List ℕ). little_number 8 (drop (8 * (n - 1)) l)) (to_end 12 c.args.payload.now)
    ∙ ap (little_number 8) (drop-drop (8 * (n - 1)) 12 c.args.payload.now)
