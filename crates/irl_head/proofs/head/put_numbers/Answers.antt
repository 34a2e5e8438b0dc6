use Rattle.std.proofs.Common.{◌∙◌, ◌++◌, ◌-◌, length, take, drop, List, ℕ, ap, arith, append-nil, length-drop}
use Rattle.std.proofs.lemmas.List.{drop_all}
use Rattle.irl_head.proofs.head.put_numbers.Goals as goal

pub returns : goal.returns
returns c =
    let bytes = c.args.bytes.now in
    let new = c.write_u64_into.new.dst in
    ap (λ (l : List ℕ). take 12 bytes ++ (new ++ l)) (drop_all (length bytes - 12) (drop 12 bytes) (omega (arith, length-drop 12 bytes)))
    ∙ ap (λ (l : List ℕ). take 12 bytes ++ l) (append-nil new ∙ c.write_u64_into.ensures)
