use Rattle.std.proofs.Common.{◌∙◌, ◌++◌, ap, List, ℕ}
use Rattle.std.specs.List.{flat_map}
use Rattle.byteorder.specs.Endian.{little_bytes}
use Rattle.irl_head.specs.Head.{head_name, head_version}
use Rattle.irl_head.proofs.head.encode.Goals as goal

pub returns : goal.returns
returns c =
    c.put_numbers.ensures
    ∙ ap (λ (l : List ℕ). l ++ flat_map (little_bytes 8) c.numbers_of.result) c.put_front.ensures
    ∙ ap (λ (l : List ℕ). (head_name ++ little_bytes 4 head_version) ++ flat_map (little_bytes 8) l) c.numbers_of.ensures
