use Rattle.std.proofs.Common.{◌∙◌, ap, ◌∷◌, []}
use Rattle.std.specs.Prelude.{replicate}
use Rattle.byteorder.specs.Endian.{little_bytes}
use Rattle.irl_offer.proofs.Writing.{all_put}
use Rattle.irl_offer.proofs.entry.encode.Goals as goal

pub returns : goal.returns
returns c =
    let e = c.args.entry.now in
    all_put _ (little_bytes 2 e.aux_len) (little_bytes 8 e.key) (little_bytes 8 e.value) (little_bytes 8 e.from) (replicate 27 c.number-bytes.result) c.put_u16.new.bytes c.put_u64.new.bytes
    c.put_u64-2.new.bytes c.put_u64-3.new.bytes
    (ap (λ n. n ∷ []) c.number-bytes.ensures) c.put_u16.ensures c.put_u64.ensures c.put_u64-2.ensures c.put_u64-3.ensures (c.put_u64-3.auto.bytes ∙ c.put_u64-2.auto.bytes ∙ c.put_u64.auto.bytes
    ∙ c.put_u16.auto.bytes)
