use Rattle.std.proofs.Common.{◌≡◌, ◌∙◌, ◌++◌, length, drop, List, ℕ, refl, ap, arith, length-append, length-drop, length-take, take_all}
use Rattle.std.proofs.lemmas.List.{take-append-le}
use Rattle.byteorder.specs.Endian.{little_bytes}
use Rattle.irl_offer.proofs.Writing.{put_number}
use Rattle.irl_head.specs.Head.{head_version}
use Rattle.irl_head.proofs.head.put_front.Goals as goal

pub returns : goal.returns
returns c =
    let name = c.copy_from_slice.new.self in
    let front : List ℕ = name ++ drop 8 c.args.bytes.now in
    let long : length name ≡ 8 = omega (arith, c.copy_from_slice.ensures.len, length-take 8 c.args.bytes.now) in
    put_number 8 4 4 front c.write_u32.new.buf (little_bytes 4 head_version) refl refl c.write_u32.ensures
    (omega (arith, long, length-append name (drop 8 c.args.bytes.now), length-drop 8 c.args.bytes.now))
    ∙ ap (λ (l : List ℕ). l ++ little_bytes 4 head_version) (take-append-le 8 name (drop 8 c.args.bytes.now) (omega (arith, long)) ∙ take_all 8 name (omega (arith, long))
    ∙ c.copy_from_slice.ensures.after)
