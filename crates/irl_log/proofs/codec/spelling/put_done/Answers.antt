use Rattle.std.proofs.Common.{◌∙◌, ◌++◌, ◌∷◌, [], ap}
use Rattle.std.specs.Int.{w32, w64, to_le_bytes}
use Rattle.irl_log.specs.Spelling.{outcome_number, outcome_detail}
use Rattle.irl_log.proofs.Pieces.{draft, put_then}
use Rattle.irl_log.proofs.Spellings.{done_put}
use Rattle.irl_log.proofs.codec.spelling.put_done.Goals as goal

pub returns : goal.returns
returns c =
    let room = c.args.frame.now.room in
    let before = c.args.frame.now.bytes in
    let number = to_le_bytes w64 c.args.done.0 in
    let kind = c.outcome_number.result in
    let numbered = put_then room (before ++ number) (kind ∷ []) c.put_number.new.frame c.put.new.self c.put_number.ensures c.put.ensures in
    let whole = put_then room ((before ++ number) ++ kind ∷ []) c.to_le_bytes.result c.put.new.self c.put-2.new.self numbered c.put-2.ensures in
    whole
    ∙ ap (draft room) (done_put before number kind (outcome_number c.args.done.1) c.to_le_bytes.result (to_le_bytes w32 (outcome_detail c.args.done.1)) c.outcome_number.ensures
    (c.to_le_bytes.ensures ∙ ap (to_le_bytes w32) c.outcome_detail.ensures))
