use Rattle.std.proofs.Common.{◌∙◌, ◌++◌, ◌∷◌, [], ℕ, List, length, ap}
use Rattle.std.specs.Int.{w16, w64, to_le_bytes}
use Rattle.irl_events.specs.Legal.{text_of}
use Rattle.irl_log.specs.Spelling.{state_number}
use Rattle.irl_log.proofs.Pieces.{draft, put_then}
use Rattle.irl_log.proofs.Spellings.{note_put}
use Rattle.irl_log.proofs.codec.spelling.put_note.Goals as goal

pub returns : goal.returns
returns c =
    let room = c.args.frame.now.room in
    let note = c.args.note.now in
    let before = c.args.frame.now.bytes ++ to_le_bytes w64 note.when in
    let state = c.state_number.result ∷ [] in
    let len = to_le_bytes w16 (length c.bytes.result.now) in
    let host = c.bytes-2.result.now in
    let one = put_then room before state c.put_number.new.frame c.put.new.self c.put_number.ensures c.put.ensures in
    let two = put_then room (before ++ state) len c.put.new.self c.put_length.new.frame one c.put_length.ensures in
    let three = put_then room ((before ++ state) ++ len) host c.put_length.new.frame c.put-2.new.self two c.put-2.ensures in
    let four = put_then room (((before ++ state) ++ len) ++ host) c.text_of.result.now c.put-2.new.self c.put-3.new.self three c.put-3.ensures in
    four
    ∙ ap (draft room) (note_put c.args.frame.now.bytes (to_le_bytes w64 note.when) c.state_number.result (state_number note.state) len (to_le_bytes w16 (length note.host)) host note.host
    c.text_of.result.now (text_of note.state) c.state_number.ensures (ap (λ (l : List ℕ). to_le_bytes w16 (length l)) c.bytes.ensures) c.bytes-2.ensures c.text_of.ensures)
